use Rattle.std.proofs.Common.{◌≡◌, ◌-◌, ◌%◌, length, None, is_some, arith, rules, sym, ◌∙◌, ap, subst}
use Rattle.std.proofs.lemmas.Bool.Decides.{nat_tests}
use Rattle.wire_number.specs.ReaderView.{cursor_of}
use Rattle.wire_encoding.proofs.Loops.{many_none, some_next}
use Rattle.wire_encoding.proofs.Packed.{elements_start, fixed_items}
use Rattle.wire_encoding.proofs.Walks.{over_more, walk_basic}
use Rattle.wire_encoding.proofs.walk.+walk.Goals as goal

pub walk_array-walk_items-requires : goal.walk_array-walk_items-requires
walk_array-walk_items-requires t c = (
  search rules,
  subst (λ boundary. c.in_ok-elements.elements.place % boundary ≡ 0) c.boundary_of.ensures.exact
      (elements_start _ _ _ (cursor_of c.in_ok-elements.elements, cursor_of c.in_ok-elements.after) c.in_ok-elements.ensures c.boundary_of.ensures.some),
)

pub walk_items-returns-then-are_packed : goal.walk_items-returns-then-are_packed
walk_items-returns-then-are_packed t c =
    sym c.if-are_packed.true ∙ fixed_items _ _ _ _ (cursor_of c.args.elements) _ c.in-Some.ensures c.requires c.are_packed.ensures

pub walk_items-returns-else-are_packed : goal.walk_items-returns-else-are_packed
walk_items-returns-else-are_packed t c =
    sym c.if-are_packed.false ∙ fixed_items _ _ _ _ (cursor_of c.args.elements) _ c.in-Some.ensures c.requires c.are_packed.ensures

pub walk_each-returns-in_err-after : goal.walk_each-returns-in_err-after
walk_each-returns-in_err-after t c =
    rw c.from_residual.ensures
    (sym (c.loop.invariant
    ∙ ap is_some (many_none (length c.args.elements.rest.now - c.loop.counter - 1) _ _ (cursor_of c.loop.left) (omega arith) (grind (arith, nat_tests)) c.in_err-after.ensures)))

pub walk_each-loop-preserved : goal.walk_each-loop-preserved
walk_each-loop-preserved t c =
    c.loop.invariant ∙ some_next _ _ _ (cursor_of c.loop.left) _ (omega arith) (grind (arith, nat_tests)) c.in_ok-after.ensures

pub walk_fields-returns-in_err-rest : goal.walk_fields-returns-in_err-rest
walk_fields-returns-in_err-rest t c =
    rw c.from_residual-in_err-rest.ensures
    (c.loop.invariant ∙ over_more _ (length c.args.text.now - c.loop.counter - 1) _ _ _ None (omega arith) c.in_default.ensures c.in_err-rest.ensures)

pub walk_fields-loop-preserved : goal.walk_fields-loop-preserved
walk_fields-loop-preserved t c = c.loop.invariant ∙ over_more _ _ _ _ _ _ (omega arith) c.in_default.ensures c.in_ok-rest.ensures

pub walk_value-returns-in_err-after : goal.walk_value-returns-in_err-after
walk_value-returns-in_err-after t c =
    rw c.from_residual-in_err-after.ensures (walk_basic _ _ _ _ _ _ _ None c.in_ok-letter.ensures c.in-Some.ensures c.in_err-after.ensures)

pub walk_value-returns-in-Some : goal.walk_value-returns-in-Some
walk_value-returns-in-Some t c = walk_basic _ _ _ _ _ _ _ _ c.in_ok-letter.ensures c.in-Some.ensures c.in_ok-after.ensures
