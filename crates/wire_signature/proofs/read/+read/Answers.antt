use Rattle.std.proofs.Common.{◌≡◌, ◌-◌, ◌∷◌, Some, None, arith, sym, ◌∙◌, ap}
use Rattle.std.proofs.lemmas.Result.{err_from_is_err_and}
use Rattle.wire_signature.specs.declared.error.VariantError.TheVariants as errors
use Rattle.wire_signature.specs.TypeView.{single_type_of}
use Rattle.wire_signature.specs.Parsing.{behind, type_at, type_step}
use Rattle.wire_signature.proofs.Steps.{type_at-kind}
use Rattle.wire_signature.proofs.Rows.{type_valid, type_shorter, tells_as, before-end, before-last, before-more, before-none}
use Rattle.wire_signature.proofs.read.+read.Goals as goal

pub read_type-returns-in_err-node : goal.read_type-returns-in_err-node
read_type-returns-in_err-node t c =
    let p = err_from_is_err_and c.from_residual-in_err-node.result c.from_residual-in_err-node.ensures.1 in
    let e : c.args.text.now ≡ c.in_ok-first.first ∷ c.in_ok-first.rest.now = grind arith in
    rw (p.1, p.2)
    (tells_as _ (type_step (type_at (c.args.room - 1)) c.args.arrays c.args.structs (c.in_ok-first.first ∷ c.in_ok-first.rest.now)) _
    (λ none. type_at-kind _ _ _ _ _ _ (omega arith) e ∙ none) c.in_err-node.ensures)

pub read_type-from_node-requires : goal.read_type-from_node-requires
read_type-from_node-requires t c =
    let e : c.args.text.now ≡ c.in_ok-first.first ∷ c.in_ok-first.rest.now = grind arith in
    type_valid c.args.room c.args.arrays c.args.structs c.args.text.now (single_type_of c.in_ok-node.node) c.in_ok-node.rest.now
    (type_at-kind _ _ _ _ _ _ (omega arith) e ∙ c.in_ok-node.ensures)
    c.requires.arrays c.requires.structs c.requires.short

pub read_type-returns : goal.read_type-returns
read_type-returns t c =
    let e : c.args.text.now ≡ c.in_ok-first.first ∷ c.in_ok-first.rest.now = grind arith in
    type_at-kind _ _ _ _ _ _ (omega arith) e ∙ c.in_ok-node.ensures ∙ ap (λ u. Some (u, c.in_ok-node.rest.now)) (sym c.from_node.ensures)

pub read_types-returns-in-Some : goal.read_types-returns-in-Some
read_types-returns-in-Some t c = before-end _ _ _ _ _ _ _ c.loop.invariant.0 (sym c.in-Some.ensures)

pub read_types-returns-in_err-one : goal.read_types-returns-in_err-one
read_types-returns-in_err-one t c =
    let p = err_from_is_err_and c.from_residual.result c.from_residual.ensures.1 in
    rw (p.1, p.2)
    (tells_as _ (type_at c.args.room c.args.arrays c.args.structs c.loop.rest.now) _
    (λ none. before-none _ _ _ _ _ _ c.loop.invariant.0 (omega arith) (sym c.in_default.ensures) none) c.in_err-one.ensures)

pub read_types-loop-preserved : goal.read_types-loop-preserved
read_types-loop-preserved t c = (
  rw c.in_ok-push.ensures.items (before-more _ _ _ _ _ _ _ _ _ c.loop.invariant.0 (omega arith) (sym c.in_default.ensures) c.in_ok-one.ensures),
  type_shorter _ _ _ _ _ _ c.in_ok-one.ensures c.loop.invariant.1,
)

pub read_types-returns-in_err-after : goal.read_types-returns-in_err-after
read_types-returns-in_err-after t c =
    let p = err_from_is_err_and c.from_residual-in_err-after.result c.from_residual-in_err-after.ensures.1 in
    let end : behind c.args.until c.loop.rest.now ≡ None = grind arith in
    let refused : c.in_err-after.field-0.0 ≡ errors.Signature = grind arith in
    rw (p.1, p.2, refused) (before-last _ _ _ _ _ _ c.loop.invariant.0 (omega arith) end)

pub read_types-returns : goal.read_types-returns
read_types-returns t c =
    let end : behind c.args.until c.loop.rest.now ≡ Some c.in_ok-after.after.now = grind arith in
    before-end _ _ _ _ _ _ _ c.loop.invariant.0 end
