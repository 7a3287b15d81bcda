use Rattle.std.proofs.Common.{◌+◌, ◌-◌, length, arith, ◌∙◌, ap}
use Rattle.std.proofs.lemmas.Bool.Decides.{nat_tests}
use Rattle.std.proofs.lemmas.Result.{err_from_is_err_and}
use Rattle.wire_number.specs.Reading.{made}
use Rattle.wire_number.specs.ReaderView.{cursor_of}
use Rattle.wire_encoding.specs.Reading.{value_at}
use Rattle.wire_encoding.proofs.Loops.{many_none, many_left, joined, joined_end, joined_more, refuses_as}
use Rattle.wire_argument.proofs.argument.Argument.decode_each.Goals as goal

pub returns-then-is_empty : goal.returns-then-is_empty
returns-then-is_empty g c = c.loop.invariant ∙ joined_end _ _ (cursor_of c.loop.left) _ (grind (arith, nat_tests))

pub returns-in_err-item : goal.returns-in_err-item
returns-in_err-item g c =
    let p = err_from_is_err_and c.from_residual.result c.from_residual.ensures.1 in
    rw (p.1, p.2)
    (refuses_as _ (made g.Self.Argument.read (value_at c.args.room c.args.order g.Self.Argument.kind (cursor_of c.loop.left))) _
    (λ none. c.loop.invariant ∙ ap (joined _) (many_none (length c.args.elements.rest.now - c.loop.counter - 1) _ _ (cursor_of c.loop.left) (omega arith) (grind (arith, nat_tests)) none))
    c.in_err-item.ensures)

pub loop-preserved : goal.loop-preserved
loop-preserved g c =
    rw c.in_ok-push.ensures.items
    (joined_more (length c.args.elements.rest.now - (c.loop.counter + 1)) _ _ (cursor_of c.loop.left) _ _ _ c.loop.invariant (omega arith) (grind (arith, nat_tests)) c.in_ok-item.ensures)

pub returns-then-is_empty-2 : goal.returns-then-is_empty-2
returns-then-is_empty-2 g c = c.loop.invariant ∙ joined_end _ _ (cursor_of c.loop.left) _ (grind (arith, nat_tests))

pub returns-else-is_empty-2 : goal.returns-else-is_empty-2
returns-else-is_empty-2 g c =
    c.loop.invariant ∙ ap (joined _) (many_left (length c.args.elements.rest.now - c.loop.counter) _ (cursor_of c.loop.left) (omega arith) (grind (arith, nat_tests)))
