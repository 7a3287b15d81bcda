use Rattle.std.proofs.Common.{arith}
use Rattle.std.proofs.lemmas.Result.{err_from_is_err_and}
use Rattle.wire_body.proofs.BodyLaws.{value_next, values_done, value_refused}
use Rattle.wire_body.proofs.bodies.write_each.Goals as goal

pub loop-value-init : goal.loop-value-init
loop-value-init c = λ r new w. w

pub returns-in_err-write_value : goal.returns-in_err-write_value
returns-in_err-write_value c =
    let p = err_from_is_err_and c.from_residual.result c.from_residual.ensures.1 in
    rw (p.1, p.2)
    (value_refused c.args.values.now c.loop-value.value-index _ _ c.loop-value.invariant c.value-item.result _ _ c.loop-value-test.true c.value-item.is c.tree.ensures.tree _ c.in_err-write_value.ensures)

pub loop-value-preserved : goal.loop-value-preserved
loop-value-preserved c =
    value_next c.args.values.now c.loop-value.value-index _ _ c.loop-value.invariant c.value-item.result _ _ c.loop-value-test.true c.value-item.is c.tree.ensures.tree c.in_ok-write_value.ensures

pub returns : goal.returns
returns c = values_done c.args.values.now c.loop-value.value-index _ _ c.loop-value.invariant (omega arith)
