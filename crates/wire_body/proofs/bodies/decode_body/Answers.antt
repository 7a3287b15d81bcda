use Rattle.std.proofs.Common.{◌+◌, drop, arith, sym, subst, List}
use Rattle.std.proofs.lemmas.Result.{err_from_is_err_and}
use Rattle.wire_tree.specs.Datum.{Datum}
use Rattle.wire_body.proofs.Behind.{Behind, all_read, explained_of_rest, none_behind, only_read, read_of_rest}
use Rattle.wire_body.proofs.bodies.decode_body.Goals as goal

pub returns-in_err-value-clause-error : goal.returns-in_err-value-clause-error
returns-in_err-value-clause-error c =
    let p = err_from_is_err_and c.from_residual.result c.from_residual.ensures.1 in
    rw (p.1, p.2, sym c.types-types.ensures.types)
    (explained_of_rest c.in_err-value.field-0.0 c.args.order c.types-types.result.now c.loop-value_type.value_type-index c.value_type-item.result c.loop-value_type.values.items
    c.loop-value_type.at c.args.bytes.now c.loop-value_type-test.true c.value_type-item.is c.loop-value_type.invariant c.in_err-value.ensures.error)

pub loop-value_type-preserved : goal.loop-value_type-preserved
loop-value_type-preserved c =
    subst (λ (vs : List Datum). Behind c.args.order c.types-types.result.now (drop (c.loop-value_type.value_type-index + 1) c.types-types.result.now) vs (c.loop-value_type.at + c.in_ok-value.count) c.args.bytes.now)
    (sym c.in_ok-push.ensures.items)
    (read_of_rest c.args.order c.types-types.result.now c.loop-value_type.value_type-index c.value_type-item.result _ c.loop-value_type.at c.args.bytes.now
    c.in_ok-value.value c.in_ok-value.count c.loop-value_type-test.true c.value_type-item.is c.loop-value_type.invariant
    c.in_ok-value.ensures.found c.in_ok-value.ensures.within)

pub returns-clause-found : goal.returns-clause-found
returns-clause-found c =
    rw (sym c.types-types.ensures.types)
    (all_read c.args.order c.types-types.result.now _ c.loop-value_type.at c.args.bytes.now
    (none_behind _ _ c.loop-value_type.value_type-index _ _ _ (omega (arith, c.loop-value_type-test.false)) c.loop-value_type.invariant))

pub returns-clause-only : goal.returns-clause-only
returns-clause-only c =
    rw (sym c.types-types.ensures.types)
    (only_read c.args.order c.types-types.result.now _ c.loop-value_type.at c.args.bytes.now
    (none_behind _ _ c.loop-value_type.value_type-index _ _ _ (omega (arith, c.loop-value_type-test.false)) c.loop-value_type.invariant))
