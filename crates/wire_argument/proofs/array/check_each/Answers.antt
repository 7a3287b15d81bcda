use Rattle.std.proofs.Common.{rules, ◌≡◌, ◌+◌, take, sym, subst, arith}
use Rattle.wire_signature.specs.declared.error.VariantError.TheVariants as errors
use Rattle.wire_argument.proofs.Elements.{element_item}
use Rattle.wire_argument.proofs.Passing.{Passing, passing_ok, passing_deep, passing_end, other_check, deep_check, elements_from}
use Rattle.wire_argument.proofs.array.check_each.Goals as goal
use Rattle.wire_argument.proofs.array.check_each.Goals.{in-Ok, in-Err-Depth}

pub returns-in-Err : goal.returns-in-Err
returns-in-Err g c =
    let other : c.in-Err.field-0 ≡ errors.Depth → ⊥ = search rules in record {
      told = λ k. other_check c.in-Err.field-0 _ _ _ other c.in-Err.ensures.told
          (element_item g.T.Argument.datum g.T.Argument.kind c.args.items.now c.loop-item.item-index c.item-item.result k c.loop-item-test.true c.item-item.is).0;
      round = tt;
    }

pub loop-item-preserved : goal.loop-item-preserved
loop-item-preserved g c = (
  elim c.match-check.branch [
    | in-Ok w ↦ subst (λ deep. Passing g.T.Argument.datum g.T.Argument.read deep c.args.room (take (c.loop-item.item-index + 1) c.args.items.now)) (sym w.deep-is)
        (passing_ok g.T.Argument.datum g.T.Argument.read c.loop-item.deep c.args.room _ c.args.items.now c.loop-item.item-index c.item-item.result c.loop-item.invariant.0 c.loop-item-test.true c.item-item.is c.loop-item.invariant.1
        w.in-Ok.ensures.told w.in-Ok.ensures.round)
    | in-Err-Depth w ↦ subst (λ deep. Passing g.T.Argument.datum g.T.Argument.read deep c.args.room (take (c.loop-item.item-index + 1) c.args.items.now)) (sym w.deep-is)
        (passing_deep g.T.Argument.datum g.T.Argument.read c.loop-item.deep c.args.room _ c.args.items.now c.loop-item.item-index c.item-item.result c.loop-item.invariant.0 c.loop-item-test.true c.item-item.is c.loop-item.invariant.1
        (deep_check w.in-Err-Depth.field-0 _ _ _ (search rules) w.in-Err-Depth.ensures.told))
  ],
  c.loop-item.invariant.1,
)

pub returns-then-deep-clause-told : goal.returns-then-deep-clause-told
returns-then-deep-clause-told g c =
    let p = passing_end g.T.Argument.datum g.T.Argument.read c.loop-item.deep c.args.room c.args.items.now c.loop-item.item-index c.loop-item.invariant.0 (omega arith) in
    (elements_from g.T.Argument.datum g.T.Argument.kind c.args.items.now g.met.T.Argument.of_kind p.well, p.deeper c.if-deep.true)

pub returns-else-deep-clause-told : goal.returns-else-deep-clause-told
returns-else-deep-clause-told g c =
    let p = passing_end g.T.Argument.datum g.T.Argument.read c.loop-item.deep c.args.room c.args.items.now c.loop-item.item-index c.loop-item.invariant.0 (omega arith) in
    (elements_from g.T.Argument.datum g.T.Argument.kind c.args.items.now g.met.T.Argument.of_kind p.well, (p.shallow c.if-deep.false).0)
