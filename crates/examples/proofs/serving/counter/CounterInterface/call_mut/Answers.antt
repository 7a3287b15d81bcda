use Rattle.std.proofs.Common.{sym, ap, ◌∙◌, codes}
use Rattle.object_tree.specs.Objects.{is_same}
use Rattle.examples.proofs.Counting.{counts}
use Rattle.examples.proofs.serving.counter.CounterInterface.call_mut.Goals as goal

pub returns-then-eq-clause-told : goal.returns-then-eq-clause-told
returns-then-eq-clause-told c =
    let is = sym (c.eq.ensures ∙ ap (λ t. is_same t (codes "Next")) c.as_str.ensures.value) ∙ c.if-eq.true in
    counts c.step.result c.args.member.now _ _ is c.step.ensures.count c.step.ensures.told
