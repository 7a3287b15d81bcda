-- One rule more has the message; past the last all have.
use Rattle.std.proofs.Common.{◌≡◌, ◌≤◌, suc, length, sym, ap, ◌∙◌, subst, arith, add-one}
use Rattle.indexmap.specs.IndexMap.{set_value_at}
use Rattle.peer_streams.specs.Names.{accepts}
use Rattle.peer_streams.specs.Subscriptions.{HasTakenBy, IsAsBeforeBy, FirstAndRest}
use Rattle.peer_streams.proofs.SubscribedPasses.{first_all, first_length, first_start, first_more, set_same_at, before_same, taken_by, on_is_err, on_is_ok}
use Rattle.peer_streams.proofs.subscriptions.push_each.Goals as goal

pub loop-index-init : goal.loop-index-init
loop-index-init g c = record {
  counted = omega arith;
  candidate = c.new-candidate.ensures;
  given = first_start (HasTakenBy c.args.message.now) IsAsBeforeBy before_same c.args.rules.now.entries;
}

pub pair_mut-found-requires : goal.pair_mut-found-requires
pair_mut-found-requires g c =
    omega (arith, c.loop-index-test.true, c.len-index-end.ensures.len, first_length (HasTakenBy c.args.message.now) IsAsBeforeBy c.loop-index.index c.args.rules.now.entries c.loop-index.rules.entries c.loop-index.invariant.given)

pub returns-then-is_err-clause-within : goal.returns-then-is_err-clause-within
returns-then-is_err-clause-within g c =
    let u = c.loop-index.rules.entries in
    let s = c.pair_mut-found.result.1.now in
    let same : c.push.new.self ≡ s = on_is_err c.push.result (sym c.is_err.ensures.value ∙ c.if-is_err.true) c.push.ensures.err in
    let kept : set_value_at u c.loop-index.index c.push.new.self ≡ u = ap (set_value_at u c.loop-index.index) same ∙ set_same_at u c.loop-index.index c.pair_mut-found.result.0.now s c.pair_mut-found.ensures.value in
    subst (λ l. c.loop-index.index ≤ length l) (sym kept)
    (omega (arith, c.loop-index-test.true, c.len-index-end.ensures.len, first_length (HasTakenBy c.args.message.now) IsAsBeforeBy c.loop-index.index c.args.rules.now.entries u c.loop-index.invariant.given))

pub returns-then-is_err-clause-err : goal.returns-then-is_err-clause-err
returns-then-is_err-clause-err g c =
    let u = c.loop-index.rules.entries in
    let s = c.pair_mut-found.result.1.now in
    let same : c.push.new.self ≡ s = on_is_err c.push.result (sym c.is_err.ensures.value ∙ c.if-is_err.true) c.push.ensures.err in
    let kept : set_value_at u c.loop-index.index c.push.new.self ≡ u = ap (set_value_at u c.loop-index.index) same ∙ set_same_at u c.loop-index.index c.pair_mut-found.result.0.now s c.pair_mut-found.ensures.value in
    subst (λ l. FirstAndRest (HasTakenBy c.args.message.now) IsAsBeforeBy c.loop-index.index c.args.rules.now.entries l) (sym kept) c.loop-index.invariant.given

pub loop-index-preserved : goal.loop-index-preserved
loop-index-preserved g c =
    let i = c.loop-index.index in
    let u = c.loop-index.rules.entries in
    let p = c.pair_mut-found.result in
    let taken = on_is_ok c.push.result (sym c.is_err.ensures.value ∙ c.if-is_err.false) c.push.ensures.ok in
    let more : FirstAndRest (HasTakenBy c.args.message.now) IsAsBeforeBy (suc i) c.args.rules.now.entries (set_value_at u i c.push.new.self) =
    first_more (HasTakenBy c.args.message.now) IsAsBeforeBy i c.args.rules.now.entries u p.0.now p.1.now c.push.new.self c.loop-index.invariant.given c.pair_mut-found.ensures.value
    (taken_by c.args.message.now p.0.now p.1.now c.push.new.self c.test-tested.result
    (c.test-tested.ensures.accepts ∙ ap (accepts p.0.now) c.loop-index.invariant.candidate) taken) in
    record {
      counted = omega (arith, c.test-tested.ensures.step, c.loop-index.invariant.counted);
      candidate = c.test-tested.ensures.same ∙ c.loop-index.invariant.candidate;
      given = subst (λ n. FirstAndRest (HasTakenBy c.args.message.now) IsAsBeforeBy n c.args.rules.now.entries (set_value_at u i c.push.new.self)) (sym (add-one i)) more;
    }

pub returns-clause-ok : goal.returns-clause-ok
returns-clause-ok g c =
    first_all (HasTakenBy c.args.message.now) IsAsBeforeBy c.loop-index.index c.args.rules.now.entries c.loop-index.rules.entries
    (omega (arith, c.loop-index-test.false, c.len-index-end.ensures.len, first_length (HasTakenBy c.args.message.now) IsAsBeforeBy c.loop-index.index c.args.rules.now.entries c.loop-index.rules.entries c.loop-index.invariant.given))
    c.loop-index.invariant.given
