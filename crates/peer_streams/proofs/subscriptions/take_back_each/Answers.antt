-- One rule more is as before; past the first all are.
use Rattle.std.proofs.Common.{◌≡◌, ◌-◌, suc, subst, arith}
use Rattle.indexmap.proofs.CallerLemmas.{index_map_len-with_value_at}
use Rattle.peer_streams.specs.Subscriptions.{HasTakenBy, IsAsBeforeBy, FirstAndRest}
use Rattle.peer_streams.proofs.SubscribedPasses.{first_none, first_less, back_by}
use Rattle.peer_streams.proofs.subscriptions.take_back_each.Goals as goal

pub loop-left-preserved : goal.loop-left-preserved
loop-left-preserved c =
    let i = c.loop-left.left - 1 in
    let u = c.loop-left.rules.entries in
    let p = c.pair_mut-found.result in
    let next : c.loop-left.left ≡ suc i = omega (arith, c.loop-left-test.true) in
    record {
      within = omega (arith, c.loop-left.invariant.within, c.loop-left-test.true, index_map_len-with_value_at c.loop-left.rules i c.take_back.new.self);
      given = λ v m h.
          first_less (HasTakenBy m) IsAsBeforeBy i v u p.0.now p.1.now c.take_back.new.self (subst (λ n. FirstAndRest (HasTakenBy m) IsAsBeforeBy n v u) next (c.loop-left.invariant.given v m h)) c.pair_mut-found.ensures.value
          (back_by m p.0.now p.1.now c.take_back.new.self c.take_back.ensures);
    }

pub returns : goal.returns
returns c =
    let none : c.loop-left.left ≡ 0 = omega (arith, c.loop-left-test.false) in
    λ v m h. first_none (HasTakenBy m) IsAsBeforeBy v c.loop-left.rules.entries (subst (λ n. FirstAndRest (HasTakenBy m) IsAsBeforeBy n v c.loop-left.rules.entries) none (c.loop-left.invariant.given v m h))
