-- One rule more is counted; past the last all are.
use Rattle.std.proofs.Common.{arith}
use Rattle.std.specs.{Map.values_of}
use Rattle.peer_streams.specs.{Names.Subscription, Subscriptions.{MostIsHeld}}
use Rattle.peer_streams.proofs.{SubscribedLookups.are_distinct, SubscribedCounts.{count_next, told_next, told_all, counted_all}}
use Rattle.peer_streams.proofs.subscriptions.count_full.Goals as goal

pub loop-index-preserved : goal.loop-index-preserved
loop-index-preserved c =
    let xs = values_of c.args.rules.now.entries in
    record {
      counted = count_next xs c.loop-index.index c.loop-index.count c.index.result.now c.is_full.result c.index.ensures c.loop-index.invariant.counted c.is_full.ensures.full;
      told = told_next (λ (s : Subscription). MostIsHeld s.list) xs c.loop-index.index c.index.result.now c.index.ensures c.is_full.ensures.most c.loop-index.invariant.told;
    }

pub returns-clause-count : goal.returns-clause-count
returns-clause-count c =
    counted_all c.args.rules.now.entries c.loop-index.index c.loop-index.count (omega (arith, c.loop-index-test.false, c.len-index-end.ensures.len)) c.loop-index.invariant.counted

pub returns-clause-most : goal.returns-clause-most
returns-clause-most c =
    told_all (λ (s : Subscription). MostIsHeld s.list) c.args.rules.now.entries c.loop-index.index (omega (arith, c.loop-index-test.false, c.len-index-end.ensures.len)) c.loop-index.invariant.told

pub returns-clause-distinct : goal.returns-clause-distinct
returns-clause-distinct c = are_distinct c.args.rules.now.entries c.len-index-end.ensures.unique
