-- The rules that were passed are counted.
use Rattle.std.proofs.Common.{◌≡◌, take}
use Rattle.std.specs.{List.{count_by, All}, Map.values_of}
use Rattle.peer_streams.specs.{Names.Subscription, Subscriptions.{is_full_one, MostIsHeld}}
use Rattle.peer_streams.proofs.subscriptions.count_full.Given as goal

abbrev pub invariant-loop-index : goal.invariant-loop-index
invariant-loop-index l = record {
  counted : l.count ≡ count_by is_full_one (take l.index (values_of l.rules.entries));
  told : All (λ (s : Subscription). MostIsHeld s.list) (take l.index (values_of l.rules.entries));
}
