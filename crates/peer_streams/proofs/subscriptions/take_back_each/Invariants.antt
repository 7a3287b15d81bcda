-- The rules that are left have the message still.
use Rattle.std.proofs.Common.{◌≤◌, length}
use Rattle.peer_streams.specs.{Names.MessageView, Subscriptions.{Subscribed, HasTakenBy, IsAsBeforeBy, FirstAndRest}}
use Rattle.peer_streams.proofs.subscriptions.take_back_each.Given as goal

abbrev pub invariant-loop-left : goal.invariant-loop-left
invariant-loop-left l = record {
  within : l.left ≤ length l.rules.entries;
  given : (v : Subscribed) (m : MessageView) → FirstAndRest (HasTakenBy m) IsAsBeforeBy l.count v l.fn.rules.entries → FirstAndRest (HasTakenBy m) IsAsBeforeBy l.left v l.rules.entries;
}

abbrev pub decreases-loop-left : goal.decreases-loop-left
decreases-loop-left l = l.left
