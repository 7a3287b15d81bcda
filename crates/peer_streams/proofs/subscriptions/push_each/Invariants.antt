-- The rules that were passed have the message, and the candidate is the message.
use Rattle.std.proofs.Common.{◌≡◌, ◌+◌}
use Rattle.peer_streams.specs.Subscriptions.{HasTakenBy, IsAsBeforeBy, FirstAndRest}
use Rattle.peer_streams.proofs.subscriptions.push_each.Given as goal

abbrev pub invariant-loop-index : goal.invariant-loop-index
invariant-loop-index g l = record {
  counted : l.steps ≡ l.fn.steps + l.index;
  candidate : l.candidate ≡ l.message;
  given : FirstAndRest (HasTakenBy l.message) IsAsBeforeBy l.index l.fn.rules.entries l.rules.entries;
}
