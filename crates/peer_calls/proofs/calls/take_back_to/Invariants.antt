-- Those that stay are as they were, and the map has the serials that the rest waits for.
use Rattle.std.proofs.Common.{◌≡◌, length, take}
use Rattle.peer_calls.specs.Refinement.{IsIndex}
use Rattle.peer_calls.proofs.calls.take_back_to.Given as goal

abbrev pub invariant-loop-slots : goal.invariant-loop-slots
invariant-loop-slots l =
    (take l.count l.slots ≡ take l.count l.initial.slots)
    × (IsIndex l.initial.waiting l.initial.slots → IsIndex l.waiting l.slots)

abbrev pub decreases-loop-slots : goal.decreases-loop-slots
decreases-loop-slots l = length l.slots
