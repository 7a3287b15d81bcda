-- Those that were passed are lost where they wait for the return.
use Rattle.std.proofs.Common.{ℕ, List, take}
use Rattle.peer_streams.specs.{Refinement.lost, Keeping.AreKept, Arriving.{parts, ChangesEach}}
use Rattle.peer_streams.proofs.arriving.lose_each.Given as goal

abbrev pub invariant-loop-stream : goal.invariant-loop-stream
invariant-loop-stream l =
    (made : ℕ) (waiting : List ℕ) → AreKept (parts made l.fn.states.entries l.fn.lists) waiting
    → ChangesEach (lost l.index) (take l.stream-index l.streams) waiting (parts made l.fn.states.entries l.fn.lists) (parts made l.states.entries l.lists)
