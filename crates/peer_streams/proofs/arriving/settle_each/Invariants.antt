-- Those that were passed are settled, and the rest has its copies still.
use Rattle.std.proofs.Common.{ℕ, List, take}
use Rattle.std.specs.{Prelude.nat_eq, HashMap.get}
use Rattle.peer_streams.specs.{Refinement.settled, Keeping.AreKept, Arriving.{parts, IsReady, ChangesEach}}
use Rattle.peer_streams.proofs.arriving.settle_each.Given as goal

abbrev pub invariant-loop-stream : goal.invariant-loop-stream
invariant-loop-stream l =
    (made : ℕ) (waiting : List ℕ) → AreKept (parts made l.fn.states.entries l.fn.lists) waiting → ((k : ℕ) → IsReady l.message (get nat_eq l.fn.states k))
    → ChangesEach (settled l.message) (take l.stream-index l.streams) waiting (parts made l.fn.states.entries l.fn.lists) (parts made l.states.entries l.lists) × ((k : ℕ) → IsReady l.message (get nat_eq l.states k))
