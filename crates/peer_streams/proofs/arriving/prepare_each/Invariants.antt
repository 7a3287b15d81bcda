-- Nothing changed but for copies, and those that were passed have theirs.
use Rattle.std.proofs.Common.{◌≡◌, ℕ, ◌==◌, true, take}
use Rattle.std.specs.{Prelude.nat_eq, List.list_any, Option.option_map, HashMap.get}
use Rattle.peer_streams.specs.Arriving.{quiet, IsReady}
use Rattle.peer_streams.proofs.arriving.prepare_each.Given as goal

abbrev pub invariant-loop-stream : goal.invariant-loop-stream
invariant-loop-stream l =
    ((k : ℕ) → option_map quiet (get nat_eq l.states k) ≡ option_map quiet (get nat_eq l.fn.states k))
    × ((k : ℕ) → list_any (λ n. n == k) (take l.stream-index l.streams) ≡ true → IsReady l.message (get nat_eq l.states k))
