-- The other streams hold what they held.
use Rattle.std.proofs.Common.{◌≡◌, ℕ}
use Rattle.peer_lists.specs.Holdings.{held_by}
use Rattle.peer_lists.proofs.Cloning.{held_count}
use Rattle.peer_lists.proofs.shared_list.SharedList.close.Given as goal

abbrev pub invariant-loop : goal.invariant-loop
invariant-loop l = (k : ℕ) → (l.stream ≡ k → ⊥) → held_by l.self k ≡ held_by l.fn.self k

abbrev pub decreases-loop : goal.decreases-loop
decreases-loop l = held_count (held_by l.self l.stream)
