use Rattle.std.proofs.Common.{◌≡◌, ◌≤◌, ◌-◌, length, take}
use Rattle.object_tree.proofs.walk.common.Given as goal

abbrev pub invariant-same : goal.invariant-same
invariant-same l = (take l.n l.a ≡ take l.n l.b) × (l.n ≤ length l.a) × (l.n ≤ length l.b)

abbrev pub decreases-same : goal.decreases-same
decreases-same l = length l.a - l.n
