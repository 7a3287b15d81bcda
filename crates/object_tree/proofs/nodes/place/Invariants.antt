use Rattle.std.proofs.Common.{◌≤◌, ◌-◌, length}
use Rattle.object_tree.specs.Closed.{place}
use Rattle.object_tree.specs.Keyed.{listed}
use Rattle.object_tree.proofs.nodes.place.Given as goal

abbrev pub invariant-halve : goal.invariant-halve
invariant-halve l = (l.low ≤ place (listed l.list) l.path) × (place (listed l.list) l.path ≤ l.high) × (l.high ≤ length l.list)

abbrev pub decreases-halve : goal.decreases-halve
decreases-halve l = l.high - l.low
