use Rattle.std.proofs.Common.{◌≡◌, ◌≤◌, ◌-◌, ◌++◌, length}
use Rattle.object_tree.proofs.Stepped.{ways_to}
use Rattle.object_tree.proofs.walk.push_ways.Given as goal

abbrev pub invariant-next : goal.invariant-next
invariant-next l = (l.list.items ≡ l.initial.list.items ++ ways_to l.last l.path l.at) × (l.at ≤ length l.path)

abbrev pub decreases-next : goal.decreases-next
decreases-next l = length l.path - l.at
