use Rattle.std.proofs.Common.{◌≡◌, length}
use denote.Text.{Utf8}
use denote.Shadow.{shadow}
use Rattle.object_tree.specs.Objects.{manager_of}
use Rattle.object_tree.proofs.tree.Tree.manager.Given as goal

abbrev pub invariant-up : goal.invariant-up
invariant-up l = shadow (Utf8 l.front) × (manager_of l.self-inside.nodes l.front ≡ manager_of l.self-inside.nodes l.path)

abbrev pub decreases-up : goal.decreases-up
decreases-up l = length l.front
