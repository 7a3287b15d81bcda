use Rattle.std.proofs.Common.{◌≡◌, ◌-◌, ◌++◌, length, IsTrue}
use denote.Text.{Utf8}
use denote.Shadow.{shadow}
use Rattle.wire_names.specs.Names.{is_object_path}
use Rattle.object_tree.specs.Closed.{walked}
use Rattle.object_tree.specs.Keyed.{listed}
use Rattle.object_tree.proofs.Walked.{so_far}
use Rattle.object_tree.proofs.nodes.push_below.Given as goal

abbrev pub invariant-next : goal.invariant-next
invariant-next l = shadow (Utf8 l.last) × (so_far l.path (listed l.nodes) l.list.items l.last l.at ≡ l.initial.list.items ++ walked l.path (listed l.nodes) l.from) × IsTrue (is_object_path l.last)

abbrev pub decreases-next : goal.decreases-next
decreases-next l = length l.nodes - l.at
