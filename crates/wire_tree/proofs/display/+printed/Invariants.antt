use Rattle.std.proofs.Common.{[], false, map, take}
use Rattle.std.specs.Fmt.{HasWritten, IsPlainFormatter}
use Rattle.wire_tree.specs.Datum.{data_of, entries_of, size_of, sizes_of}
use Rattle.wire_tree.specs.DatumView.{datum_of, pair_of}
use Rattle.wire_tree.specs.Printing.{datum_text}
use Rattle.wire_tree.proofs.Printed.{listed, pair_text}
use Rattle.wire_tree.proofs.display.+printed.Given as goal

abbrev pub decreases-write_trees : goal.decreases-write_trees
decreases-write_trees g l = sizes_of (data_of (map datum_of l.trees.now))

abbrev pub decreases-write_entries : goal.decreases-write_entries
decreases-write_entries g l = sizes_of (entries_of (map pair_of l.pairs.now))

abbrev pub decreases-write_tree : goal.decreases-write_tree
decreases-write_tree g l = size_of (datum_of l.tree.now)

abbrev pub invariant-write_trees-loop-i : goal.invariant-write_trees-loop-i
invariant-write_trees-loop-i g l =
    IsPlainFormatter l.initial.f → HasWritten g.W.Write.write_str_gives l.initial.f
    (listed (λ told t. datum_text told (datum_of t)) [] l.first l.later (take l.i l.trees)) l.f

abbrev pub invariant-write_entries-loop-i : goal.invariant-write_entries-loop-i
invariant-write_entries-loop-i g l =
    IsPlainFormatter l.initial.f → HasWritten g.W.Write.write_str_gives l.initial.f (listed pair_text [] l.told false (take l.i l.pairs)) l.f
