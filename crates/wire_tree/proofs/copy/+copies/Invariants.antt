use Rattle.std.proofs.Common.{◌≡◌, map, take}
use Rattle.wire_tree.specs.Datum.{data_of, entries_of, size_of, sizes_of}
use Rattle.wire_tree.specs.DatumView.{datum_of, pair_of}
use Rattle.wire_tree.proofs.copy.+copies.Given as goal

abbrev pub decreases-copies_of : goal.decreases-copies_of
decreases-copies_of l = sizes_of (data_of (map datum_of l.trees.now))

abbrev pub decreases-copies_of_pairs : goal.decreases-copies_of_pairs
decreases-copies_of_pairs l = sizes_of (entries_of (map pair_of l.pairs.now))

abbrev pub decreases-copy_of : goal.decreases-copy_of
decreases-copy_of l = size_of (datum_of l.tree.now)

abbrev pub invariant-copies_of-loop-each : goal.invariant-copies_of-loop-each
invariant-copies_of-loop-each l = map datum_of l.copies.items ≡ map datum_of (take l.each-index l.trees)

abbrev pub invariant-copies_of_pairs-loop-each : goal.invariant-copies_of_pairs-loop-each
invariant-copies_of_pairs-loop-each l = map pair_of l.copies.items ≡ map pair_of (take l.each-index l.pairs)
