use Rattle.std.proofs.Common.{◌≡◌, ◌+◌, ◌*◌, length, map, take}
use Rattle.wire_tree.specs.Datum.{data_of, entries_of, size_of, sizes_of}
use Rattle.wire_tree.specs.DatumView.{datum_of, pair_of}
use Rattle.wire_tree.proofs.same.+same.Given as goal

abbrev pub decreases-are_same : goal.decreases-are_same
decreases-are_same l = 2 * sizes_of (data_of (map datum_of l.trees.now))

abbrev pub decreases-are_same_pairs : goal.decreases-are_same_pairs
decreases-are_same_pairs l = 2 * sizes_of (entries_of (map pair_of l.pairs.now))

abbrev pub decreases-is_same : goal.decreases-is_same
decreases-is_same l = 2 * size_of (datum_of l.tree.now)

abbrev pub decreases-is_same_pair : goal.decreases-is_same_pair
decreases-is_same_pair l = 2 * (size_of (datum_of l.pair.now.0) + size_of (datum_of l.pair.now.1)) + 1

abbrev pub invariant-are_same-loop-i : goal.invariant-are_same-loop-i
invariant-are_same-loop-i l = (map datum_of (take l.i l.trees) ≡ map datum_of (take l.i l.others)) × (length l.trees ≡ length l.others)

abbrev pub invariant-are_same_pairs-loop-i : goal.invariant-are_same_pairs-loop-i
invariant-are_same_pairs-loop-i l = (map pair_of (take l.i l.pairs) ≡ map pair_of (take l.i l.others)) × (length l.pairs ≡ length l.others)
