use Rattle.std.proofs.Common.{map}
use Rattle.wire_tree.specs.Datum.{data_of, entries_of, size_of, sizes_of}
use Rattle.wire_tree.specs.DatumView.{datum_of, pair_of}
use Rattle.row_tests.proofs.show.+show.Given as goal

abbrev pub decreases-show_all : goal.decreases-show_all
decreases-show_all l = sizes_of (data_of (map datum_of l.trees.now))

abbrev pub decreases-show_pairs : goal.decreases-show_pairs
decreases-show_pairs l = sizes_of (entries_of (map pair_of l.pairs.now))

abbrev pub decreases-show : goal.decreases-show
decreases-show l = size_of (datum_of l.tree.now)
