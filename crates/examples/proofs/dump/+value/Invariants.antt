use Rattle.std.proofs.Common.{map}
use Rattle.wire_tree.specs.Datum.{data_of, size_of, sizes_of}
use Rattle.wire_tree.specs.DatumView.{datum_of}
use Rattle.examples.proofs.dump.+value.Given as goal

abbrev pub decreases-print_list : goal.decreases-print_list
decreases-print_list l = sizes_of (data_of (map datum_of l.trees.now))

abbrev pub decreases-print_value : goal.decreases-print_value
decreases-print_value l = size_of (datum_of l.tree.now)
