use Rattle.std.proofs.Common.{◌≡◌, length, map, take}
use Rattle.wire_signature.specs.SingleType.{single_types_of}
use Rattle.wire_tree.specs.Datum.{data_of, size_of, sizes_of, types_of}
use Rattle.wire_tree.specs.DatumView.{datum_of}
use Rattle.wire_tree.proofs.typed.+of_type.Given as goal

abbrev pub decreases-have_types : goal.decreases-have_types
decreases-have_types l = sizes_of (data_of (map datum_of l.trees.now))

abbrev pub decreases-has_type : goal.decreases-has_type
decreases-has_type l = size_of (datum_of l.tree.now)

abbrev pub invariant-have_types-loop-i : goal.invariant-have_types-loop-i
invariant-have_types-loop-i l = (types_of (data_of (map datum_of (take l.i l.trees))) ≡ single_types_of (take l.i l.types)) × (length l.trees ≡ length l.types)
