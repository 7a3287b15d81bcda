use Rattle.std.proofs.Common.{◌≡◌, ◌++◌, map, take, string_bytes}
use Rattle.wire_signature.specs.SingleType.{types_text}
use Rattle.wire_tree.specs.Datum.{data_of, size_of, sizes_of, types_of}
use Rattle.wire_tree.specs.DatumView.{datum_of}
use Rattle.wire_tree.proofs.typed.+texts.Given as goal

abbrev pub decreases-write_types : goal.decreases-write_types
decreases-write_types l = sizes_of (data_of (map datum_of l.trees.now))

abbrev pub decreases-write_type : goal.decreases-write_type
decreases-write_type l = size_of (datum_of l.tree.now)

abbrev pub invariant-write_types-loop-each : goal.invariant-write_types-loop-each
invariant-write_types-loop-each l = string_bytes l.out ≡ string_bytes l.initial.out ++ types_text (types_of (data_of (map datum_of (take l.each-index l.trees))))
