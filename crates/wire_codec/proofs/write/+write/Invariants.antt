use Rattle.std.proofs.Common.{◌+◌, ◌*◌, map, drop}
use Rattle.wire_tree.specs.Datum.{data_of, entries_of, size_of, sizes_of}
use Rattle.wire_tree.specs.DatumView.{datum_of, pair_of, entry_of}
use Rattle.wire_codec.proofs.Writes.{Writing}
use Rattle.wire_codec.proofs.write.+write.Given as goal

abbrev pub decreases-write_value : goal.decreases-write_value
decreases-write_value l = 4 * size_of (datum_of l.tree.now)

abbrev pub decreases-write_variant : goal.decreases-write_variant
decreases-write_variant l = 4 * size_of (datum_of l.tree.now) + 3

abbrev pub decreases-write_array : goal.decreases-write_array
decreases-write_array l = 4 * sizes_of (data_of (map datum_of l.elements.now)) + 3

abbrev pub decreases-write_items : goal.decreases-write_items
decreases-write_items l = 4 * sizes_of (data_of (map datum_of l.trees.now)) + 2

abbrev pub decreases-write_dict : goal.decreases-write_dict
decreases-write_dict l = 4 * sizes_of (entries_of (map pair_of l.pairs.now)) + 3

abbrev pub decreases-write_entries : goal.decreases-write_entries
decreases-write_entries l = 4 * sizes_of (entries_of (map pair_of l.pairs.now)) + 2

abbrev pub decreases-write_entry : goal.decreases-write_entry
decreases-write_entry l = 4 * (size_of (datum_of l.key.now) + size_of (datum_of l.value.now)) + 1

abbrev pub decreases-write_struct : goal.decreases-write_struct
decreases-write_struct l = 4 * sizes_of (data_of (map datum_of l.fields.now)) + 3

-- what is written so far, and the encodings of the values that are left, are the whole
abbrev pub invariant-write_items-loop-each : goal.invariant-write_items-loop-each
invariant-write_items-loop-each l =
    Writing (data_of (map datum_of l.trees)) (data_of (map datum_of (drop l.each-index l.trees))) l.fn.encoder l.encoder

abbrev pub invariant-write_entries-loop-each : goal.invariant-write_entries-loop-each
invariant-write_entries-loop-each l =
    Writing (entries_of (map pair_of l.pairs)) (data_of (map entry_of (drop l.each-index l.pairs))) l.fn.encoder l.encoder
