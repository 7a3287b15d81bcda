use Rattle.std.proofs.Common.{◌≡◌, ◌+◌, length, drop, map, ◌-◌, ◌*◌}
use Rattle.wire_signature.specs.SingleType.{single_types_of}
use Rattle.wire_tree.specs.Datum.{entry_type}
use Rattle.wire_tree.specs.DatumView.{datum_of, entry_of}
use Rattle.wire_encoding.specs.Reading.{fields_at, many_at, value_at}
use Rattle.wire_number.specs.ReaderView.{cursor_of}
use Rattle.wire_encoding.proofs.Loops.{joined, joined_fields}
use Rattle.wire_codec.proofs.read.+read.Given as goal

abbrev pub decreases-read_value : goal.decreases-read_value
decreases-read_value l = 8 * l.room

abbrev pub decreases-read_kind : goal.decreases-read_kind
decreases-read_kind l = 8 * l.room + 7

abbrev pub decreases-read_variant : goal.decreases-read_variant
decreases-read_variant l = 8 * l.room + 6

abbrev pub decreases-read_held : goal.decreases-read_held
decreases-read_held l = 8 * l.room + 5

abbrev pub decreases-read_array : goal.decreases-read_array
decreases-read_array l = 8 * l.room + 6

abbrev pub decreases-read_items : goal.decreases-read_items
decreases-read_items l = 8 * l.room + 5

abbrev pub decreases-read_dict : goal.decreases-read_dict
decreases-read_dict l = 8 * l.room + 6

abbrev pub decreases-read_entries : goal.decreases-read_entries
decreases-read_entries l = 8 * l.room + 5

abbrev pub decreases-read_entry : goal.decreases-read_entry
decreases-read_entry l = 8 * l.room

abbrev pub decreases-read_struct : goal.decreases-read_struct
decreases-read_struct l = 8 * l.room + 6

abbrev pub decreases-read_fields : goal.decreases-read_fields
decreases-read_fields l = 8 * l.room + 5

-- the elements so far, and those in what is left, are all
abbrev pub invariant-read_items-loop : goal.invariant-read_items-loop
invariant-read_items-loop l =
    many_at (length l.elements.rest.now) (value_at l.room l.order l.element) (cursor_of l.elements)
    ≡ joined (map datum_of l.items.items) (many_at (length l.elements.rest.now - l.counter) (value_at l.room l.order l.element) (cursor_of l.left))

-- the same of entries
abbrev pub invariant-read_entries-loop : goal.invariant-read_entries-loop
invariant-read_entries-loop l =
    many_at (length l.entries.rest.now) (value_at l.room l.order (entry_type l.key l.value)) (cursor_of l.entries)
    ≡ joined (map entry_of l.pairs.items) (many_at (length l.entries.rest.now - l.counter) (value_at l.room l.order (entry_type l.key l.value)) (cursor_of l.left))

-- the fields so far, and those that are left, are all
abbrev pub invariant-read_fields-loop-each : goal.invariant-read_fields-loop-each
invariant-read_fields-loop-each l =
    fields_at (value_at l.room l.order) (single_types_of l.fields) (cursor_of l.reader)
    ≡ joined_fields (map datum_of l.items.items) (fields_at (value_at l.room l.order) (single_types_of (drop l.each-index l.fields)) (cursor_of l.stand))
