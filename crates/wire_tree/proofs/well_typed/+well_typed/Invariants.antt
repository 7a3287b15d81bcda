use Rattle.std.proofs.Common.{◌+◌, ◌*◌, map, take}
use Rattle.wire_tree.specs.Datum.{data_of, entries_of, size_of, sizes_of, entry_type, AreElements, AreWellTyped}
use Rattle.wire_tree.specs.DatumView.{datum_of, pair_of}
use Rattle.wire_tree.proofs.well_typed.+well_typed.Given as goal

abbrev pub decreases-is_well_typed : goal.decreases-is_well_typed
decreases-is_well_typed l = 2 * size_of (datum_of l.tree.now)

abbrev pub decreases-are_well_typed : goal.decreases-are_well_typed
decreases-are_well_typed l = 2 * sizes_of (data_of (map datum_of l.fields.now))

abbrev pub decreases-are_elements : goal.decreases-are_elements
decreases-are_elements l = 2 * sizes_of (data_of (map datum_of l.elements.now))

abbrev pub decreases-are_entries : goal.decreases-are_entries
decreases-are_entries l = 2 * sizes_of (entries_of (map pair_of l.entries.now))

abbrev pub decreases-is_element : goal.decreases-is_element
decreases-is_element l = 2 * size_of (datum_of l.tree.now) + 1

abbrev pub decreases-is_entry : goal.decreases-is_entry
decreases-is_entry l = 2 * (size_of (datum_of l.key.now) + size_of (datum_of l.value.now)) + 1

abbrev pub invariant-are_well_typed-loop-each : goal.invariant-are_well_typed-loop-each
invariant-are_well_typed-loop-each l = AreWellTyped (data_of (map datum_of (take l.each-index l.fields)))

abbrev pub invariant-are_elements-loop-each : goal.invariant-are_elements-loop-each
invariant-are_elements-loop-each l = AreElements l.element (data_of (map datum_of (take l.each-index l.elements)))

abbrev pub invariant-are_entries-loop-each : goal.invariant-are_entries-loop-each
invariant-are_entries-loop-each l = AreElements (entry_type l.key l.value) (entries_of (map pair_of (take l.each-index l.entries)))
