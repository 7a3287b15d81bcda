use Rattle.std.proofs.Common.{◌≡◌, ◌+◌, ◌≤◌, length, ◌-◌, ◌*◌}
use Rattle.wire_signature.specs.Parsing.{many_at, type_at}
use Rattle.wire_signature.proofs.Steps.{before}
use Rattle.wire_signature.proofs.read.+read.Given as goal

abbrev pub decreases-read_array : goal.decreases-read_array
decreases-read_array l = 4 * l.room + 2

abbrev pub decreases-read_entry : goal.decreases-read_entry
decreases-read_entry l = 4 * l.room + 1

abbrev pub decreases-read_fields : goal.decreases-read_fields
decreases-read_fields l = 4 * l.room + 2

abbrev pub decreases-read_kind : goal.decreases-read_kind
decreases-read_kind l = 4 * l.room + 3

abbrev pub decreases-read_type : goal.decreases-read_type
decreases-read_type l = 4 * l.room

abbrev pub decreases-read_types : goal.decreases-read_types
decreases-read_types l = 4 * l.room + 1

-- the types so far, and then those in what is left of the text, are the types of the whole
abbrev pub invariant-read_types-loop : goal.invariant-read_types-loop
invariant-read_types-loop l =
    (many_at (length l.text) l.until (type_at l.room l.arrays l.structs) l.text
    ≡ before l.types.items (many_at (length l.text - l.counter) l.until (type_at l.room l.arrays l.structs) l.rest))
    × (length l.rest ≤ 255)
