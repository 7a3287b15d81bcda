use Rattle.std.proofs.Common.{◌≡◌, ◌+◌, length, ◌-◌, ◌*◌}
use Rattle.wire_signature.specs.Parsing.{many_at, rest_of, type_at}
use Rattle.wire_signature.proofs.walk.+walk.Given as goal

abbrev pub decreases-skip_array : goal.decreases-skip_array
decreases-skip_array l = 4 * l.room + 2

abbrev pub decreases-skip_entry : goal.decreases-skip_entry
decreases-skip_entry l = 4 * l.room + 1

abbrev pub decreases-skip_fields : goal.decreases-skip_fields
decreases-skip_fields l = 4 * l.room + 2

abbrev pub decreases-skip_kind : goal.decreases-skip_kind
decreases-skip_kind l = 4 * l.room + 3

abbrev pub decreases-skip_type : goal.decreases-skip_type
decreases-skip_type l = 4 * l.room

abbrev pub decreases-skip_types : goal.decreases-skip_types
decreases-skip_types l = 4 * l.room + 1

-- what is left of the text has the same end, in as many steps as are left
abbrev pub invariant-skip_types-loop : goal.invariant-skip_types-loop
invariant-skip_types-loop l =
    rest_of (many_at (length l.text) l.until (type_at l.room l.arrays l.structs) l.text)
    ≡ rest_of (many_at (length l.text - l.counter) l.until (type_at l.room l.arrays l.structs) l.rest)
