use Rattle.std.proofs.Common.{◌≡◌, ◌+◌, length, ◌-◌, ◌*◌, is_some}
use Rattle.wire_encoding.specs.Reading.{many_at}
use Rattle.wire_encoding.specs.Walking.{over_fields, over_struct, walk_at}
use Rattle.wire_number.specs.ReaderView.{cursor_of}
use Rattle.wire_encoding.proofs.walk.+walk.Given as goal

abbrev pub decreases-walk_value : goal.decreases-walk_value
decreases-walk_value l = 4 * l.room

abbrev pub decreases-walk_array : goal.decreases-walk_array
decreases-walk_array l = 4 * l.room + 3

abbrev pub decreases-walk_items : goal.decreases-walk_items
decreases-walk_items l = 4 * l.room + 2

abbrev pub decreases-walk_each : goal.decreases-walk_each
decreases-walk_each l = 4 * l.room + 1

abbrev pub decreases-walk_fields : goal.decreases-walk_fields
decreases-walk_fields l = 4 * l.room + 1

abbrev pub decreases-walk_variant : goal.decreases-walk_variant
decreases-walk_variant l = 4 * l.room + 1

-- the elements in what is left are there exactly where all are
abbrev pub invariant-walk_each-loop : goal.invariant-walk_each-loop
invariant-walk_each-loop l =
    is_some (many_at (length l.elements.rest.now) (walk_at l.room l.order l.element) (cursor_of l.elements))
    ≡ is_some (many_at (length l.elements.rest.now - l.counter) (walk_at l.room l.order l.element) (cursor_of l.left))

-- what the fields in what is left leave, all leave
abbrev pub invariant-walk_fields-loop : goal.invariant-walk_fields-loop
invariant-walk_fields-loop l =
    over_struct (walk_at l.room l.order) l.text (cursor_of l.reader)
    ≡ over_fields (length l.text - l.counter) (walk_at l.room l.order) l.left (cursor_of l.stand)
