-- What contracts see of a reader, and of what it finds.
use Rattle.std.specs.Prelude.{◌≡◌, Option, Some, None}
use Rattle.wire_number.specs.declared.reader.Reader.{Reader}
use Rattle.wire_number.specs.Reading.{Cursor}

-- the place of a reader, and the bytes from there on
abbrev pub cursor_of : Reader → Cursor
cursor_of r = record { place = r.place; rest = r.rest.now }

-- Seen by `view`, a call found what reading finds.
abbrev pub Finds : {X Y : Type 0} → (X → Y) → Option X → Option Y → Type 0
Finds view None found = found ≡ None
Finds view (Some x) found = found ≡ Some (view x)
