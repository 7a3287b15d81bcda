-- Numbers of a fixed type that lie packed in an array: the first begins on their boundary, so no padding stands between them
-- (D-Bus Specification, "Marshaling", `ARRAY`).
use Rattle.std.specs.Prelude.{ℕ, nat_lt, if◌then◌else◌, List, Some, None}
use Rattle.std.specs.List.{flat_map}
use Rattle.wire_number.specs.declared.endian.Endian.{Endian}
use Rattle.wire_number.specs.Number.{number_text}
use Rattle.wire_number.specs.Reading.{Cursor, Parse, ◌>>=◌, number_at}
use Rattle.wire_tree.specs.Datum.{FixedType, bound}
use Rattle.wire_encoding.specs.Encoding.{width_of}

-- a number of the type, without padding before it
unfoldable pub plain_at : FixedType → Endian → Cursor → Parse ℕ
plain_at n order c = do
  x ← number_at (width_of n) order c
  if nat_lt x.0 (bound n) then Some x else None

-- the bytes of numbers of the type that stand one behind the other
abbrev pub numbers_text : FixedType → Endian → List ℕ → List ℕ
numbers_text n order xs = flat_map (number_text (width_of n) order) xs
