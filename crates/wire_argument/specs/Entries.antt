-- Dict entries, read as keys and values.
use Rattle.std.specs.Prelude.{ℕ, zero, suc, None}
use Rattle.wire_number.specs.declared.endian.Endian.{Endian}
use Rattle.wire_number.specs.Reading.{Cursor, Parse, ◌>>=◌, made, align_at}
use Rattle.wire_signature.specs.declared.basic.BasicType.{BasicType}
use Rattle.wire_signature.specs.SingleType.{SingleType, basic}
use Rattle.wire_tree.specs.Datum.{Datum}
use Rattle.wire_encoding.specs.Reading.{value_at}

-- The key and the value of a dict entry, which begins on a multiple of 8 (D-Bus Specification, "Marshaling", `DICT_ENTRY`). It
-- counts as a container.
unfoldable pub pair_at : ℕ → Endian → BasicType → SingleType → Cursor → Parse (Datum × Datum)
pair_at zero order k v c = None
pair_at (suc room) order k v c = do
  p ← align_at 8 c
  x ← value_at room order (basic k) p
  made (λ d. (x.0, d)) (value_at room order v x.1)
