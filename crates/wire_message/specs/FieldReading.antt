-- Reading the field array from left to right. The laws in proofs/ tie it to the texts of fields.
use Rattle.std.specs.Prelude.{ℕ, ◌==◌, ◌&&◌, nat_lt, if◌then◌else◌, List, ◌∷◌, length, Option, Some, None, option_and_then, option_map}
use Rattle.std.specs.Int.{w8, w32}
use Rattle.wire_number.specs.declared.endian.Endian.{Endian}
use Rattle.wire_number.specs.Reading.{Cursor, Parse, ◌>>=◌, made, bytes_at, align_at, number_at, counted_at}
use Rattle.wire_signature.specs.declared.basic.BasicType.{BasicType}
use Rattle.wire_signature.specs.declared.basic.BasicType.TheVariants as basics
use Rattle.wire_signature.specs.SingleType.{letter}
use Rattle.wire_tree.specs.Datum.{byte as byte_type, Datum, num, struct, no_data, items}
use Rattle.wire_encoding.specs.Reading.{many_at, value_at as datum_at}
use Rattle.wire_message.specs.Field.{Fields, no_fields, Value, Text, Number, Field, field_type, is_value}
use Rattle.wire_message.specs.HeaderField.{HeaderField, Known, Unknown, field_single_type, found_in}
use Rattle.wire_message.specs.declared.field.FieldCode.{FieldCode}
use Rattle.wire_message.specs.declared.field.FieldCode.TheVariants as codes

-- the field code of a byte
abbrev pub code_of : ℕ → Option FieldCode
code_of byte =
    if byte == 1 then Some codes.Path
    else if byte == 2 then Some codes.Interface
    else if byte == 3 then Some codes.Member
    else if byte == 4 then Some codes.ErrorName
    else if byte == 5 then Some codes.ReplySerial
    else if byte == 6 then Some codes.Destination
    else if byte == 7 then Some codes.Sender
    else if byte == 8 then Some codes.Signature
    else if byte == 9 then Some codes.UnixFds
    else None

-- A value by its type. It stands behind four bytes at a multiple of 8, so that a number needs no padding.
unfoldable pub value_at : Endian → BasicType → Cursor → Parse Value
value_at order basics.Signature c = made Text (counted_at w8 order c)
value_at order basics.Uint32 c = made Number (number_at w32 order c)
value_at order type c = made Text (counted_at w32 order c)

-- The code of a field whose value has its type, from its first four bytes: the code, the signature of one type.
abbrev pub typed_code : FieldCode → ℕ → ℕ → ℕ → Option FieldCode
typed_code code one type_letter nul = if (one == 1) && (type_letter == letter (field_type code)) && (nul == 0) then Some code else None

-- the code of the field whose first four bytes these begin with, where its value has the type of that field
unfoldable pub code_at : List ℕ → Option FieldCode
code_at (byte ∷ one ∷ type_letter ∷ nul ∷ rest) = option_and_then (λ code. typed_code code one type_letter nul) (code_of byte)
code_at bytes = None

-- a known field behind its padding: its code, the signature of its value, and a value that it may have
unfoldable pub known_at : Endian → Cursor → Parse Field
known_at order p = do
  head ← bytes_at 4 p
  code ← code_at head.0
  x ← value_at order (field_type code) head.1
  if is_value code x.0 then Some (record { code = code; value = x.0 }, x.1) else None

-- One known field, behind zeros up to a multiple of 8.
unfoldable pub field_at : Endian → Cursor → Parse Field
field_at order c = align_at 8 c >>= known_at order

-- a value of type `(yv)` as a field of a code that isn't known, where its code is none of the first ten
abbrev pub unknown_in : Datum → Option HeaderField
unknown_in (struct (items (num byte_type code) (items held no_data))) = if nat_lt 9 code then Some (Unknown code held) else None
unknown_in d = None

-- the value that was read as such a field
abbrev pub unknown_field : Datum × Cursor → Parse HeaderField
unknown_field x = option_map (λ field. (field, x.1)) (unknown_in x.0)

-- One field of a code that isn't known: a value of type `(yv)`, padding included.
unfoldable pub unknown_at : Endian → Cursor → Parse HeaderField
unknown_at order c = datum_at 64 order field_single_type c >>= unknown_field

-- the known field that was read, or else another one
abbrev pub known_or : Parse Field → Parse HeaderField → Parse HeaderField
known_or (Some x) other = Some (Known x.0, x.1)
known_or None other = other

-- One field: a known one, or one that is to be ignored.
unfoldable pub header_field_at : Endian → Cursor → Parse HeaderField
header_field_at order c = known_or (field_at order c) (unknown_at order c)

-- What the bytes of a field array say, which begins at 16: fields up to their end.
unfoldable pub fields_in : Endian → List ℕ → Option Fields
fields_in order bytes = option_map (found_in no_fields) (many_at (length bytes) (header_field_at order) (record { place = 16; rest = bytes }))
