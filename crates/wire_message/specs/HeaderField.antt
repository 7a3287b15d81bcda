-- Header fields as a reader meets them (D-Bus Specification, "Header Fields"): the nine that are known, and those of
-- codes above theirs, which a reader must ignore.
use Rattle.std.specs.Prelude.{ℕ, ◌<◌, ◌+◌, List, [], ◌∷◌, ◌++◌, length, drop, Option, Some, None}
use Rattle.wire_number.specs.declared.endian.Endian.{Endian}
use Rattle.wire_number.specs.Number.{padding}
use Rattle.wire_number.specs.Reading.{Cursor}
use Rattle.wire_signature.specs.declared.basic.BasicType.TheVariants as basics
use Rattle.wire_signature.specs.SingleType.{SingleType, basic, variant as any, struct as struct_of, no_single_types, single_types}
use Rattle.wire_tree.specs.Datum.{byte, Datum, num, struct, no_data, items}
use Rattle.wire_encoding.specs.Encoding.{encoding, Encodes}
use Rattle.wire_message.specs.Field.{Fields, Field, IsField, field_text, with_field}

-- a header field: a known one; or one whose code isn't known, with the variant that it holds
pub data HeaderField : Type 0 where
  Known : (field : Field) → HeaderField
  Unknown : (code : ℕ) (held : Datum) → HeaderField

-- the type of a header field, `(yv)`
abbrev pub field_single_type : SingleType
field_single_type = struct_of (single_types (basic basics.Byte) (single_types any no_single_types))

-- the value that a field of an unknown code is: a struct of its code and the variant
abbrev pub unknown_datum : ℕ → Datum → Datum
unknown_datum code held = struct (items (num byte code) (items held no_data))

-- The bytes of a field that begins at a place, the padding before it included.
unfoldable pub header_field_text : Endian → ℕ → HeaderField → List ℕ
header_field_text order place (Known field) = padding place 8 ++ field_text order field
header_field_text order place (Unknown code held) = encoding order place (unknown_datum code held)

-- A known field has a value of its type and grammar. The code of any other is 10 to 255, and it is one value of type
-- `(yv)`.
abbrev pub IsHeaderField : Endian → ℕ → HeaderField → Type 0
IsHeaderField order place (Known field) = IsField field
IsHeaderField order place (Unknown code held) =
    (9 < code) × Encodes order place field_single_type (unknown_datum code held) (header_field_text order place (Unknown code held))

-- Fields that stand one behind the other from a place on.
unfoldable pub header_fields_text : Endian → ℕ → List HeaderField → List ℕ
header_fields_text order place [] = []
header_fields_text order place (field ∷ fields) =
    header_field_text order place field ++ header_fields_text order (place + length (header_field_text order place field)) fields

-- so it is of each of them, at its place
abbrev pub AreHeaderFields : Endian → ℕ → List HeaderField → Type 0
AreHeaderFields order place [] = Unit {0}
AreHeaderFields order place (field ∷ fields) =
    IsHeaderField order place field × AreHeaderFields order (place + length (header_field_text order place field)) fields

-- none of them is of a code that isn't known
abbrev pub AreKnown : List HeaderField → Type 0
AreKnown [] = Unit {0}
AreKnown (Known field ∷ fields) = AreKnown fields
AreKnown (Unknown code held ∷ fields) = ⊥

-- ---- what fields say

-- the field, where it is a known one
abbrev pub known : HeaderField → Option Field
known (Known field) = Some field
known (Unknown code held) = None

-- the fields with this one, whose value stands for an earlier one of its code; without one, as they are
abbrev pub with_known : Option Field → Fields → Fields
with_known None fields = fields
with_known (Some field) fields = with_field field fields

-- What a list of fields says beside what is given: the last field of a known code counts, and unknown ones say nothing.
unfoldable pub found_in : Fields → List HeaderField → Fields
found_in fields [] = fields
found_in fields (field ∷ more) = found_in (with_known (known field) fields) more

-- where a reading stands that went over so many of the bytes
abbrev pub behind_bytes : ℕ → ℕ → List ℕ → Cursor
behind_bytes n place bytes = record { place = place + n; rest = drop n bytes }
