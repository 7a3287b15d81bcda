-- A header as values of D-Bus: its signature is `yyyyuua(yv)` (D-Bus Specification, "Message Format").
use Rattle.std.specs.Prelude.{◌≡◌, ℕ, ◌+◌, ◌≤◌, List, [], ◌∷◌, take, slice_index}
use Rattle.wire_number.specs.Limits.{array_limit}
use Rattle.wire_signature.specs.declared.basic.BasicType.TheVariants as basics
use Rattle.wire_signature.specs.SingleType.{SingleType, basic, array as array_of, struct as struct_of, no_single_types, single_types}
use Rattle.wire_tree.specs.Datum.{byte, uint32, StringLike, string, object_path, signature, Datum, num, text, array, struct, variant, Data, no_data, items, type_of}
use Rattle.wire_encoding.specs.Encoding.{encoding, depth, ArraysFit}
use Rattle.wire_message.specs.declared.field.FieldCode.{FieldCode}
use Rattle.wire_message.specs.declared.field.FieldCode.TheVariants as codes
use Rattle.wire_message.specs.Field.{Value, Text, Number, Field, no_fields, code_byte}
use Rattle.wire_message.specs.HeaderField.{HeaderField, Known, Unknown, field_single_type, unknown_datum, AreHeaderFields, AreKnown, found_in}
use Rattle.wire_message.specs.Front.{MessageView, fields_of, order_code, kind_code, fields_len, body_len}

-- the type of a field's text
abbrev pub text_kind : FieldCode → StringLike
text_kind codes.Path = object_path
text_kind codes.Signature = signature
text_kind code = string

-- what a field holds
abbrev pub held_datum : FieldCode → Value → Datum
held_datum code (Text bytes) = text (text_kind code) bytes
held_datum code (Number number) = num uint32 number

-- A field is a struct of its code and, as a variant, what it holds.
abbrev pub field_datum : Field → Datum
field_datum field = struct (items (num byte (code_byte field.code)) (items (variant (held_datum field.code field.value)) no_data))

-- the value that a header field is
abbrev pub header_field_datum : HeaderField → Datum
header_field_datum (Known field) = field_datum field
header_field_datum (Unknown code held) = unknown_datum code held

-- known fields, one behind the other
abbrev pub field_data : List Field → Data
field_data [] = no_data
field_data (field ∷ fields) = items (field_datum field) (field_data fields)

-- header fields, one behind the other
abbrev pub header_field_data : List HeaderField → Data
header_field_data [] = no_data
header_field_data (field ∷ fields) = items (header_field_datum field) (header_field_data fields)

-- the types of a header, `yyyyuua(yv)`, as a struct
abbrev pub header_single_type : SingleType
header_single_type = struct_of (
    single_types (basic basics.Byte) (single_types (basic basics.Byte) (single_types (basic basics.Byte) (single_types (basic basics.Byte)
    (single_types (basic basics.Uint32) (single_types (basic basics.Uint32) (single_types (array_of field_single_type) no_single_types))))))
    )

-- byte order, message type, flags, version, the body's length, the serial, the fields
abbrev pub header_datum : ℕ → ℕ → ℕ → ℕ → ℕ → ℕ → List HeaderField → Datum
header_datum order kind flags version body serial fields = struct (
    items (num byte order) (items (num byte kind) (items (num byte flags) (items (num byte version)
    (items (num uint32 body) (items (num uint32 serial) (items (array field_single_type (header_field_data fields)) no_data))))))
    )

-- the header of a message that stands on bytes, with these fields
abbrev pub header_of : List ℕ → MessageView → List HeaderField → Datum
header_of bytes m fields =
    header_datum (order_code m.order) (kind_code m.kind) (slice_index bytes 2) (slice_index bytes 3) (body_len bytes) m.serial fields

-- The first 16 bytes and the fields behind them are the encoding of a header that says what the message has. Its arrays
-- fit where its fields take at most 67,108,864 bytes. It opens 4 containers at once where each field is known; a field
-- that is ignored may itself open 64, inside the two of the header.
pub record IsHeader (bytes : List ℕ) (m : MessageView) : Type 0 where
  pub list : List HeaderField
  pub each : AreHeaderFields m.order 16 list
  pub says : fields_of m ≡ found_in no_fields list
  pub kind : type_of (header_of bytes m list) ≡ header_single_type
  pub within : depth (header_of bytes m list) ≤ 66
  pub flat : AreKnown list → depth (header_of bytes m list) ≤ 4
  pub fit : fields_len bytes ≤ array_limit → ArraysFit m.order 0 (header_of bytes m list)
  pub text : take (16 + fields_len bytes) bytes ≡ encoding m.order 0 (header_of bytes m list)
