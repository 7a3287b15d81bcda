-- Header fields (D-Bus Specification, "Message Format", "Header Fields").
use Rattle.std.specs.Prelude.{ℕ, ◌+◌, ◌<◌, ◌^◌, nat_lt, Bool, true, false, List, [], ◌∷◌, ◌++◌, length, Option, Some, None, IfSome, IsTrue, is_some, option_map}
use Rattle.std.specs.Int.{w8, w32}
use Rattle.wire_number.specs.declared.endian.Endian.{Endian}
use Rattle.wire_number.specs.Number.{number_text, counted_text, padding}
use Rattle.wire_names.specs.Names.{is_object_path, is_interface_name, is_member_name, is_error_name, is_bus_name, is_unique_name}
use Rattle.wire_signature.specs.declared.basic.BasicType.{BasicType}
use Rattle.wire_signature.specs.declared.basic.BasicType.TheVariants as basics
use Rattle.wire_signature.specs.SingleType.{letter}
use Rattle.wire_signature.specs.Parsing.{types_in}
use Rattle.wire_message.specs.declared.field.FieldCode.{FieldCode}
use Rattle.wire_message.specs.declared.field.FieldCode.TheVariants as codes
use Rattle.wire_message.specs.declared.field.FieldsOf.{FieldsOf}

-- the nine fields of a header, each there or not
abbrev pub Fields : Type 0
Fields = FieldsOf (List ℕ)

-- none of them
abbrev pub no_fields : {A : Type 0} → FieldsOf A
no_fields = record {
  path = None;
  interface = None;
  member = None;
  error_name = None;
  reply_serial = None;
  destination = None;
  sender = None;
  signature = None;
  unix_fds = None;
}

-- the fields, with what stands for their texts read by `read`
abbrev pub read_by : {A B : Type 0} → (A → B) → FieldsOf A → FieldsOf B
read_by read fields = record {
  path = option_map read fields.path;
  interface = option_map read fields.interface;
  member = option_map read fields.member;
  error_name = option_map read fields.error_name;
  reply_serial = fields.reply_serial;
  destination = option_map read fields.destination;
  sender = option_map read fields.sender;
  signature = option_map read fields.signature;
  unix_fds = fields.unix_fds;
}

-- each text that is there is as `P` says of its field
pub record EachText {A : Type 0} (P : FieldCode → A → Type 0) (fields : FieldsOf A) : Type 0 where
  pub path : IfSome fields.path (P codes.Path)
  pub interface : IfSome fields.interface (P codes.Interface)
  pub member : IfSome fields.member (P codes.Member)
  pub error_name : IfSome fields.error_name (P codes.ErrorName)
  pub destination : IfSome fields.destination (P codes.Destination)
  pub sender : IfSome fields.sender (P codes.Sender)
  pub signature : IfSome fields.signature (P codes.Signature)

-- ---- one field

-- what a field holds
pub data Value : Type 0 where
  Text : (text : List ℕ) → Value
  Number : (number : ℕ) → Value

-- one header field: its code, and what it holds
pub record Field : Type 0 where
  pub code : FieldCode
  pub value : Value

-- a field's code as a byte
abbrev pub code_byte : FieldCode → ℕ
code_byte codes.Path = 1
code_byte codes.Interface = 2
code_byte codes.Member = 3
code_byte codes.ErrorName = 4
code_byte codes.ReplySerial = 5
code_byte codes.Destination = 6
code_byte codes.Sender = 7
code_byte codes.Signature = 8
code_byte codes.UnixFds = 9

-- the type of a field's value
abbrev pub field_type : FieldCode → BasicType
field_type codes.Path = basics.ObjectPath
field_type codes.ReplySerial = basics.Uint32
field_type codes.Signature = basics.Signature
field_type codes.UnixFds = basics.Uint32
field_type code = basics.String

-- The text is in the grammar of the field: a path, an interface's, a member's, an error's name; a bus name as
-- destination; a unique name as sender; a signature.
abbrev pub is_text : FieldCode → List ℕ → Bool
is_text codes.Path text = is_object_path text
is_text codes.Interface text = is_interface_name text
is_text codes.Member text = is_member_name text
is_text codes.ErrorName text = is_error_name text
is_text codes.Destination text = is_bus_name text
is_text codes.Sender text = is_unique_name text
is_text codes.Signature text = is_some (types_in text)
is_text codes.ReplySerial text = false
is_text codes.UnixFds text = false

-- a reply serial isn't 0
abbrev pub is_number : FieldCode → ℕ → Bool
is_number codes.ReplySerial number = nat_lt 0 number
is_number codes.UnixFds number = true
is_number code number = false

-- a value that the field may have
abbrev pub is_value : FieldCode → Value → Bool
is_value code (Text text) = is_text code text
is_value code (Number number) = is_number code number

-- what has four bytes of length, or four bytes
abbrev pub IsShort : Value → Type 0
IsShort (Text text) = length text < 2 ^ 32
IsShort (Number number) = number < 2 ^ 32

-- The field holds a value that one of its code may have, and 32 bits hold its length or its number.
abbrev pub IsField : Field → Type 0
IsField field = IsTrue (is_value field.code field.value) × IsShort field.value

-- ---- its bytes

-- a value's bytes, by its type
abbrev pub text_bytes : Endian → BasicType → List ℕ → List ℕ
text_bytes order basics.Signature text = counted_text w8 order text
text_bytes order type text = counted_text w32 order text

-- the bytes of a field's value: a counted text or a `UINT32`
abbrev pub value_bytes : Endian → BasicType → Value → List ℕ
value_bytes order type (Text text) = text_bytes order type text
value_bytes order type (Number number) = number_text w32 order number

-- a field's code, and the signature of its value
abbrev pub code_bytes : FieldCode → List ℕ
code_bytes code = code_byte code ∷ 1 ∷ letter (field_type code) ∷ 0 ∷ []

-- A field is a struct of a byte and a variant: its code, the signature of its value, its value. It begins at a multiple
-- of 8, so that no padding stands in it.
unfoldable pub field_text : Endian → Field → List ℕ
field_text order field = code_bytes field.code ++ value_bytes order (field_type field.code) field.value

-- Fields one behind the other from a place on, each behind zeros up to a multiple of 8.
unfoldable pub fields_text : Endian → ℕ → List Field → List ℕ
fields_text order place [] = []
fields_text order place (field ∷ fields) =
    (padding place 8 ++ field_text order field)
    ++ fields_text order (place + length (padding place 8 ++ field_text order field)) fields

-- ---- what fields say

-- a field more: its value stands for an earlier one of its code
abbrev pub with_text : {A : Type 0} → FieldCode → A → FieldsOf A → FieldsOf A
with_text codes.Path text fields = record fields { path = Some text }
with_text codes.Interface text fields = record fields { interface = Some text }
with_text codes.Member text fields = record fields { member = Some text }
with_text codes.ErrorName text fields = record fields { error_name = Some text }
with_text codes.Destination text fields = record fields { destination = Some text }
with_text codes.Sender text fields = record fields { sender = Some text }
with_text codes.Signature text fields = record fields { signature = Some text }
with_text code text fields = fields

-- the fields with this reply serial, or this count of descriptors, in place of the earlier one
abbrev pub with_number : {A : Type 0} → FieldCode → ℕ → FieldsOf A → FieldsOf A
with_number codes.ReplySerial number fields = record fields { reply_serial = Some number }
with_number codes.UnixFds number fields = record fields { unix_fds = Some number }
with_number code number fields = fields

-- the fields with one more, whose value stands for an earlier one of its code
unfoldable pub with_field : Field → Fields → Fields
with_field field fields = elim field.value [ Text text ↦ with_text field.code text fields | Number number ↦ with_number field.code number fields ]

-- What a list of fields says beside what is given: the last field of a code counts.
unfoldable pub gathered : Fields → List Field → Fields
gathered fields [] = fields
gathered fields (field ∷ more) = gathered (with_field field fields) more

-- The fields that are there, in the order of their codes.
abbrev pub there : {A : Type 0} → (A → Value) → FieldCode → Option A → List Field
there value code None = []
there value code (Some x) = record { code = code; value = value x } ∷ []

-- the nine header fields as a list of those that are there, in the order of their codes
unfoldable pub field_list : Fields → List Field
field_list fields =
    there Text codes.Path fields.path ++ (there Text codes.Interface fields.interface ++ (there Text codes.Member fields.member
    ++ (there Text codes.ErrorName fields.error_name ++ (there Number codes.ReplySerial fields.reply_serial
    ++ (there Text codes.Destination fields.destination ++ (there Text codes.Sender fields.sender
    ++ (there Text codes.Signature fields.signature ++ there Number codes.UnixFds fields.unix_fds)))))))
