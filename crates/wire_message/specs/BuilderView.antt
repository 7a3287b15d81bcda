-- A message as bytes, from what a builder holds (D-Bus Specification, "Message Format").
use Rattle.std.specs.Prelude.{ℕ, ◌≡◌, ◌<◌, ◌≤◌, ◌==◌, if◌then◌else◌, Bool, false, nat_lt, List, ◌∷◌, ◌++◌, length, Option, Some, None, IfSome, ◌^◌, Result, Ok, Err}
use Rattle.wire_number.specs.Limits.{message_limit}
use Rattle.std.specs.Int.{w32}
use Rattle.std.specs.Int.RustNames.{bit_and, bit_or}
use Rattle.wire_number.specs.declared.endian.Endian.{Endian}
use Rattle.wire_number.specs.declared.endian.Endian.TheVariants.{Little}
use Rattle.wire_number.specs.Number.{number_text, padded}
use Rattle.wire_message.specs.Field.{Fields, no_fields, EachText, Value, Text, Number, field_type, fields_text, field_list}
use Rattle.wire_message.specs.Front.{MessageView, message_view, bare, Front, kind_code, order_code}
use Rattle.wire_signature.specs.declared.basic.BasicType.{BasicType}
use Rattle.wire_signature.specs.declared.basic.BasicType.TheVariants as basics
use Rattle.wire_message.specs.declared.builder.FixedPart.{FixedPart}
use Rattle.wire_message.specs.FieldOffsets.{FieldOffsets, found_fields, AreSpans}
use Rattle.wire_message.specs.Valid.{AreFields}
use Rattle.wire_message.specs.SerialOrder.{IsSerial, NoSerial, last_after}
use Rattle.wire_message.specs.declared.kind.MessageType.{MessageType}
use Rattle.wire_message.specs.declared.kind.MessageType.TheVariants as types
use Rattle.wire_message.specs.declared.error.Error.{Error}
use Rattle.wire_message.specs.declared.error.Error.TheVariants as errors

-- What a builder holds: a serial where one was set.
pub record BuilderView : Type 0 where
  pub kind : MessageType
  pub order : Endian
  pub flags : ℕ
  pub serial : Option ℕ
  pub fields : Fields

-- the builder of these parts
abbrev pub builder_of : FixedPart → Fields → BuilderView
builder_of fixed fields = record { kind = fixed.kind; order = fixed.order; flags = fixed.flags; serial = fixed.serial; fields = fields }

-- the bytes of the fields that it has, in the order of their codes
abbrev pub builder_fields : BuilderView → List ℕ
builder_fields builder = fields_text builder.order 16 (field_list builder.fields)

-- byte order, message type, flags, version 1, the body's length, the serial, the fields' length, and what follows them
abbrev pub laid : Endian → MessageType → ℕ → ℕ → ℕ → ℕ → List ℕ → List ℕ
laid order kind flags body_length serial fields_length rest =
    order_code order ∷ kind_code kind ∷ flags ∷ 1
    ∷ (number_text w32 order body_length ++ (number_text w32 order serial ++ (number_text w32 order fields_length ++ rest)))

-- These with the fields, and zeros up to a multiple of 8.
unfoldable pub header_text : BuilderView → ℕ → ℕ → List ℕ
header_text builder body_length serial =
    padded 8 (laid builder.order builder.kind builder.flags body_length serial (length (builder_fields builder)) (builder_fields builder))

-- The header for a body of no bytes yet was written, and these are the offsets of its texts, whatever is put in for the
-- length of the body.
pub record IsHeaderOf (builder : BuilderView) (serial : ℕ) (text : List ℕ) (offsets : FieldOffsets) : Type 0 where
  pub written : text ≡ header_text builder 0 serial
  pub found : (size : ℕ) (more : List ℕ) → found_fields (header_text builder size serial ++ more) offsets ≡ builder.fields
  pub spans : AreSpans (length text) offsets

-- the header and the body
unfoldable pub message_text : BuilderView → ℕ → List ℕ → List ℕ
message_text builder serial body = header_text builder (length body) serial ++ body

-- the message that stands on it
unfoldable pub built : BuilderView → ℕ → List ℕ → MessageView
built builder serial body = message_view (message_text builder serial body) 0 builder.kind builder.order builder.flags serial builder.fields

-- A message of this type can't have these flags: NoReplyExpected, which is 0x1, says that a method call wants no reply.
abbrev pub are_misplaced : MessageType → ℕ → Bool
are_misplaced types.MethodCall flags = false
are_misplaced kind flags = bit_and flags 1 == 1

-- The builder with these flags beside those that it has, where it can have them; flags above 0x4 are left out.
abbrev pub flagged : BuilderView → ℕ → Result BuilderView Error
flagged builder flags =
    if are_misplaced builder.kind flags then Err errors.InvalidField
    else Ok (record builder { flags = bit_or builder.flags (bit_and flags 7) })

-- what a builder may hold
pub record IsBuilder (builder : BuilderView) : Type 0 where
  pub flags : builder.flags ≤ 7
  pub serial : IfSome builder.serial (λ number. (0 < number) × (number < 2 ^ 32))
  pub fields : AreFields builder.fields

-- what a text of a type may have at most, for its length to be written
abbrev pub IsShortText : BasicType → List ℕ → Type 0
IsShortText basics.Signature text = length text < 256
IsShortText type text = length text < 2 ^ 32

-- A field's value is a number, or a text whose length can be written.
abbrev pub IsShortValue : BasicType → Value → Type 0
IsShortValue type (Text text) = IsShortText type text
IsShortValue type (Number number) = Unit {0}

-- The length of each text among the header fields can be written.
abbrev pub AreShort : Fields → Type 0
AreShort fields = EachText (λ code text. IsShortText (field_type code) text) fields

-- a text that alone passes the limit of a message
abbrev pub has_long_text : Option (List ℕ) → Bool
has_long_text None = false
has_long_text (Some text) = nat_lt message_limit (length text)

-- Bytes were written, or their length passes the limit of a message.
abbrev pub Writes : {A : Type 0} → (A → List ℕ) → Result A Error → List ℕ → Type 0
Writes items (Ok v) text = items v ≡ text
Writes items (Err errors.ExcessData) text = message_limit < length text
Writes items (Err errors.Memory) text = Unit {0}
Writes items (Err error) text = ⊥

-- What building gives: the message with the serial that was set, else with the next, which is drawn then alone;
-- SerialsSpent where none was set and each is taken; else ExcessData where the message would pass 134,217,728 bytes.
abbrev pub Builds : (ℕ → Bool) → BuilderView → List ℕ → ℕ → ℕ → Result MessageView Error → Type 0
Builds taken builder body old new (Ok m) =
    IsSerial taken builder.serial old m.serial × (new ≡ last_after builder.serial old m.serial) × (length m.bytes ≤ message_limit)
    × (m ≡ built builder m.serial body)
Builds taken builder body old new (Err errors.SerialsSpent) = NoSerial taken builder.serial × (new ≡ old)
Builds taken builder body old new (Err errors.ExcessData) =
    (serial : ℕ) × IsSerial taken builder.serial old serial × (message_limit < length (message_text builder serial body)) × (new ≡ old)
Builds taken builder body old new (Err errors.Memory) = new ≡ old
Builds taken builder body old new (Err error) = ⊥

-- A message that is built with descriptors beside it: its bytes have their count alone.
abbrev pub BuildsWith : (ℕ → Bool) → BuilderView → List ℕ → List ℕ → ℕ → ℕ → Result MessageView Error → Type 0
BuildsWith taken builder body fds old new (Ok m) = Builds taken builder body old new (Ok (bare m)) × (m.fds ≡ fds)
BuildsWith taken builder body fds old new (Err error) = Builds taken builder body old new (Err error)

-- A message is read again from its bytes, whatever follows them, but for the descriptors, which go beside them.
abbrev pub ReadsAgain : MessageView → Type 0
ReadsAgain m = (more : List ℕ) → Front (m.bytes ++ more) (bare m) (length m.bytes)

-- ---- what builders begin with

-- a message of this type in this byte order, without flags, serial, header fields and body
abbrev pub new_builder : MessageType → Endian → BuilderView
new_builder kind order = record { kind = kind; order = order; flags = 0; serial = None; fields = no_fields }

-- a method call of little order, without flags and body
abbrev pub call_builder : List ℕ → List ℕ → BuilderView
call_builder path member = record { kind = types.MethodCall; order = Little; flags = 0; serial = None; fields = record no_fields { path = Some path; member = Some member } }
