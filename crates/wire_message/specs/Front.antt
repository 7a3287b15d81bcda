-- The header grammar: a message at the front of some bytes (D-Bus Specification, "Message Protocol", "Message Format").
use Rattle.std.specs.Prelude.{ℕ, ◌≡◌, ◌+◌, ◌%◌, ◌<◌, ◌≤◌, ◌==◌, if◌then◌else◌, List, [], length, take, drop, slice_index, Option}
use Rattle.wire_number.specs.Limits.{message_limit}
use Rattle.std.specs.Int.{w32}
use Rattle.wire_number.specs.declared.endian.Endian.{Endian}
use Rattle.wire_number.specs.declared.endian.Endian.TheVariants.{Little, Big}
use Rattle.wire_number.specs.Number.{number_at, pad}
use Rattle.wire_message.specs.Field.{Fields, no_fields}
use Rattle.wire_message.specs.HeaderField.{HeaderField, AreHeaderFields, header_fields_text, found_in}
use Rattle.wire_message.specs.declared.kind.MessageType.{MessageType}
use Rattle.wire_message.specs.declared.kind.MessageType.TheVariants as types

-- What contracts see of a message: its own bytes, its position among the messages read (0 for one that wasn't read),
-- what its header says, and the descriptors that go with it. A message that stands on its bytes (`Front`) is determined
-- by them.
pub record MessageView : Type 0 where
  pub bytes : List ℕ
  pub position : ℕ
  pub kind : MessageType
  pub order : Endian
  pub flags : ℕ
  pub serial : ℕ
  pub path : Option (List ℕ)
  pub interface : Option (List ℕ)
  pub member : Option (List ℕ)
  pub error_name : Option (List ℕ)
  pub reply_serial : Option ℕ
  pub destination : Option (List ℕ)
  pub sender : Option (List ℕ)
  pub signature : Option (List ℕ)
  pub unix_fds : Option ℕ
  pub fds : List ℕ

-- a message of these parts, without descriptors
abbrev pub message_view : List ℕ → ℕ → MessageType → Endian → ℕ → ℕ → Fields → MessageView
message_view bytes position kind order flags serial fields = record {
  bytes = bytes;
  position = position;
  kind = kind;
  order = order;
  flags = flags;
  serial = serial;
  path = fields.path;
  interface = fields.interface;
  member = fields.member;
  error_name = fields.error_name;
  reply_serial = fields.reply_serial;
  destination = fields.destination;
  sender = fields.sender;
  signature = fields.signature;
  unix_fds = fields.unix_fds;
  fds = [];
}

-- the message without its descriptors
abbrev pub bare : MessageView → MessageView
bare m = record m { fds = [] }

-- its header fields
abbrev pub fields_of : MessageView → Fields
fields_of m = record {
  path = m.path;
  interface = m.interface;
  member = m.member;
  error_name = m.error_name;
  reply_serial = m.reply_serial;
  destination = m.destination;
  sender = m.sender;
  signature = m.signature;
  unix_fds = m.unix_fds;
}

-- the message type's byte
abbrev pub kind_code : MessageType → ℕ
kind_code types.MethodCall = 1
kind_code types.MethodReturn = 2
kind_code types.Error = 3
kind_code types.Signal = 4

-- the byte order's byte: `l` or `B`
abbrev pub order_code : Endian → ℕ
order_code Little = 108
order_code Big = 66

-- The byte order that the first byte names: big for `B`, else little.
unfoldable pub order_at : List ℕ → Endian
order_at bytes = if slice_index bytes 0 == 66 then Big else Little

-- the number in the four bytes from a place on, in the message's order
abbrev pub word_at : ℕ → List ℕ → ℕ
word_at place bytes = number_at w32 (order_at bytes) place bytes

-- the length of the field array, and of the body
abbrev pub fields_len : List ℕ → ℕ
fields_len bytes = word_at 12 bytes

-- the length of the body in bytes
abbrev pub body_len : List ℕ → ℕ
body_len bytes = word_at 4 bytes

-- the length of the header with its padding
abbrev pub header_len : List ℕ → ℕ
header_len bytes = 16 + fields_len bytes + pad (16 + fields_len bytes) 8

-- the length of the message whose first 16 bytes these begin with
abbrev pub total : List ℕ → ℕ
total bytes = header_len bytes + body_len bytes

-- the bytes of the field array, which begins at 16
abbrev pub field_bytes : List ℕ → List ℕ
field_bytes bytes = take (fields_len bytes) (drop 16 bytes)

-- the body's bytes: those that follow the header
abbrev pub body_bytes : List ℕ → List ℕ
body_bytes bytes = take (body_len bytes) (drop (header_len bytes) bytes)

-- the flags that are known: the bits 0x1, 0x2 and 0x4 of the third byte; others say nothing
abbrev pub known_flags : List ℕ → ℕ
known_flags bytes = slice_index bytes 2 % 8

-- The message `m` stands on the first `n` of the bytes. No descriptors go with bytes alone.
pub record Front (bytes : List ℕ) (m : MessageView) (n : ℕ) : Type 0 where
  pub own : m.bytes ≡ take n bytes
  pub there : n ≤ length bytes
  pub head : 16 ≤ length bytes
  pub whole : n ≡ total bytes
  pub limit : n ≤ message_limit
  pub order : slice_index bytes 0 ≡ order_code m.order
  pub type : slice_index bytes 1 ≡ kind_code m.kind
  pub flags : m.flags ≡ known_flags bytes
  pub serial : m.serial ≡ word_at 8 bytes
  pub not_zero : 0 < m.serial
  pub fds : m.fds ≡ []
  pub fields : (fs : List HeaderField) × AreHeaderFields m.order 16 fs × (field_bytes bytes ≡ header_fields_text m.order 16 fs) × (fields_of m ≡ found_in no_fields fs)

-- A front of a message type that isn't known, 5 to 255, stands on the first `n` of the bytes. A reader ignores it. But
-- for its type it is laid out as a message.
pub record IgnoredFront (bytes : List ℕ) (n : ℕ) : Type 0 where
  pub there : n ≤ length bytes
  pub head : 16 ≤ length bytes
  pub whole : n ≡ total bytes
  pub limit : n ≤ message_limit
  pub order : (order : Endian) × (slice_index bytes 0 ≡ order_code order)
  pub type : 4 < slice_index bytes 1
  pub not_zero : 0 < word_at 8 bytes
  pub fields : (fs : List HeaderField) × AreHeaderFields order.0 16 fs × (field_bytes bytes ≡ header_fields_text order.0 16 fs)
