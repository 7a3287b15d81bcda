-- The part of a header that each message has (D-Bus Specification, "Message Format").
use Rattle.std.specs.Prelude.{ℕ, ◌≡◌, ◌≢◌, Result, Ok, Err, slice_index}
use Rattle.wire_number.specs.declared.endian.Endian.{Endian}
use Rattle.wire_number.specs.declared.endian.Endian.TheVariants as orders
use Rattle.wire_message.specs.Field.{Fields}
use Rattle.wire_message.specs.Front.{MessageView, fields_of, body_len}
use Rattle.wire_message.specs.declared.endian_sig.EndianSig.{EndianSig}
use Rattle.wire_message.specs.declared.endian_sig.EndianSig.TheVariants as sigs
use Rattle.wire_message.specs.declared.kind.MessageType.{MessageType}
use Rattle.wire_message.specs.declared.error.Error.{Error}
use Rattle.wire_message.specs.declared.error.Error.TheVariants as errors

-- the byte that names a byte order: `B` or `l`
abbrev pub sig_code : EndianSig → ℕ
sig_code sigs.Big = 66
sig_code sigs.Little = 108

-- Either the byte names this order, or it names none.
abbrev pub TellsSig : Result EndianSig Error → ℕ → Type 0
TellsSig (Ok sig) byte = byte ≡ sig_code sig
TellsSig (Err errors.IncorrectEndian) byte = (byte ≢ 66) × (byte ≢ 108)
TellsSig (Err error) byte = ⊥

-- the byte order of the same name
abbrev pub sig_of : Endian → EndianSig
sig_of orders.Big = sigs.Big
sig_of orders.Little = sigs.Little

-- the byte order that a header's first byte stands for
abbrev pub order_of : EndianSig → Endian
order_of sigs.Big = orders.Big
order_of sigs.Little = orders.Little

-- The first 12 bytes of a header: the byte order, the message type, the flags, the version of the protocol, the length
-- of the body in bytes, the serial.
pub record Primary : Type 0 where
  pub endian_sig : EndianSig
  pub msg_type : MessageType
  pub flags : ℕ
  pub protocol_version : ℕ
  pub body_len : ℕ
  pub serial_num : ℕ

-- those of a message
abbrev pub primary_of : MessageView → Primary
primary_of m = record {
  endian_sig = sig_of m.order;
  msg_type = m.kind;
  flags = m.flags;
  protocol_version = slice_index m.bytes 3;
  body_len = body_len m.bytes;
  serial_num = m.serial;
}

-- What contracts see of a header: those, and the header fields (D-Bus Specification, "Header Fields").
pub record Head : Type 0 where
  pub primary : Primary
  pub fields : Fields

-- that of a message
abbrev pub head_of : MessageView → Head
head_of m = record { primary = primary_of m; fields = fields_of m }

-- those of a message that isn't made yet: little order, no flags, version 1
abbrev pub new_primary : MessageType → ℕ → ℕ → Primary
new_primary kind body_length serial = record {
  endian_sig = sigs.Little;
  msg_type = kind;
  flags = 0;
  protocol_version = 1;
  body_len = body_length;
  serial_num = serial;
}
