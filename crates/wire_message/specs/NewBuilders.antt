-- What builders begin with (D-Bus Specification, "Types of messages").
use Rattle.std.specs.Prelude.{ℕ, List, Some, None}
use Rattle.std.specs.Int.RustNames.{bit_and}
use Rattle.wire_number.specs.declared.endian.Endian.TheVariants.{Little}
use Rattle.wire_message.specs.Field.{no_fields}
use Rattle.wire_message.specs.BuilderView.{BuilderView, new_builder}
use Rattle.wire_message.specs.Primary.{Head, order_of}
use Rattle.wire_message.specs.declared.kind.MessageType.{MessageType}
use Rattle.wire_message.specs.declared.kind.MessageType.TheVariants as types

-- A signal of an interface from an object: little order, no flags.
abbrev pub signal_builder : List ℕ → List ℕ → List ℕ → BuilderView
signal_builder path interface member =
    record (new_builder types.Signal Little) { fields = record no_fields { path = Some path; interface = Some interface; member = Some member } }

-- An answer to the message of a header: in its byte order, without flags; its serial is the reply serial, its sender
-- the destination, where it has one.
abbrev pub reply_builder : MessageType → Head → BuilderView
reply_builder kind head =
    record (new_builder kind (order_of head.primary.endian_sig)) { fields = record no_fields { reply_serial = Some head.primary.serial_num; destination = head.fields.sender } }

-- an answer that is an error of that name
abbrev pub error_builder : Head → List ℕ → BuilderView
error_builder head name = let builder = reply_builder types.Error head in record builder { fields = record builder.fields { error_name = Some name } }

-- What a header says, but for the signature and the count of descriptors, which belong to a body: its serial is one
-- that was set. Flags above 0x4 are left out; no message has any.
abbrev pub builder_from : Head → BuilderView
builder_from head = record {
  kind = head.primary.msg_type;
  order = order_of head.primary.endian_sig;
  flags = bit_and head.primary.flags 7;
  serial = Some head.primary.serial_num;
  fields = record head.fields { signature = None; unix_fds = None };
}
