-- Bytes that are one message.
use Rattle.std.specs.Prelude.{◌==◌, nat_lt, if◌then◌else◌, List, ℕ, length, slice_index, Result, Ok, Err}
use Rattle.wire_number.specs.declared.endian.Endian.{Endian}
use Rattle.wire_message.specs.Front.{MessageView, order_code}
use Rattle.wire_message.specs.Outcome.{front_outcome, received_bytes}
use Rattle.wire_message.specs.declared.received.Received.{Received}
use Rattle.wire_message.specs.declared.received.Received.TheVariants.{Message, Passed}
use Rattle.wire_message.specs.declared.error.Error.{Error}
use Rattle.wire_message.specs.declared.error.Error.TheVariants as errors
use Rattle.wire_message.specs.declared.error.IoKind.TheVariants as kinds

-- the message that was received; a front that is to be ignored is none
abbrev pub message_in : Received → Result MessageView Error
message_in (Message m) = Ok m
message_in (Passed front) = Err errors.Unsupported

-- the message, where no byte follows it
abbrev pub alone : List ℕ → Result Received Error → Result MessageView Error
alone bytes (Ok r) = if length (received_bytes r) == length bytes then message_in r else Err errors.ExcessData
alone bytes (Err error) = Err error

-- The message that the bytes are, in this byte order, or what is wrong with them, the first case that holds: fewer than
-- 16 bytes, a first byte that names another order, what is wrong at the front, bytes that follow, a type that isn't
-- known.
abbrev pub whole_outcome : Endian → List ℕ → Result MessageView Error
whole_outcome order bytes =
    if nat_lt (length bytes) 16 then Err (errors.InputOutput kinds.Ended)
    else if slice_index bytes 0 == order_code order then alone bytes (front_outcome bytes kinds.Ended)
    else Err errors.IncorrectEndian

-- the message at the front of the bytes, where no more than that is asked for
abbrev pub message_found : Result Received Error → Result MessageView Error
message_found (Ok r) = message_in r
message_found (Err error) = Err error
