-- What a reader refuses at the front of some bytes (D-Bus Specification, "Message Format"), in the order in which the
-- cases are tested, each in the terms of the header grammar.
use Rattle.std.specs.Prelude.{ℕ, ◌≡◌, ◌<◌, ◌≤◌, ◌⊎◌, List, length, slice_index}
use Rattle.wire_number.specs.Limits.{message_limit}
use Rattle.wire_number.specs.declared.endian.Endian.{Endian}
use Rattle.wire_message.specs.Front.{order_code, word_at, total}
use Rattle.wire_message.specs.Outcome.{StandsOn}
use Rattle.wire_message.specs.declared.received.Received.{Received}
use Rattle.wire_message.specs.declared.error.Error.{Error}
use Rattle.wire_message.specs.declared.error.Error.TheVariants as errors
use Rattle.wire_message.specs.declared.error.IoKind.TheVariants as kinds
use Rattle.wire_signature.specs.declared.error.VariantError.TheVariants as faults

-- The first 16 bytes are there.
abbrev pub HasHead : List ℕ → Type 0
HasHead bytes = 16 ≤ length bytes

-- The first byte names a byte order.
abbrev pub NamesOrder : List ℕ → Type 0
NamesOrder bytes = (order : Endian) × (slice_index bytes 0 ≡ order_code order)

-- Neither the message type nor the serial is 0.
abbrev pub IsSound : List ℕ → Type 0
IsSound bytes = (0 < slice_index bytes 1) × (0 < word_at 8 bytes)

-- Nothing is wrong with the first 16 bytes.
abbrev pub IsGoodHead : List ℕ → Type 0
IsGoodHead bytes = HasHead bytes × NamesOrder bytes × IsSound bytes × (total bytes ≤ message_limit)

-- Neither a message nor a front to be ignored stands on the first bytes, as many as the head says: the fields are no
-- field array.
abbrev pub HasNoFront : List ℕ → Type 0
HasNoFront bytes = (r : Received) → StandsOn bytes r (total bytes) → ⊥

-- The refusal with this error: the bytes end before the head or before the message; the first byte names no order; the
-- head or a header field is malformed; the message is too long.
abbrev pub IsRefused : List ℕ → Error → Type 0
IsRefused bytes (errors.InputOutput kinds.Ended) = (length bytes < 16) ⊎ (IsGoodHead bytes × (length bytes < total bytes))
IsRefused bytes errors.IncorrectEndian = HasHead bytes × (NamesOrder bytes → ⊥)
IsRefused bytes (errors.Variant faults.Malformed) =
    (HasHead bytes × NamesOrder bytes × (IsSound bytes → ⊥)) ⊎ (IsGoodHead bytes × (total bytes ≤ length bytes) × HasNoFront bytes)
IsRefused bytes errors.ExcessData = HasHead bytes × NamesOrder bytes × IsSound bytes × (message_limit < total bytes)
IsRefused bytes error = ⊥
