-- What a read takes from the bytes that are left (D-Bus Specification, "Message Protocol").
use Rattle.std.specs.Prelude.{ℕ, ◌≡◌, ◌+◌, ◌^◌, ◌-◌, Bool, true, false, not, ◌||◌, ◌==◌, nat_lt, nat_le, if◌then◌else◌, List, length, take, slice_index, Option, Some, None, Result, Ok, Err}
use Rattle.wire_number.specs.Limits.{message_limit}
use Rattle.wire_message.specs.Field.{Fields}
use Rattle.wire_message.specs.Front.{message_view, order_at, word_at, total, field_bytes, known_flags, Front, IgnoredFront}
use Rattle.wire_message.specs.FieldReading.{fields_in}
use Rattle.wire_message.specs.declared.kind.MessageType.{MessageType}
use Rattle.wire_message.specs.declared.kind.MessageType.TheVariants as types
use Rattle.wire_message.specs.declared.received.Received.{Received}
use Rattle.wire_message.specs.declared.received.Received.TheVariants.{Message, Passed}
use Rattle.wire_message.specs.declared.error.Error.{Error}
use Rattle.wire_message.specs.declared.error.Error.TheVariants as errors
use Rattle.wire_message.specs.declared.error.IoKind.{IoKind}
use Rattle.wire_message.specs.declared.error.IoKind.TheVariants as kinds
use Rattle.wire_signature.specs.declared.error.VariantError.TheVariants as faults

-- the message type of a byte
abbrev pub kind_of : ℕ → Option MessageType
kind_of code =
    if code == 1 then Some types.MethodCall
    else if code == 2 then Some types.MethodReturn
    else if code == 3 then Some types.Error
    else if code == 4 then Some types.Signal
    else None

-- the first byte names a byte order
abbrev pub is_order : ℕ → Bool
is_order byte = (byte == 108) || (byte == 66)

-- a header is refused whose message type is 0, which is INVALID, or whose serial is 0
abbrev pub is_refused : List ℕ → Bool
is_refused bytes = (slice_index bytes 1 == 0) || (word_at 8 bytes == 0)

-- what is wrong with the first 16 bytes: the first case that holds
abbrev pub head_fault : List ℕ → Option Error
head_fault bytes =
    if not (is_order (slice_index bytes 0)) then Some errors.IncorrectEndian
    else if is_refused bytes then Some (errors.Variant faults.Malformed)
    else if nat_lt message_limit (total bytes) then Some errors.ExcessData
    else None

-- what the bytes say of the header fields, if they are a field array
abbrev pub fields_found : List ℕ → Option Fields
fields_found bytes = fields_in (order_at bytes) (field_bytes bytes)

-- The message of these bytes, where the header fields were found and the type is known; their front, which is ignored,
-- where the type isn't; else they are malformed.
abbrev pub received_by : List ℕ → Option MessageType → Option Fields → Result Received Error
received_by bytes (Some kind) (Some fields) =
    Ok (Message (message_view (take (total bytes) bytes) 0 kind (order_at bytes) (known_flags bytes) (word_at 8 bytes) fields))
received_by bytes None (Some fields) = Ok (Passed (take (total bytes) bytes))
received_by bytes kind None = Err (errors.Variant faults.Malformed)

-- what is read where the first 16 bytes have this fault, or none: the fault, the ending where the bytes are too few, or
-- what stands there
abbrev pub then_received : List ℕ → IoKind → Option Error → Result Received Error
then_received bytes ending (Some error) = Err error
then_received bytes ending None =
    if nat_lt (length bytes) (total bytes) then Err (errors.InputOutput ending)
    else received_by bytes (kind_of (slice_index bytes 1)) (fields_found bytes)

-- The message, or the front to be ignored, that begins the bytes, or what a reader finds in its place; after the bytes
-- comes the ending.
abbrev pub front_outcome : List ℕ → IoKind → Result Received Error
front_outcome bytes ending =
    if nat_lt (length bytes) 16 then Err (errors.InputOutput ending)
    else then_received bytes ending (head_fault bytes)

-- the message that was read, with its position among those that the peer read; a front that is ignored has none
abbrev pub placed : ℕ → Result Received Error → Result Received Error
placed position (Ok (Message m)) = Ok (Message (record m { position = position }))
placed position (Ok (Passed front)) = Ok (Passed front)
placed position (Err error) = Err error

-- What a read gives: `count` messages were read before it, `bytes` are all that is left, and after them comes the
-- ending. No message has a position above 2^64 - 2.
unfoldable pub outcome : ℕ → List ℕ → IoKind → Result Received Error
outcome count bytes ending =
    if nat_le (2 ^ 64 - 2) count then Err (errors.InputOutput kinds.Ended)
    else placed (count + 1) (front_outcome bytes ending)

-- ---- in the terms of the header grammar

-- what was received stands on the first `n` of the bytes
abbrev pub StandsOn : List ℕ → Received → ℕ → Type 0
StandsOn bytes (Message m) n = Front bytes m n
StandsOn bytes (Passed front) n = IgnoredFront bytes n × (front ≡ take n bytes)

-- it has no position
abbrev pub IsUnplaced : Received → Type 0
IsUnplaced (Message m) = m.position ≡ 0
IsUnplaced (Passed front) = Unit {0}

-- the bytes of what was received
abbrev pub received_bytes : Received → List ℕ
received_bytes (Message m) = m.bytes
received_bytes (Passed front) = front

-- ---- contracts

-- what the total of the first 16 bytes gives
abbrev pub TellsTotal : Result ℕ Error → List ℕ → Type 0
TellsTotal (Ok n) bytes = (head_fault bytes ≡ None) × (n ≡ total bytes)
TellsTotal (Err error) bytes = head_fault bytes ≡ Some error

-- What was given is what was found; want of memory, which has no cause here, may stand in its place.
abbrev pub Tells : {A B : Type 0} → (A → B) → Result A Error → Result B Error → Type 0
Tells view (Ok x) found = found ≡ Ok (view x)
Tells view (Err errors.Memory) found = Unit {0}
Tells view (Err error) found = found ≡ Err error

-- ---- what a read may answer

-- what comes after the last byte: a failing call, or the end
abbrev pub ending_of : Bool → IoKind
ending_of true = kinds.Fault
ending_of false = kinds.Ended

-- the errors of a read
abbrev pub IsReadError : Error → Type 0
IsReadError (errors.InputOutput kinds.Ended) = Unit {0}
IsReadError (errors.InputOutput kinds.Fault) = Unit {0}
IsReadError (errors.Variant faults.Malformed) = Unit {0}
IsReadError errors.IncorrectEndian = Unit {0}
IsReadError errors.ExcessData = Unit {0}
IsReadError error = ⊥

-- one of them, or want of memory
abbrev pub IsReadRefusal : Error → Type 0
IsReadRefusal errors.Memory = Unit {0}
IsReadRefusal error = IsReadError error
