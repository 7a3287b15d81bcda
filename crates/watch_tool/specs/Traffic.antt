-- What a reader finds in recorded traffic: bytes in which one front follows the other (D-Bus Specification, "Message
-- Protocol").
use Rattle.std.specs.Prelude.{ℕ, zero, suc, ◌≡◌, ◌+◌, ◌-◌, ◌^◌, ◌≤◌, List, [], ◌∷◌, ◌++◌, length, drop, flat_map, Result, Ok, Err}
use Rattle.wire_message.specs.Front.{MessageView}
use Rattle.wire_message.specs.Outcome.{outcome, received_bytes}
use Rattle.wire_message.specs.declared.received.Received.{Received}
use Rattle.wire_message.specs.declared.received.Received.TheVariants.{Message, Passed}
use Rattle.wire_message.specs.declared.error.Error.{Error}
use Rattle.wire_message.specs.declared.error.Error.TheVariants as errors
use Rattle.wire_message.specs.declared.error.IoKind.TheVariants as kinds

-- the messages of some traffic, in order, each with its position among them, and why no more come
pub record Traffic : Type 0 where
  pub messages : List MessageView
  pub closing : Error

-- no message, for this reason
abbrev pub closed_by : Error → Traffic
closed_by error = record { messages = []; closing = error }

-- the traffic, with these messages before it
abbrev pub behind : List MessageView → Traffic → Traffic
behind messages traffic = record { messages = messages ++ traffic.messages; closing = traffic.closing }

-- the messages of a front: itself, or none where it is ignored
abbrev pub messages_of : Received → List MessageView
messages_of (Message m) = m ∷ []
messages_of (Passed front) = []

-- how many messages were read once this front was, too; an ignored one has no position
abbrev pub count_with : Received → ℕ → ℕ
count_with (Message m) count = count + 1
count_with (Passed front) count = count

-- the traffic of a front and of what follows it, or the reason why there is no front
abbrev pub with_front : (ℕ → List ℕ → Traffic) → ℕ → List ℕ → Result Received Error → Traffic
with_front later count bytes (Ok r) =
    behind (messages_of r) (later (count_with r count) (drop (length (received_bytes r)) bytes))
with_front later count bytes (Err error) = closed_by error

-- The traffic of these bytes, if `count` messages were read before them and `fronts` more fronts may be: as long as the
-- header grammar finds a front, that front, and then the traffic of the bytes after it.
abbrev pub traffic_from : (fronts count : ℕ) → List ℕ → Traffic
traffic_from zero count bytes = closed_by (errors.InputOutput kinds.Ended)
traffic_from (suc fronts) count bytes = with_front (traffic_from fronts) count bytes (outcome count bytes kinds.Ended)

-- the traffic of these bytes; of no traffic more than 2^64 - 2 fronts are read, ignored ones counted
unfoldable pub traffic : List ℕ → Traffic
traffic bytes = traffic_from (2 ^ 64 - 2) 0 bytes

-- If `count` messages were read before the bytes, these are the first fronts that the header grammar finds in them, and
-- `rest` are the bytes after the last of these.
abbrev pub AreFronts : (count : ℕ) → List Received → (bytes rest : List ℕ) → Type 0
AreFronts count [] bytes rest = rest ≡ bytes
AreFronts count (r ∷ fronts) bytes rest =
    (outcome count bytes kinds.Ended ≡ Ok r) × AreFronts (count_with r count) fronts (drop (length (received_bytes r)) bytes) rest

-- A reader took some fronts of the bytes: `messages` are the messages among them, and `rest` is what is left. So the
-- traffic of the bytes is these messages, and then the traffic of the rest.
pub record IsRead (bytes : List ℕ) (messages : List MessageView) (rest : List ℕ) : Type 0 where
  pub fronts : List Received
  pub found : AreFronts 0 fronts bytes rest
  pub within : length fronts ≤ 2 ^ 64 - 2
  pub are : messages ≡ flat_map messages_of fronts
  pub all : traffic bytes ≡ behind messages (traffic_from (2 ^ 64 - 2 - length fronts) (length messages) rest)
