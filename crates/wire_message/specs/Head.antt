-- What a header says of the message that it stands before (D-Bus Specification, "Message Format").
use Rattle.std.specs.Prelude.{ℕ, ◌≡◌, ◌≤◌, List, length, take, Ok}
use Rattle.wire_message.specs.Front.{MessageView, message_view, total}
use Rattle.wire_message.specs.FieldOffsets.{found_fields, Stands}
use Rattle.wire_message.specs.Outcome.{front_outcome, received_bytes, StandsOn}
use Rattle.wire_message.specs.declared.shared.Parts.{Parts}
use Rattle.wire_message.specs.declared.received.Received.{Received}
use Rattle.wire_message.specs.declared.received.Received.TheVariants.{Message, Passed}
use Rattle.wire_message.specs.declared.front.FrontParts.{FrontParts}
use Rattle.wire_message.specs.declared.front.FrontParts.TheVariants as fronts
use Rattle.wire_message.specs.declared.error.IoKind.TheVariants.{Ended}

-- the message of these bytes and parts, not read yet
abbrev pub view_of : List ℕ → Parts → MessageView
view_of own parts = message_view own 0 parts.kind parts.order parts.flags parts.serial (found_fields own parts.offsets)

-- The first `n` bytes are a message whose header says these parts, and it is what a reader of the bytes finds.
pub record IsHead (bytes : List ℕ) (n : ℕ) (parts : Parts) : Type 0 where
  pub whole : n ≡ total bytes
  pub there : n ≤ length bytes
  pub stands : Stands (take n bytes) parts.kind parts.order parts.flags parts.serial parts.offsets
  pub outcome : front_outcome bytes Ended ≡ Ok (Message (view_of (take n bytes) parts))

-- The first `n` bytes are a front of a type that isn't known, and it is what a reader of the bytes finds.
pub record IsIgnoredHead (bytes : List ℕ) (n : ℕ) : Type 0 where
  pub whole : n ≡ total bytes
  pub there : n ≤ length bytes
  pub outcome : front_outcome bytes Ended ≡ Ok (Passed (take n bytes))

-- What was found of the front of `n` bytes.
abbrev pub IsFoundFront : List ℕ → ℕ → FrontParts → Type 0
IsFoundFront bytes n (fronts.Message parts) = IsHead bytes n parts
IsFoundFront bytes n fronts.Ignored = IsIgnoredHead bytes n

-- what is received of these bytes, which are all of a front of these parts
abbrev pub received_view : List ℕ → FrontParts → Received
received_view own (fronts.Message parts) = Message (view_of own parts)
received_view own fronts.Ignored = Passed own

-- All of these bytes are a message of these parts; of a front that is ignored nothing more is said.
abbrev pub IsOwnFront : List ℕ → FrontParts → Type 0
IsOwnFront own (fronts.Message parts) = Stands own parts.kind parts.order parts.flags parts.serial parts.offsets
IsOwnFront own fronts.Ignored = Unit {0}

-- The front of these parts stands on the first `n` bytes.
abbrev pub IsStanding : List ℕ → ℕ → FrontParts → Type 0
IsStanding bytes n parts =
    let r = received_view (take n bytes) parts in StandsOn bytes r (length (received_bytes r))
