-- What one read answers: a message, an ignored front, or an error (D-Bus Specification, "Message Protocol").
use Rattle.std.specs.Prelude.{ℕ, ◌≡◌, ◌≤◌, ◌⊎◌, Bool, nat_lt, is_some, min, if◌then◌else◌, List, length, drop, IfSome, Option, Some, None, Result, Err}
use Rattle.wire_framing.specs.Views.{SourceView}
use Rattle.wire_framing.specs.Source.{MayRise}
use Rattle.wire_message.specs.Front.{Front, IgnoredFront, total}
use Rattle.wire_message.specs.Outcome.{outcome, head_fault, Tells, ending_of}
use Rattle.wire_message.specs.declared.received.Received.{Received}
use Rattle.wire_message.specs.declared.received.Received.TheVariants.{Message, Passed}
use Rattle.wire_message.specs.declared.error.Error.{Error}
use Rattle.wire_message.specs.declared.error.Error.TheVariants as errors
use Rattle.wire_message.specs.declared.error.IoKind.TheVariants as kinds

-- What a read answers if `bytes` are left and `count` messages were read before. If the source doesn't report whether a call is
-- to fail, a call may fail at any time, and the read then answers that fault.
abbrev pub Receives : Option Bool → ℕ → List ℕ → Result Received Error → Type 0
Receives (Some stop) count bytes result = Tells (λ r. r) result (outcome count bytes (ending_of stop))
Receives None count bytes result =
    Tells (λ r. r) result (outcome count bytes kinds.Ended) ⊎ (result ≡ Err (errors.InputOutput kinds.Fault))

-- A message stands whole on its own bytes, and has this position among the messages that were read. An ignored front stands whole
-- on its own bytes, and has no position.
abbrev pub IsReceived : ℕ → Received → Type 0
IsReceived position (Message m) = Front m.bytes m (length m.bytes) × (m.position ≡ position)
IsReceived position (Passed front) = IgnoredFront front (length front)

-- A fault is answered only where the source's count of faults rose.
abbrev pub HasCause : Error → SourceView → SourceView → Type 0
HasCause (errors.InputOutput kinds.Fault) old new = MayRise old.faults new.faults
HasCause e old new = old.faults ≤ new.faults

-- How many of the bytes left a read takes: at most the 16 of a head if fewer are left or the head is refused; else those of the
-- message, or of the ignored front, whose length the head says.
unfoldable pub spent : List ℕ → ℕ
spent bytes =
    if nat_lt (length bytes) 16 then length bytes
    else if is_some (head_fault bytes) then 16
    else min (total bytes) (length bytes)

-- What is left after a read, where it was told before, is what stands behind the bytes that it takes. Where a call failed or
-- there was no memory, fewer may be gone.
abbrev pub Spends : {A : Type 0} → Result A Error → SourceView → SourceView → Type 0
Spends (Err (errors.InputOutput kinds.Fault)) old new = Unit {0}
Spends (Err errors.Memory) old new = Unit {0}
Spends result old new = IfSome old.left (λ bytes. new.left ≡ Some (drop (spent bytes) bytes))
