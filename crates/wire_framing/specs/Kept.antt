-- What one read of a half gives and takes: of the bytes that were kept, and then of the source's (D-Bus Specification,
-- "Message Protocol").
use Rattle.std.specs.Prelude.{ℕ, ◌≡◌, ◌+◌, ◌<◌, ◌≤◌, ◌⊎◌, List, [], ◌++◌, length, take, drop, IfOk, Option, Some, None, Result, Ok, Err}
use Rattle.std.specs.Io.KnownBytes.{Consumes}
use Rattle.wire_framing.specs.Views.{SourceView}
use Rattle.wire_framing.specs.Source.{MayRise, IsEnd, FailsAt, Asks}
use Rattle.wire_framing.specs.Receive.{spent}
use Rattle.wire_message.specs.Front.{total}
use Rattle.wire_message.specs.Outcome.{head_fault, received_bytes}
use Rattle.wire_message.specs.declared.received.Received.{Received}
use Rattle.wire_message.specs.declared.error.Error.{Error}
use Rattle.wire_message.specs.declared.error.Error.TheVariants as errors
use Rattle.wire_message.specs.declared.error.IoKind.TheVariants as kinds

-- The source gave these bytes. Ended: it has no more. Fault: a call failed behind them.
abbrev pub Comes : {A : Type 0} → Result A Error → List ℕ → SourceView → SourceView → Type 0
Comes (Err (errors.InputOutput kinds.Ended)) got old new =
    Consumes old.left new.left got × IsEnd new.left old.stop × (new.stop ≡ old.stop) × (old.faults ≤ new.faults)
Comes (Err (errors.InputOutput kinds.Fault)) got old new =
    (mid : Option (List ℕ)) × Consumes old.left mid got × FailsAt old.stop new.stop mid new.left × MayRise old.faults new.faults
Comes result got old new = Consumes old.left new.left got × (new.stop ≡ old.stop) × (old.faults ≤ new.faults)

-- What is kept after a read, of all the bytes that were there: what stands behind those that the read takes. Out of
-- memory that is all of them.
abbrev pub rest_of : {A : Type 0} → Result A Error → List ℕ → List ℕ
rest_of (Err errors.Memory) all = all
rest_of result all = drop (spent all) all

-- What a read takes, with `kept` and `kept'` before and after it. `got` came from the source, which was asked at most once more
-- than it gave bytes. The read takes `kept` first, and no byte after the message, or after the ignored front.
pub record TakesKept (result : Result Received Error) (kept kept' : List ℕ) (old new : SourceView) : Type 0 where
  pub got : List ℕ
  pub came : Comes result got old new
  pub own : (got ≡ []) ⊎ (length (kept ++ got) ≤ spent (kept ++ got))
  pub message : IfOk result (λ r. received_bytes r ≡ take (spent (kept ++ got)) (kept ++ got))
  pub behind : kept' ≡ rest_of result (kept ++ got)
  pub asks : Asks old new (length got + 1)

-- ---- the steps of a read

-- one time more where the bytes didn't come
abbrev pub once_more : {A : Type 0} → Result A Error → ℕ
once_more (Ok done) = 0
once_more (Err e) = 1

-- There are as many bytes as were wanted; or fewer, and why.
abbrev pub FillsUp : {A : Type 0} → Result A Error → ℕ → List ℕ → Type 0
FillsUp (Ok done) wanted bytes = wanted ≤ length bytes
FillsUp (Err (errors.InputOutput kinds.Ended)) wanted bytes = length bytes < wanted
FillsUp (Err (errors.InputOutput kinds.Fault)) wanted bytes = length bytes < wanted
FillsUp (Err errors.Memory) wanted bytes = length bytes < wanted
FillsUp (Err e) wanted bytes = ⊥

-- a head that is refused by nothing
pub record IsRight (bytes : List ℕ) : Type 0 where
  pub head : 16 ≤ length bytes
  pub right : head_fault bytes ≡ None

-- fewer bytes than a head, or than the length that the head says
abbrev pub IsCut : List ℕ → Type 0
IsCut bytes = (length bytes < 16) ⊎ (IsRight bytes × (length bytes < total bytes))

-- The bytes begin with a head that is refused by nothing, and are at least as many as the head says.
abbrev pub IsThere : List ℕ → Type 0
IsThere bytes = IsRight bytes × (total bytes ≤ length bytes)

-- The bytes of the first message, or of the first ignored front, are all there; or why not.
abbrev pub ReadsToMessage : Result (Unit {0}) Error → List ℕ → Type 0
ReadsToMessage (Ok done) bytes = IsThere bytes
ReadsToMessage (Err (errors.InputOutput kinds.Ended)) bytes = IsCut bytes
ReadsToMessage (Err (errors.InputOutput kinds.Fault)) bytes = IsCut bytes
ReadsToMessage (Err errors.Memory) bytes = Unit {0}
ReadsToMessage (Err e) bytes = (16 ≤ length bytes) × (head_fault bytes ≡ Some e)
