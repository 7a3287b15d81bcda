-- What one read of recorded traffic finds.
use Rattle.std.specs.Prelude.{ℕ, ◌≡◌, ◌≢◌, ◌≤◌, true, false, List, length, drop, Option, Some, None, Result, Ok, Err}
use Rattle.std.specs.Io.KnownBytes.{Consumes}
use Rattle.wire_framing.specs.Receive.{spent}
use Rattle.wire_framing.specs.Views.{SourceView}
use Rattle.wire_message.specs.Outcome.{outcome, received_bytes}
use Rattle.wire_message.specs.declared.received.Received.{Received}
use Rattle.wire_message.specs.declared.error.Error.{Error}
use Rattle.wire_message.specs.declared.error.Error.TheVariants as errors
use Rattle.wire_message.specs.declared.error.IoKind.TheVariants as kinds

-- A read that failed took some first bytes of these, at most those of one front, and `left` is what is left of them in the
-- source.
abbrev pub TakesPart : List ℕ → Option (List ℕ) → Type 0
TakesPart bytes left = (gone : List ℕ) × Consumes (Some bytes) left gone × (length gone ≤ spent gone)

-- What a read answers and leaves, if these bytes are left in the source and `count` messages were read before.
--
-- - A front: the one at the front of the bytes, whose bytes are then taken.
-- - An error: the one that stands there. The bytes end only where no failing read is reported after them.
-- - A fault: only where a failing read isn't excluded; where one is reported, only after all fronts; where nothing is
--   reported of it, what the read took is at most one front.
abbrev pub Finds : Result Received Error → ℕ → List ℕ → SourceView → SourceView → Type 0
Finds (Ok r) count bytes old new =
    (outcome count bytes kinds.Ended ≡ Ok r) × (new.left ≡ Some (drop (length (received_bytes r)) bytes))
    × (new.stop ≡ old.stop)
Finds (Err errors.Memory) count bytes old new = Unit {0}
Finds (Err (errors.InputOutput kinds.Fault)) count bytes old new =
    (old.stop ≢ Some false)
    × (old.stop ≡ Some true → outcome count bytes kinds.Ended ≡ Err (errors.InputOutput kinds.Ended))
    × (old.stop ≡ None → TakesPart bytes new.left)
Finds (Err (errors.InputOutput kinds.Ended)) count bytes old new =
    (old.stop ≢ Some true) × (outcome count bytes kinds.Ended ≡ Err (errors.InputOutput kinds.Ended))
Finds (Err error) count bytes old new = outcome count bytes kinds.Ended ≡ Err error
