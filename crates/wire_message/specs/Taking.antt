-- What a call leaves that takes a front off some bytes.
use Rattle.std.specs.Prelude.{◌≡◌, ℕ, List, length, drop, Result, Ok, Err}
use Rattle.wire_message.specs.Outcome.{received_bytes}
use Rattle.wire_message.specs.declared.received.Received.{Received}
use Rattle.wire_message.specs.declared.error.Error.{Error}

-- What was received is gone from the front of the bytes; at an error they are as they were.
abbrev pub Leaves : Result Received Error → List ℕ → List ℕ → Type 0
Leaves (Ok r) old new = new ≡ drop (length (received_bytes r)) old
Leaves (Err error) old new = new ≡ old
