-- What the half of a connection that writes answers (D-Bus Specification, "Message Protocol").
use Rattle.std.specs.Prelude.{ℕ, ◌≡◌, ◌<◌, ◌⊎◌, Bool, false, not, ◌&&◌, ◌==◌, List, Option, Some, None, Result, Ok, Err}
use Rattle.wire_framing.specs.Views.{SinkView}
use Rattle.wire_framing.specs.Sink.{WritesAll, Stops}
use Rattle.wire_framing.specs.declared.sink.Refusal.TheVariants as refusals
use Rattle.wire_framing.specs.declared.write_half.Writing.{Writing}
use Rattle.wire_framing.specs.declared.write_half.Writing.TheVariants.{Fine, Failed, Closed, OutOfMemory}
use Rattle.wire_message.specs.declared.error.Error.{Error}
use Rattle.wire_message.specs.declared.error.Error.TheVariants as errors
use Rattle.wire_message.specs.declared.error.IoKind.TheVariants as kinds

-- a message has descriptors where its header says a number of them above 0
abbrev pub has_descriptors : Option ℕ → Bool
has_descriptors None = false
has_descriptors (Some count) = not (count == 0)

-- a message with descriptors, to a sink that takes none
abbrev pub is_unsupported : Option ℕ → Bool → Bool
is_unsupported descriptors takes = has_descriptors descriptors && not takes

-- the answer of each send from now on
abbrev pub cause : Writing → Option Error
cause Fine = None
cause Failed = Some (errors.InputOutput kinds.WriteFault)
cause Closed = Some (errors.InputOutput kinds.Closed)
cause OutOfMemory = Some errors.Memory

-- after `close`; an earlier cause stays
abbrev pub closed : Writing → Writing
closed Fine = Closed
closed writing = writing

-- What a send writes and leaves where nothing is wrong yet. Ok: all bytes. WriteFault, only where the count of faults rose:
-- exactly the bytes for which there was room, and the half has failed. Memory: some of the bytes; where there are any, the
-- half has run out of memory in mid-message.
abbrev pub Sends : {A : Type 0} → Result A Error → Writing → List ℕ → SinkView → SinkView → Type 0
Sends (Ok done) writing' bytes old new = WritesAll (Ok done) bytes old new × (writing' ≡ Fine)
Sends (Err (errors.InputOutput kinds.WriteFault)) writing' bytes old new =
    (n : ℕ) × Stops refusals.Failed bytes old new n × (writing' ≡ Failed)
Sends (Err errors.Memory) writing' bytes old new =
    (n : ℕ) × Stops refusals.Memory bytes old new n × (((n ≡ 0) × (writing' ≡ Fine)) ⊎ ((0 < n) × (writing' ≡ OutOfMemory)))
Sends (Err e) writing' bytes old new = ⊥
