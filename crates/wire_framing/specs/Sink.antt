-- What a sink of bytes answers, over what it tells of itself before and after the call.
use Rattle.std.specs.Prelude.{ℕ, ◌≡◌, ◌+◌, ◌-◌, ◌^◌, min, ◌<◌, ◌≤◌, List, length, take, Option, Some, None, Result, Ok, Err}
use Rattle.std.specs.Io.KnownBytes.{Appends, Keeps}
use Rattle.wire_framing.specs.Views.{SinkView}
use Rattle.wire_framing.specs.Source.{MayRise}
use Rattle.wire_framing.specs.declared.sink.Refusal.{Refusal}
use Rattle.wire_framing.specs.declared.sink.Refusal.TheVariants as refusals

-- The room after n bytes were taken. `Some (Some k)` is room for k bytes before the one write that fails, `Some None`
-- says that no write fails.
abbrev pub RoomFalls : Option (Option ℕ) → Option (Option ℕ) → ℕ → Type 0
RoomFalls None room' n = Unit {0}
RoomFalls (Some None) room' n = room' ≡ Some None
RoomFalls (Some (Some k)) room' n = (n ≤ k) × (room' ≡ Some (Some (k - n)))

-- The room as a write fails, after n bytes were taken: that was all the room, and from now on no write fails.
abbrev pub RoomBreaks : Option (Option ℕ) → Option (Option ℕ) → ℕ → Type 0
RoomBreaks None room' n = Unit {0}
RoomBreaks (Some None) room' n = ⊥
RoomBreaks (Some (Some k)) room' n = (n ≡ k) × (room' ≡ Some None)

-- The room, where it is told, stays.
abbrev pub RoomStays : Option (Option ℕ) → Option (Option ℕ) → Type 0
RoomStays None room' = Unit {0}
RoomStays (Some room) room' = room' ≡ Some room

-- What `write` of a piece answers. Ok(n): its first n bytes were appended, at least one unless it is empty. Failed only
-- where the count of faults rose and no room was left, where that is told. An error appends nothing.
abbrev pub Writes : Result ℕ Refusal → List ℕ → SinkView → SinkView → Type 0
Writes (Ok n) piece old new =
    (n ≤ length piece) × (0 < length piece → 0 < n) × Appends old.held new.held (take n piece) × RoomFalls old.room new.room n
    × (new.faults ≡ old.faults)
Writes (Err refusals.Failed) piece old new =
    Keeps old.held new.held × RoomBreaks old.room new.room 0 × MayRise old.faults new.faults
Writes (Err refusals.Memory) piece old new =
    Keeps old.held new.held × RoomStays old.room new.room × (new.faults ≡ old.faults)

-- Only the first n bytes were appended, and these aren't all.
pub record Part (bytes : List ℕ) (old new : SinkView) (n : ℕ) : Type 0 where
  pub proper : n < length bytes
  pub gone : Appends old.held new.held (take n bytes)

-- Writing stopped after n bytes. Failed, only where the count of faults rose: these are exactly the bytes for which there
-- was room. Memory: there was no memory for more.
abbrev pub Stops : Refusal → List ℕ → SinkView → SinkView → ℕ → Type 0
Stops refusals.Failed bytes old new n = Part bytes old new n × RoomBreaks old.room new.room n × MayRise old.faults new.faults
Stops refusals.Memory bytes old new n = Part bytes old new n × RoomFalls old.room new.room n × (new.faults ≡ old.faults)

-- Writing all of some bytes. Ok: all were appended, which needs as much room where that is told. An error: some of them,
-- and not all.
abbrev pub WritesAll : {A : Type 0} → Result A Refusal → List ℕ → SinkView → SinkView → Type 0
WritesAll (Ok done) bytes old new =
    Appends old.held new.held bytes × RoomFalls old.room new.room (length bytes) × (new.faults ≡ old.faults)
WritesAll (Err refusal) bytes old new = (n : ℕ) × Stops refusal bytes old new n

-- The same, where an error says after how many bytes it came.
abbrev pub WritesFront : {A : Type 0} → Result A (ℕ × Refusal) → List ℕ → SinkView → SinkView → Type 0
WritesFront (Ok done) bytes old new = WritesAll (Ok done) bytes old new
WritesFront (Err stop) bytes old new = Stops stop.1 bytes old new stop.0

-- What `close` answers: it appends nothing and leaves the room. Ok only where no call failed, so that the count of faults
-- stays; Failed only where that count rose, and never where room is told.
abbrev pub Closes : {A E : Type 0} → Result A E → SinkView → SinkView → Type 0
Closes (Ok done) old new = Keeps old.held new.held × RoomStays old.room new.room × (new.faults ≡ old.faults)
Closes (Err e) old new = Keeps old.held new.held × (old.room ≡ None) × MayRise old.faults new.faults

-- How often a sink was asked to close, where it tells that, after it was asked once more; the count stays at 2^64 - 1.
abbrev pub asked_again : Option ℕ → Option ℕ
asked_again None = None
asked_again (Some count) = Some (min (count + 1) (2 ^ 64 - 1))
