-- What the outside told: the reads are what stands in the source's bytes, and a send fails where the sink's room ends. It
-- stands apart from `Legal`, over the same history.
use Rattle.std.specs.{Prelude.{ℕ, ⊤, ◌≡◌, ◌+◌, ◌-◌, ◌<◌, ◌⊎◌, nat_le, nat_lt, if◌then◌else◌, Bool, true, false, List, [], ◌∷◌, ◌++◌, length, drop, take, slice_get, Option, Some, None, Result, Ok, Err}, List.flat_map}
use Rattle.peer_route.specs.{Names.{MessageView, Received, outcome, ending_of, Error, Words, Answer, Entry, IoKind}, Replay.Setting, Plan.{Plan, Reads, plan}, Entries.replay}
use Rattle.peer_core.specs.History.{Past}

-- ---- the source

-- the bytes of messages, one after another
abbrev pub message_bytes : List MessageView → List ℕ
message_bytes ms = flat_map (λ m. m.bytes) ms

-- the source's bytes without those that the reads took
abbrev pub left_after : List ℕ → Past → List ℕ
left_after bytes h = drop h.taken bytes

-- what a read took and was answered, by its outcome
abbrev pub IsOf : Result Received Error → Entry → Type 0
IsOf (Ok (Received.Message m)) e = (e.read ≡ Some m) × (e.answer ≡ Answer.Got)
IsOf (Ok (Received.Passed bytes)) e = (e.read ≡ None) × (e.answer ≡ Answer.Passed bytes)
IsOf (Err error) e = (e.read ≡ None) × (e.answer ≡ Answer.Closed error)

-- Where it isn't told what comes after the bytes, a failing call may come at any time.
abbrev pub IsOutcome : Option Bool → ℕ → List ℕ → Entry → Type 0
IsOutcome (Some stop) count bytes e = IsOf (outcome count bytes (ending_of stop)) e
IsOutcome None count bytes e = IsOf (outcome count bytes IoKind.Ended) e ⊎ IsOf (Err (Error.InputOutput IoKind.Fault)) e

-- a read of an open peer that isn't busy; a busy one takes nothing
abbrev pub ReadAgrees : Option Bool → List ℕ → Past → Plan → Entry → Type 0
ReadAgrees stop bytes h Reads e = IsOutcome stop (length h.read) (left_after bytes h) e
ReadAgrees stop bytes h other e = ⊤

-- Each read of an open peer that isn't busy is what stands at the front of the bytes that the reads before it left.
abbrev pub ReadsAgree : Setting → Option Bool → List ℕ → List Entry → Type 0
ReadsAgree setting stop bytes [] = ⊤
ReadsAgree setting stop bytes (e ∷ es) =
    ReadAgrees stop bytes (replay setting es).past (plan (replay setting es) e.lane e.words) e × ReadsAgree setting stop bytes es

-- ---- the sink

-- A sink that says where its room ends, or that no write fails, never fails to close.
abbrev pub CloseAgrees : Option (Option ℕ) → Words → Answer → Type 0
CloseAgrees (Some room) Words.Close answer = answer ≡ Answer.Shut
CloseAgrees other w answer = ⊤

-- so it is of each `close`
abbrev pub ClosesAgree : Option (Option ℕ) → List Entry → Type 0
ClosesAgree room [] = ⊤
ClosesAgree room (e ∷ es) = CloseAgrees room e.words e.answer × ClosesAgree room es

-- What the sink got of what was put, by how many messages were written. Where no write failed, all of them were, and it got their
-- bytes. Where one failed, it is that of the first message that wasn't written: the sink got the bytes of those before it,
-- and of it a proper prefix.
abbrev pub IsSentBytes : Bool → ℕ → List MessageView → List ℕ → Type 0
IsSentBytes false count ms sent = (count ≡ length ms) × (sent ≡ message_bytes ms)
IsSentBytes true count ms sent =
    (broken : MessageView) × (n : ℕ) × (slice_get ms count ≡ Some broken) × (n < length broken.bytes) × (sent ≡ message_bytes (take count ms) ++ take n broken.bytes)

-- How many of the messages, from the first on, end within so many bytes; one that ends exactly there does.
abbrev pub fitting : ℕ → List MessageView → ℕ
fitting room [] = 0
fitting room (m ∷ ms) = if nat_le (length m.bytes) room then fitting (room - length m.bytes) ms + 1 else 0

-- Where the sink says that no write fails, none failed. Where it has room for so many bytes, those of the messages were written that end
-- within them, and a write failed exactly where some message ends past them: it is that of the first such.
abbrev pub AreWritten : Option (Option ℕ) → Bool → ℕ → List MessageView → Type 0
AreWritten None failed count ms = ⊤
AreWritten (Some None) failed count ms = failed ≡ false
AreWritten (Some (Some room)) failed count ms = (count ≡ fitting room ms) × (failed ≡ nat_lt room (length (message_bytes ms)))

-- So it is of all messages that were put so far, at each entry.
abbrev pub WritesAgree : Setting → Option (Option ℕ) → List Entry → Type 0
WritesAgree setting room [] = ⊤
WritesAgree setting room (e ∷ es) =
    let o = (replay setting (e ∷ es)).past.outbox in AreWritten room o.failed o.written o.put × WritesAgree setting room es

-- After a failed write the sink holds just the bytes that it had room for.
abbrev pub IsCutAt : Option (Option ℕ) → Bool → List ℕ → Type 0
IsCutAt (Some (Some room)) true sent = length sent ≡ room
IsCutAt other failed sent = ⊤
