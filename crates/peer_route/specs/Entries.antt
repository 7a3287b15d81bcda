-- What an entry holds, by what its command means; what entries leave; and the histories whose entries are these.
use Rattle.std.specs.Prelude.{ℕ, zero, suc, ⊤, ◌≡◌, ◌+◌, ◌-◌, ◌^◌, ◌<◌, ◌≤◌, ◌⊎◌, Bool, true, false, if◌then◌else◌, List, [], ◌∷◌, ◌++◌, length, Option, Some, None, Result, Ok, Err, map, option_map, option_to_list}
use Rattle.std.specs.List.{AllByRecursion}
use Rattle.peer_route.specs.{Names.{Front, IgnoredFront, MessageView, IsReadError, Error, Answer, Entry, IoKind}, Replay.{Setting, Replay, new_owners, asked_owners, made_owners}, Plan.{Plan, Says, Sends, Reads, Serves, Dispatches, Closes, Writes, Never, call_answer, plan}}
use Rattle.peer_core.specs.{History.{Event, Received, Passed, PeerClosed, Put, Wrote, WriteFailed, Main, OnBus, Named, Did, Past, no_past, after, after_all}, Issuing.puts}
use Rattle.peer_calls.specs.{History.OfLane, Issuing.{Posting, posted, outgoings, messages_of}}
use Rattle.peer_streams.specs.History.{Gave}
use Rattle.wire_message.specs.Outgoing.{OutgoingMessageView, expects, sent_by}
use Rattle.peer_core.specs.Issuing.{issued}

-- ---- an entry

-- it puts nothing, and nothing is written within it
pub record IsQuiet (e : Entry) : Type 0 where
  pub put : e.put ≡ []
  pub written : e.written ≡ 0
  pub failed : e.failed ≡ false

-- The read closed the peer: this is why there is no message.
abbrev pub IsReadEnd : Answer → Type 0
IsReadEnd answer = (error : Error) × (answer ≡ Answer.Closed error) × IsReadError error

-- The read ignored a front of a type that isn't known, which fills these bytes; a message could still have a position.
abbrev pub IsPassed : ℕ → Answer → Type 0
IsPassed count answer = (bytes : List ℕ) × (answer ≡ Answer.Passed bytes) × IgnoredFront bytes (length bytes) × (count < 2 ^ 64 - 2)

-- What a read took: the next message, which stands on its own bytes, one position above those before it (no position passes 2^64 - 2); or
-- no message: an ignored front, or why nothing more comes.
abbrev pub IsRead : ℕ → Option MessageView → Answer → Type 0
IsRead count (Some m) answer = (answer ≡ Answer.Got) × Front m.bytes m (length m.bytes) × (m.position ≡ count + 1) × (count < 2 ^ 64 - 2)
IsRead count None answer = IsReadEnd answer ⊎ IsPassed count answer

-- what is answered where the write of a message failed
abbrev pub write_fault : Answer
write_fault = Answer.SendFailed (Error.InputOutput IoKind.WriteFault)

-- what is answered where messages can't be put: nothing goes out after a failed write, or once the peer was closed
abbrev pub unsent : Error → Answer
unsent (Error.InputOutput kind) = Answer.SendFailed (Error.InputOutput kind)
unsent error = Answer.Refused error

-- Writes at once: all that an entry puts is written within it, unless a write failed.
abbrev pub IsAtOnce : Entry → Type 0
IsAtOnce e = e.failed ≡ false → e.written ≡ length e.put

-- Writes as entries of their own: nothing is.
abbrev pub IsLater : Entry → Type 0
IsLater e = (e.written ≡ 0) × (e.failed ≡ false)

-- An entry writes only where nothing that was put before it waits: writes take the messages in order.
abbrev pub IsInTurn : Past → Entry → Type 0
IsInTurn h e = IsLater e ⊎ (h.outbox.done ≡ length h.outbox.put)

-- Messages were put; each one that was written was the first that wasn't, and where a write failed, none behind it was.
pub record IsPut (ms : List MessageView) (success : Answer) (e : Entry) : Type 0 where
  pub put : e.put ≡ ms
  pub answer : e.answer ≡ (if e.failed then write_fault else success)
  pub written : e.written ≤ length ms
  pub cut : e.failed ≡ true → e.written < length ms

-- what an entry is that wants these messages sent: they are put; or none is, for that reason
abbrev pub IsSending : Result (List ℕ) Error → List Posting → (List ℕ → Answer) → Entry → Type 0
IsSending (Ok serials) ds sent e = IsPut (messages_of (outgoings ds) serials) (sent serials) e
IsSending (Err error) ds sent e = (e.answer ≡ unsent error) × IsQuiet e

-- The peer is closed, or the sink's `close` failed; then it is closed as well.
abbrev pub IsClose : Answer → Type 0
IsClose answer = (answer ≡ Answer.Shut) ⊎ (answer ≡ write_fault)

-- the command is refused
abbrev pub is_refused : Answer → Bool
is_refused (Answer.Refused error) = true
is_refused answer = false

-- what whoever keeps the peer's objects may answer
abbrev pub is_of_objects : Answer → Bool
is_of_objects Answer.Added = true
is_of_objects Answer.Exists = true
is_of_objects (Answer.Removed destroyed) = true
is_of_objects (Answer.Slot slot) = true
is_of_objects answer = is_refused answer

-- what a command on objects does beside its messages, unless it is refused
abbrev pub unless_refused : Answer → List Event → List Event
unless_refused answer done = if is_refused answer then [] else done

-- What may be said of objects, with the messages that are wanted sent: what is known to be said, and then none; else what may be said of
-- objects, and none where that refuses the command.
abbrev pub IsSaid : Option Answer → Answer → List OutgoingMessageView → Type 0
IsSaid None answer ps = (is_of_objects answer ≡ true) × (is_refused answer ≡ true → ps ≡ [])
IsSaid (Some said) answer ps = (answer ≡ said) × (ps ≡ [])

-- The messages of whoever keeps the peer's objects, sent by the peer of that name; in an answer to a call (`served`) an error has no
-- sender.
abbrev pub object_postings : Bool → Option (List ℕ) → List OutgoingMessageView → List Posting
object_postings served name ps = map (λ p. posted false (sent_by name served p)) ps

-- These messages of whoever keeps the peer's objects are wanted sent after these deeds, and that is to be answered: all are put, or none.
abbrev pub Delivers : Bool → Past → List Event → List OutgoingMessageView → Answer → Entry → Type 0
Delivers served h done ps answer e = IsSending (issued (after_all done h) (object_postings served h.name ps)) (object_postings served h.name ps) (λ serials. answer) e

-- What was said of objects, and the messages that are wanted sent with it, for none of which a reply is waited for. Where they can't be put,
-- why is answered in place of what was said; and what the command does beside them it does unless what was said refuses it.
pub record IsServed (h : Past) (said : Option Answer) (done : List Event) (e : Entry) : Type 0 where
  pub answer : Answer
  pub messages : List OutgoingMessageView
  pub may : IsSaid said answer messages
  pub unawaited : AllByRecursion (λ p. expects p ≡ false) messages
  pub delivers : Delivers false h (unless_refused answer done) messages answer e

-- Some messages are wanted sent that answer a call, for none of which a reply is waited for: all are put, or none.
abbrev pub IsDispatched : Past → MessageView → Entry → Type 0
IsDispatched h m e = (ps : List OutgoingMessageView) × AllByRecursion (λ p. expects p ≡ false) ps × Delivers true h [] ps (call_answer m) e

-- the past once the object server's stream gave its next message
abbrev pub gave_next : ℕ → Past → Past
gave_next k h = after (Did k Gave) h

-- What an entry is, by the past before it and what its command means.
abbrev pub IsMeant : Past → Plan → Entry → Type 0
IsMeant h (Says answer deeds) e = (e.read ≡ None) × (e.answer ≡ answer) × IsQuiet e
IsMeant h (Sends deeds ds sent) e = (e.read ≡ None) × IsSending (issued (after_all deeds h) ds) ds sent e × IsInTurn h e
IsMeant h Reads e = IsRead (length h.read) e.read e.answer × IsQuiet e
IsMeant h (Serves said done) e = (e.read ≡ None) × IsServed h said done e × IsInTurn h e
IsMeant h (Dispatches k m) e = (e.read ≡ None) × IsDispatched (gave_next k h) m e × IsInTurn h e
IsMeant h Closes e = (e.read ≡ None) × IsClose e.answer × IsQuiet e
IsMeant h (Writes fails) e = (e.read ≡ None) × (e.answer ≡ Answer.Nothing) × IsQuiet e
IsMeant h Never e = ⊥

-- The entry is what its command means, after this replay.
abbrev pub IsEntry : Replay → Entry → Type 0
IsEntry t e = IsMeant t.past (plan t e.lane e.words) e

-- ---- what an entry leaves

-- A read takes a message, ignores a front, or closes the peer where nothing more comes.
abbrev pub read_events : Option MessageView → Answer → List Event
read_events (Some m) answer = Received m ∷ []
read_events None (Answer.Closed error) = PeerClosed error ∷ []
read_events None (Answer.Passed bytes) = Passed bytes ∷ []
read_events None answer = []

-- what an entry does beside its messages; a peer is closed whatever the sink's `close` answers
abbrev pub deeds : Plan → Entry → List Event
deeds (Says answer done) e = done
deeds (Sends done ds sent) e = done
deeds Reads e = read_events e.read e.answer
deeds (Serves said done) e = unless_refused e.answer done
deeds (Dispatches k m) e = Did k Gave ∷ []
deeds Closes e = PeerClosed (Error.InputOutput IoKind.Closed) ∷ []
deeds (Writes fails) e = (if fails then WriteFailed else Wrote) ∷ []
deeds Never e = []

-- whose the streams are that a command makes by itself: its lane's, but the object server's is nobody's
abbrev pub maker : Plan → ℕ → Option ℕ
maker (Serves said done) lane = None
maker other lane = Some lane

-- The number of the object server's stream: one that is made where there was none, when so many streams were made.
abbrev pub server_after : Plan → Answer → ℕ → Option ℕ → Option ℕ
server_after (Serves said done) answer streams (Some k) = Some k
server_after (Serves said done) answer streams None = if is_refused answer then None else Some streams
server_after other answer streams server = server

-- the messages that a plan wants sent, where it knows them
abbrev pub postings : Plan → List Posting
postings (Sends done ds sent) = ds
postings other = []

-- the events of putting messages for which no reply is waited for
abbrev pub object_events : List MessageView → List Event
object_events ms = map (λ m. Put m (OfLane false)) ms

-- the events of the messages that the entry put
abbrev pub put_events : Plan → Entry → List Event
put_events (Serves said done) e = object_events e.put
put_events (Dispatches k m) e = object_events e.put
put_events pl e = puts (postings pl) e.put

-- the event so many times
abbrev pub repeat : ℕ → Event → List Event
repeat zero e = []
repeat (suc n) e = e ∷ repeat n e

-- so many of these messages were written; where a write failed, none of the others
abbrev pub writes_of : ℕ → Bool → ℕ → List Event
writes_of written failed count = repeat written Wrote ++ (if failed then repeat (count - written) WriteFailed else [])

-- the events of what was written within the entry
abbrev pub writes : Entry → List Event
writes e = writes_of e.written e.failed (length e.put)

-- the past once the entry was: its deeds, then its messages are put, then they are written
abbrev pub past_after : Plan → Entry → Past → Past
past_after pl e h = after_all (writes e) (after_all (put_events pl e) (after_all (deeds pl e) h))

-- what the entry leaves, by what its command means
abbrev pub more_by : Plan → Entry → Replay → Replay
more_by pl e t = record {
  past = past_after pl e t.past;
  calls = t.calls ++ new_owners e.lane e.failed (postings pl) e.put;
  streams = t.streams ++ made_owners (maker pl e.lane) (deeds pl e) ++ asked_owners e.lane e.failed (postings pl) e.put;
  server = server_after pl e.answer (length t.streams) t.server;
  setting = t.setting;
}

-- what the entry leaves
abbrev pub more : Replay → Entry → Replay
more t e = more_by (plan t e.lane e.words) e t

-- ---- a history

-- before the first entry the capacity is set, if it is given; the peer is put on a message bus, if it is one's; and it gets its
-- unique name, if it has one
abbrev pub first_past : Setting → Past
first_past setting =
    after_all (option_to_list (option_map Named setting.name))
    (after_all (if setting.bus then OnBus ∷ [] else []) (after_all (option_to_list (option_map Main setting.queue)) no_past))

-- what the entries, newest first, of a peer of this setting leave
abbrev pub replay : Setting → List Entry → Replay
replay setting [] = record { past = first_past setting; calls = []; streams = []; server = None; setting = setting }
replay setting (e ∷ es) = more (replay setting es) e

-- Each entry is what its command means after the entries before it, by the peer's setting. The history is newest first.
abbrev pub Legal : Setting → List Entry → Type 0
Legal setting [] = ⊤
Legal setting (e ∷ es) = IsEntry (replay setting es) e × Legal setting es
