-- What a run gives: a legal history of its commands, whose reads and writes are what the outside told.
use Rattle.std.specs.{Prelude.{ℕ, ◌≡◌, ◌^◌, ◌-◌, ◌≤◌, false, List, [], length, map, reverse, Option, None, IfSome, ⊤, ◌&&◌, ◌||◌, nat_le, if◌then◌else◌, Bool, true, ◌∷◌, ◌++◌, drop, take, Some, IsSome, Result, Ok, Err}, List.AllByRecursion, Io.KnownBytes.{Consumes, Keeps}}
use Rattle.peer_run.specs.{Names.{SourceView, SinkView, IsReceived, Received, received_bytes, HasCause, IsReadRefusal, Writing, MayRise, RoomFalls, RoomStays, asked_again, spent, Fine, MessageView, Error, Words, Command, Answer, Entry, Writer, command_of, IoKind}}
use Rattle.peer_conn.specs.Invariant.{PeerStateView, StateInvariant}
use Rattle.peer_route.specs.{Replay.Setting, Entries.{replay, Legal, IsAtOnce}, Environment.{ReadsAgree, ClosesAgree, WritesAgree, AreWritten, IsSentBytes, IsCutAt, message_bytes, left_after}}
use Rattle.peer_calls.specs.History.{Outbox}
use Rattle.peer_service.specs.Service.{ServiceView}
use Rattle.peer_turns.specs.{Objects.{Handed, AreServed}, Replies.AreReplied}

-- ---- what a source and a sink tell, entry by entry: the sink holds what was written of what was put

-- a count rose, or stayed
abbrev pub Moves : Bool → ℕ → ℕ → Type 0
Moves true before now = MayRise before now
Moves false before now = now ≡ before

-- ---- the source

-- A read takes exactly these bytes from the source, which stops as before; its count of faults never sinks.
abbrev pub TakesFront : List ℕ → SourceView → SourceView → Type 0
TakesFront front old new = Consumes old.left new.left front × (new.stop ≡ old.stop) × (old.faults ≤ new.faults)

-- What one read of a half that kept nothing takes. A message, which has the position asked for, or an ignored front: exactly the bytes
-- on which it stands. An error: one of a read's, a fault only with its cause.
abbrev pub Takes : ℕ → Result Received Error → SourceView → SourceView → Type 0
Takes position (Ok got) old new = IsReceived position got × TakesFront (received_bytes got) old new
Takes position (Err e) old new = IsReadRefusal e × HasCause e old new

-- What is left in the source, by what closed the peer; `rest` are the bytes that the reads before it left, and `count` messages were read.
-- It is these where nothing closed the peer, or a command did; where a read closed it, those behind the bytes that this read took, which
-- are none where no position was left for a message. After a fault nothing is told.
abbrev pub IsRest : Option Error → ℕ → List ℕ → Option Bool → SourceView → Type 0
IsRest None count rest stop now = (now.left ≡ Some rest) × (now.stop ≡ stop)
IsRest (Some (Error.InputOutput IoKind.Closed)) count rest stop now = (now.left ≡ Some rest) × (now.stop ≡ stop)
IsRest (Some (Error.InputOutput IoKind.Fault)) count rest stop now = ⊤
IsRest (Some error) count rest stop now = (now.left ≡ Some (drop (if nat_le (2 ^ 64 - 2) count then 0 else spent rest) rest)) × (now.stop ≡ stop)

-- What the source told at the start is what the history's reads say; what they didn't take is left in it.
pub record Reads (setting : Setting) (start now : SourceView) (es : List Entry) : Type 0 where
  pub told : IfSome start.left (λ bytes. ReadsAgree setting start.stop bytes es)
  pub rest : let h = (replay setting es).past in IfSome start.left (λ bytes. IsRest h.closing (length h.read) (left_after bytes h) start.stop now)

-- What an entry did to the source's count of faults, by what had closed the peer: nothing, but where it is a read of an open one; there it
-- rose where that is answered as a fault, and a busy peer leaves it.
abbrev pub SourceMoves : Words → Option Error → Answer → ℕ → ℕ → Type 0
SourceMoves Words.Read None (Answer.Closed (Error.InputOutput IoKind.Fault)) before now = MayRise before now
SourceMoves Words.Read None Answer.Busy before now = now ≡ before
SourceMoves Words.Read None answer before now = before ≤ now
SourceMoves w closed answer before now = now ≡ before

-- The source's count of faults, entry by entry, newest first.
abbrev pub SourceFaults : Setting → ℕ → List Entry → ℕ → Type 0
SourceFaults setting start [] now = now ≡ start
SourceFaults setting start (e ∷ es) now =
    (before : ℕ) × SourceFaults setting start es before × SourceMoves e.words (replay setting es).past.closing e.answer before now

-- ---- the sink

-- the command closes the peer
abbrev pub is_close : Words → Bool
is_close Words.Close = true
is_close w = false

-- how often a sink was asked to close, where it tells that, after these entries, newest first: each `close` asks it once more
abbrev pub asked_by : Option ℕ → List Entry → Option ℕ
asked_by asked [] = asked
asked_by asked (e ∷ es) = if is_close e.words then asked_again (asked_by asked es) else asked_by asked es

-- the answer says that a write failed, or the sink's `close`
abbrev pub is_failed_write : Answer → Bool
is_failed_write (Answer.SendFailed (Error.InputOutput IoKind.WriteFault)) = true
is_failed_write answer = false

-- A write of the entry failed, or it is a `close` whose sink's `close` did.
abbrev pub breaks : Entry → Bool
breaks e = e.failed || (is_close e.words && is_failed_write e.answer)

-- The sink's count of faults, entry by entry, newest first: it rose in the entry whose write failed, which is the first that is answered
-- so, and in each `close` that did; in every other entry it stayed.
abbrev pub SinkFaults : ℕ → List Entry → ℕ → Type 0
SinkFaults start [] now = now ≡ start
SinkFaults start (e ∷ es) now = (before : ℕ) × SinkFaults start es before × Moves (breaks e) before now

-- what the sink holds: behind what it held before, what was sent of these messages, of which so many were written, all but where a write
-- failed
abbrev pub Holds : Option (Option ℕ) → List ℕ → Option (List ℕ) → Bool → ℕ → List MessageView → Type 0
Holds room before after failed count ms = (sent : List ℕ) × (after ≡ Some (before ++ sent)) × IsSentBytes failed count ms sent × IsCutAt room failed sent

-- What closing the peer did to the sink: nothing, but that it was asked to close; and the count of faults rose where that failed, which it
-- doesn't where the sink tells its room.
pub record Shuts (answer : Answer) (now after : SinkView) : Type 0 where
  pub held : Keeps now.held after.held
  pub room : RoomStays now.room after.room
  pub told : IsSome now.room → answer ≡ Answer.Shut
  pub faults : Moves (is_failed_write answer) now.faults after.faults
  pub asked : after.closes ≡ asked_again now.closes

-- ---- on the way

-- What the sink got of these messages and has room for; it tells its room still.
pub record Got (start now : SinkView) (failed : Bool) (count : ℕ) (ms : List MessageView) : Type 0 where
  pub held : IfSome start.held (λ before. Holds start.room before now.held failed count ms)
  pub told : AreWritten start.room failed count ms
  pub room : failed ≡ false → RoomFalls start.room now.room (length (message_bytes ms))
  pub tells : IsSome start.room → IsSome now.room

-- That of the messages of the outbox that don't wait.
pub record Sinks (start now : SinkView) (o : Outbox) : Type 0 where
  pub got : Got start now o.failed o.written (take o.done o.put)
  pub few : o.done ≤ length o.put
  pub step : o.failed ≡ false → o.written ≡ o.done

-- the half that writes met nothing, where no write failed and the peer wasn't closed
abbrev pub IsFine : Writer → Writing → Type 0
IsFine met writing = met ≡ Writer.Fine → writing ≡ Fine

-- while the writer is fine, no write failed
abbrev pub IsUnfailed : Outbox → Type 0
IsUnfailed o = o.writer ≡ Writer.Fine → o.failed ≡ false

-- What writing all that waits did, by the outbox behind it.
pub record Flushed (start now after : SinkView) (o : Outbox) (failed : Bool) (writing : Writing) : Type 0 where
  pub sinks : Sinks start after o
  pub faults : Moves failed now.faults after.faults
  pub fine : IsFine o.writer writing

-- The peer is what the history leaves, newest first, which is legal and writes at once.
pub record RunInvariant (setting : Setting) (p : PeerStateView) (es : List Entry) : Type 0 where
  pub stands : StateInvariant p (replay setting es)
  pub legal : Legal setting es
  pub once : AllByRecursion IsAtOnce es
  pub within : p.core.read ≤ 2 ^ 64 - 2
  pub written : p.core.done ≡ length p.core.outbox

-- A peer of this setting, a source, a sink and the half that writes to it stand to a history, newest first.
pub record Running (setting : Setting) (start_in : SourceView) (start_out : SinkView) (p : PeerStateView) (now_in : SourceView) (now_out : SinkView) (writing : Writing) (es : List Entry) : Type 0 where
  pub follows : RunInvariant setting p es
  pub reads : Reads setting start_in now_in es
  pub sinks : Sinks start_out now_out (replay setting es).past.outbox
  pub told : WritesAgree setting start_out.room es
  pub closes : ClosesAgree start_out.room es
  pub source : SourceFaults setting start_in.faults es now_in.faults
  pub faults : SinkFaults start_out.faults es now_out.faults
  pub asked : now_out.closes ≡ asked_by start_out.closes es
  pub fine : IsFine (replay setting es).past.outbox.writer writing

-- A peer of this setting stands before its first command, and the half that writes met nothing; whether its sink takes file descriptors is
-- what the setting says.
pub record Begins (setting : Setting) (p : PeerStateView) (takes_fds : Bool) (writing : Writing) : Type 0 where
  pub follows : RunInvariant setting p []
  pub takes : setting.takes_fds ≡ takes_fds
  pub fine : writing ≡ Fine

-- The entries, oldest first, are a run of these commands by a peer of this setting, to which these interfaces were handed in, over a source and a
-- sink that told this before it and after it.
pub record Runs (boxes : Handed) (setting : Setting) (start_in : SourceView) (start_out : SinkView) (end_in : SourceView) (end_out : SinkView) (commands : List Command) (entries : List Entry) : Type 0 where
  -- each entry is what its command means after the entries before it
  pub legal : Legal setting (reverse entries)
  -- each writes what it puts, up to the first fault
  pub once : AllByRecursion IsAtOnce (reverse entries)
  -- the entries' commands are those, each once and in order
  pub each : map command_of entries ≡ commands
  -- what is asked of objects is answered by the interfaces that were handed in and by what the entries before left
  pub objects : (now : ServiceView) × AreServed setting boxes (reverse entries) now
  -- each call that was taken is answered once
  pub replies : AreReplied setting boxes (reverse entries)
  -- the reads are what stands in the source's bytes, and what is left in it is what they didn't take
  pub reads : Reads setting start_in end_in (reverse entries)
  -- the sink holds the bytes of what was put, up to its first fault
  pub writes : let o = (replay setting (reverse entries)).past.outbox in IfSome start_out.held (λ before. Holds start_out.room before end_out.held o.failed o.written o.put)
  -- where the sink tells its room, at each entry just those messages were written that end within it, and the next one's write failed
  pub room : WritesAgree setting start_out.room (reverse entries)
  -- where it does, no closing fails
  pub closes : ClosesAgree start_out.room (reverse entries)
  -- the sink was asked to close once for each `close`, whatever its answer
  pub asked : end_out.closes ≡ asked_by start_out.closes (reverse entries)
  -- a fault is answered only where its count rose: in that read; in that send, or an earlier one; in that closing
  pub source : SourceFaults setting start_in.faults (reverse entries) end_in.faults
  pub sink : SinkFaults start_out.faults (reverse entries) end_out.faults
