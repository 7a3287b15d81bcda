-- What the laws of histories say, in words of their own.
use Rattle.std.specs.{Prelude.{ℕ, ⊤, ◌≡◌, ◌≢◌, ◌+◌, ◌||◌, ◌⊎◌, true, false, [], ◌∷◌, ◌++◌, length, is_some, drop, find, slice_get, unwrap_or, option_map, option_and_then, List, Option, Some, None, Bool}, List.AllByRecursion}
use Rattle.peer_route.specs.{Names.{MessageView, Error, Words, CallOp, Answer, Entry, StreamOp}, Replay.{Replay, handle_index}, Answers.reply_answer, Plan.{where_named, on_call, server_rule}, Entries.{object_events, writes}}
use Rattle.peer_calls.specs.{History.Call, Calls.{reply, is_gone}}
use Rattle.wire_message.specs.Replying.{replies_to}
use Rattle.peer_core.specs.History.{Past, Made, after, after_all}
use Rattle.peer_streams.specs.{History.Ruled, Streams.held}

-- the command asks for the answer of the lane's call with this number, by position or not
abbrev pub IsPoll : ℕ → Words → Type 0
IsPoll number w = (op : CallOp) × (w ≡ Words.OfCall number op) × (op ≢ CallOp.Drop)

-- the answer is the call's last word: its reply, or the error that closed the peer
abbrev pub IsFinal : Answer → Type 0
IsFinal (Answer.Reply position) = ⊤
IsFinal (Answer.InvalidReply position) = ⊤
IsFinal (Answer.MethodError m) = ⊤
IsFinal (Answer.Closed error) = ⊤
IsFinal answer = ⊥

-- the answer is a reply, valid or not, that stood at this position
abbrev pub IsReplyAt : ℕ → Answer → Type 0
IsReplyAt q (Answer.Reply position) = position ≡ q
IsReplyAt q (Answer.InvalidReply position) = position ≡ q
IsReplyAt q (Answer.MethodError m) = m.position ≡ q
IsReplyAt q answer = ⊥

-- where the entry asks something of this lane's call of this number, its answer is that no such call waits
abbrev pub IsUnknown : ℕ → ℕ → Entry → Type 0
IsUnknown lane number e = e.lane ≡ lane → (op : CallOp) → e.words ≡ Words.OfCall number op → e.answer ≡ Answer.Refused Error.UnknownHandle

-- The lane's number names a call, and the first message read after it was put that bears its serial is shown by the
-- answer; that message was the q-th that was read, from 1 on, and its position says so.
pub record IsFirstReply (t : Replay) (lane number q : ℕ) (answer : Answer) : Type 0 where
  pub k : ℕ
  pub call : Call
  pub message : MessageView
  pub place_before : ℕ
  pub named : handle_index 0 lane number t.calls ≡ Some k
  pub made : slice_get t.past.calls k ≡ Some call
  pub first : find (replies_to call.serial) (drop call.from t.past.read) ≡ Some message
  pub shown : answer ≡ reply_answer message
  pub position : message.position ≡ q
  pub rank : q ≡ place_before + 1
  pub stands : slice_get t.past.read place_before ≡ Some message

-- The lane's number names a call, no message read after it was put bears its serial, and this was the first error that
-- closed the peer.
pub record IsCutOff (t : Replay) (lane number : ℕ) (error : Error) : Type 0 where
  pub k : ℕ
  pub call : Call
  pub named : handle_index 0 lane number t.calls ≡ Some k
  pub made : slice_get t.past.calls k ≡ Some call
  pub unanswered : AllByRecursion (λ m. replies_to call.serial m ≡ false) (drop call.from t.past.read)
  pub first : t.past.closing ≡ Some error

-- a message that comes now says nothing to this call: it bears another serial, or the call has its reply or is over
abbrev pub IsPast : Past → MessageView → Call → Type 0
IsPast h m c = (replies_to c.serial m ≡ false) ⊎ ((is_gone c || is_some (reply h.read c)) ≡ true)

-- What a command that asks something of the lane's call with this number means is the same after these entries as after those.
abbrev pub SameCall : Replay → Replay → ℕ → ℕ → Type 0
SameCall new old lane number = (op : CallOp) → where_named (on_call new.past op) (handle_index 0 lane number new.calls) ≡ where_named (on_call old.past op) (handle_index 0 lane number old.calls)

-- the command polls a call, or takes from a stream, by position
abbrev pub is_by_position : Words → Bool
is_by_position (Words.OfCall number (CallOp.Before before)) = true
is_by_position (Words.OfStream number (StreamOp.TakeBefore before)) = true
is_by_position w = false

-- the answer says that there is nothing yet
abbrev pub IsNothingYet : Answer → Type 0
IsNothingYet Answer.NotYet = ⊤
IsNothingYet Answer.Empty = ⊤
IsNothingYet answer = ⊥

-- ---- a front that a read ignored

-- a replay once the reads took so many bytes more
abbrev pub with_taken : ℕ → Replay → Replay
with_taken count t = record t { past = record t.past { taken = t.past.taken + count } }

-- ---- the object server

-- What is left once the object server's stream was made: it comes behind all streams, is nobody's, and has the rule that goes by the
-- peer's name of then; no capacity is asked for. All else is as it was.
abbrev pub with_server : Replay → Replay
with_server t = record t {
  past = after (Made (Ruled (server_rule t.past.name) None)) t.past;
  streams = t.streams ++ None ∷ [];
  server = Some (length t.streams);
}

-- a replay once the entry's messages were put for which no reply is waited for, and as many were written as the entry says
abbrev pub with_messages : Entry → Replay → Replay
with_messages e t = record t { past = after_all (writes e) (after_all (object_events e.put) t.past) }

-- what the object server's stream holds
abbrev pub held_for_objects : Replay → List MessageView
held_for_objects t = unwrap_or (option_map (held t.past.read) (option_and_then (slice_get t.past.streams) t.server)) []

-- the answer says why messages weren't put, or weren't written
abbrev pub is_undelivered : Answer → Bool
is_undelivered (Answer.Refused error) = true
is_undelivered (Answer.SendFailed error) = true
is_undelivered answer = false

-- ---- what was sent

-- the serial by which an answer says that a message was sent, the last of several
abbrev pub told_serial : Answer → Option ℕ
told_serial (Answer.Called call serial) = Some serial
told_serial (Answer.Sent serial) = Some serial
told_serial (Answer.Opening number serial) = Some serial
told_serial (Answer.Gone last) = last
told_serial answer = None
