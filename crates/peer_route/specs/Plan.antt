-- What each command means, by what the entries before it left: what it is answered and does by itself, and which messages it wants sent;
-- or that it reads, asks whoever keeps the peer's objects, hands these a call, or closes the peer. All else goes by these few kinds.
use Rattle.std.specs.Prelude.{ℕ, ◌==◌, ◌&&◌, not, nat_lt, is_none, Bool, true, false, List, [], ◌∷◌, length, slice_get, Option, Some, None, option_map, unwrap_or, Result, Ok, Err, option_and_then, if◌then◌else◌}
use Rattle.peer_route.specs.{Names.{MessageView, Error, Rule, rule_in_bytes, Words, CallOp, StreamOp, ObjectOp, Live, Answer, IoKind, MessageType}, Answers.{answer_of_poll, answer_of_drop, answer_of_take, answer_of_opening}, Replay.{Replay, handle_index, count}}
use Rattle.peer_words.specs.CallMessage.{PreparedSend, prepared_outgoing, prepared_reply, prepared_error}
use Rattle.rule_match.specs.Rule.{no_parts}
use Rattle.wire_message.specs.{Outgoing.{expects, expects_reply}, Polls.by_position}
use Rattle.peer_core.specs.{History.{Event, Made, Did, Main, Named, Past}, Asked.{match_call_pending, poll_answer, poll_events, drop_answer, drop_events, busy, take_answer, take_events, is_open, are_open, asks_bus, close_waits, leaving, gone_events, opening_answer, opening_events, next_message}, BusCall.{asking_of, tellings_of, first_of, last_of}}
use Rattle.peer_streams.specs.{History.{StreamEvent, StreamOrigin, Plain, Ruled, Cloned}, Streams.gave_last}
use Rattle.peer_calls.specs.Issuing.{Posting, posted}

-- what a command means, one of eight kinds
pub data Plan : Type 0 where
  Says : (answer : Answer) (deeds : List Event) → Plan  -- it is answered so, and does these, in order
  Sends : (deeds : List Event) (ds : List Posting) (sent : List ℕ → Answer) → Plan  -- it does these, whatever becomes of its messages, which are to be sent; once they are, it is answered so, by their serials
  Reads : Plan  -- the next message, or the next ignored front, is taken from the source
  Serves : (said : Option Answer) (deeds : List Event) → Plan  -- it is answered so, or whoever keeps the peer's objects says how, and which messages are to be sent; unless it is refused, it does these, in order
  Dispatches : (server : ℕ) (call : MessageView) → Plan  -- the object server's stream gives the call, and whoever keeps the peer's objects says which messages are to be sent
  Closes : Plan  -- the peer is closed
  Writes : (fails : Bool) → Plan  -- the first message that waits is written, or its write fails
  Never : Plan  -- no history has such an entry

-- it is refused so, and does nothing
abbrev pub refuses : Error → Plan
refuses error = Says (Answer.Refused error) []

-- what is done with the call, or the stream, that a number names
abbrev pub where_named : (ℕ → Plan) → Option ℕ → Plan
where_named done o = unwrap_or (option_map done o) (refuses Error.UnknownHandle)

-- what is done with a stream that is open
abbrev pub where_open : Bool → Plan → Plan
where_open there done = if there then done else refuses Error.UnknownHandle

-- what is done where it need not wait for the reply to an AddMatch or a RemoveMatch
abbrev pub unless_waits : Bool → Plan → Plan
unless_waits waits done = if waits then Says Answer.Busy [] else done

-- ---- a message

-- a message that was sent: its call's number in its lane and its serial; its serial alone where no reply is waited for
abbrev pub sent_answer : Bool → ℕ → ℕ → Answer
sent_answer waits call serial = if waits then Answer.Called call serial else Answer.Sent serial

-- The message is to be sent, or is refused.
abbrev pub sends : Replay → ℕ → PreparedSend → Plan
sends t lane (Err error) = refuses error
sends t lane (Ok outgoing) = Sends [] (posted false outgoing ∷ []) (λ serials. sent_answer (expects outgoing) (count lane t.calls) (first_of serials))

-- ---- a call

-- what is asked of the call with this number among all
abbrev pub on_call : Past → CallOp → ℕ → Plan
on_call h CallOp.Poll k = Says (answer_of_poll (poll_answer h k)) (poll_events k (poll_answer h k))
on_call h (CallOp.Before before) k = Says (answer_of_poll (by_position (poll_answer h k))) (poll_events k (poll_answer h k))
on_call h CallOp.Drop k = Says (answer_of_drop (drop_answer h k)) (drop_events k (drop_answer h k))

-- ---- a stream

-- the lane's next stream is made so
abbrev pub makes : Replay → ℕ → StreamOrigin → Plan
makes t lane making = Says (Answer.Streaming (count lane t.streams)) (Made making ∷ [])

-- The streams are closed; RemoveMatch is to be sent for each rule that has none any more.
abbrev pub leaves : Past → ℕ → Option ℕ → Plan
leaves h k j = Sends (gone_events k j) (tellings_of h (leaving h k j)) (λ serials. Answer.Gone (last_of serials))

-- Streams that are open are closed, where that need not wait; the second is named, or there is none.
abbrev pub ends : Past → ℕ → Option (Option ℕ) → Plan
ends h k None = refuses Error.UnknownHandle
ends h k (Some j) = where_open (are_open h k j) (unless_waits (close_waits h k j) (leaves h k j))

-- what a second number names, where one is given
abbrev pub second_index : Replay → ℕ → Option ℕ → Option (Option ℕ)
second_index t lane None = Some None
second_index t lane (Some number) = option_map Some (handle_index 0 lane number t.streams)

-- the message that the stream with this number gave last
abbrev pub given_last : Past → ℕ → Option MessageView
given_last h k = option_and_then (gave_last h.read) (slice_get h.streams k)

-- what is asked of the stream with this number among all
abbrev pub on_stream : Replay → ℕ → StreamOp → ℕ → Plan
on_stream t lane (StreamOp.Reply body) k = sends t lane (prepared_reply t.past.name (given_last t.past k) body)
on_stream t lane (StreamOp.Error name body) k = sends t lane (prepared_error t.past.name (given_last t.past k) name body)
on_stream t lane StreamOp.Take k = Says (answer_of_take (take_answer t.past k)) (take_events k (take_answer t.past k))
on_stream t lane (StreamOp.TakeBefore before) k = Says (answer_of_take (by_position (take_answer t.past k))) (take_events k (take_answer t.past k))
on_stream t lane StreamOp.Clone k = where_open (is_open t.past k) (makes t lane (Cloned k))
on_stream t lane StreamOp.Opened k = Says (answer_of_opening (opening_answer t.past k)) (opening_events k (opening_answer t.past k))
on_stream t lane (StreamOp.Queue limit) k = where_open (is_open t.past k) (Says Answer.Set (Did k (StreamEvent.Asked limit) ∷ []))
on_stream t lane (StreamOp.Unstream second) k = ends t.past k (second_index t lane second)

-- ---- a stream of a rule

-- The bus has to be asked, or else the stream is open at once.
abbrev pub opens_new : Replay → ℕ → Rule → Option ℕ → Bool → Plan
opens_new t lane rule asked true = Sends [] (asking_of t.past rule asked ∷ []) (λ serials. Answer.Opening (count lane t.streams) (first_of serials))
opens_new t lane rule asked false = makes t lane (Ruled rule asked)

-- A text that is no rule is refused by its fault. A closed peer has no new stream of a rule; and while an AddMatch or a RemoveMatch is on its
-- way nothing is opened.
abbrev pub opens : Replay → ℕ → Result Rule Error → Option ℕ → Option Error → Plan
opens t lane (Err error) asked shut = refuses error
opens t lane (Ok rule) asked (Some error) = refuses (Error.InputOutput IoKind.Closed)
opens t lane (Ok rule) asked None = unless_waits (match_call_pending t.past) (opens_new t lane rule asked (asks_bus t.past rule))

-- ---- a read

-- The first closing error is given again and again. Else the read is busy exactly where a stream is full.
abbrev pub reads_by : Option Error → Bool → Plan
reads_by (Some error) full = Says (Answer.Closed error) []
reads_by None true = Says Answer.Busy []
reads_by None false = Reads

-- ---- objects

-- The rule of the object server's stream: method calls, and where the peer has a unique name, those that are for it (D-Bus Specification,
-- "Match Rules").
abbrev pub server_rule : Option (List ℕ) → Rule
server_rule name = record no_parts { kind = Some MessageType.MethodCall; destination = name }

-- the object server's stream is made, where there is none yet
abbrev pub server_events : Option (List ℕ) → Option ℕ → List Event
server_events name (Some k) = []
server_events name None = Made (Ruled (server_rule name) None) ∷ []

-- the next method call that came for the objects; none where the object server's stream holds none, or isn't made yet
abbrev pub next_call : Past → Option ℕ → Option MessageView
next_call h server = option_and_then (next_message h) server

-- what is said once a call was answered: that it was, or that its sender waits for no reply (D-Bus Specification, "Message Format",
-- `NO_REPLY_EXPECTED`)
abbrev pub call_answer : MessageView → Answer
call_answer m = if expects_reply m.kind m.flags then Answer.Served m.position else Answer.Silent m.position

-- what is said where there is no call: that more may come, or that the peer is closed
abbrev pub no_call : Option Error → Answer
no_call None = Answer.Empty
no_call (Some error) = Answer.Ended

-- The object server's stream gives this call, or none.
abbrev pub gives_call : Past → ℕ → Option MessageView → Plan
gives_call h k (Some m) = Dispatches k m
gives_call h k None = Serves (Some (no_call h.closing)) []

-- The next call is answered, where there is one; the object server's stream is made, where there is none yet.
abbrev pub serves_next : Past → Option ℕ → Plan
serves_next h (Some k) = gives_call h k (next_message h k)
serves_next h None = Serves (Some (no_call h.closing)) (server_events h.name None)

-- what is asked of objects
abbrev pub on_objects : Past → Option ℕ → ObjectOp → Plan
on_objects h server ObjectOp.Serve = serves_next h server
on_objects h server op = Serves None (server_events h.name server)

-- ---- lanes that run at once

-- the lane of writes
abbrev pub writer_lane : ℕ
writer_lane = 4294967295

-- it is the writer's, and of the first message that waits
abbrev pub is_due : Past → ℕ → ℕ → Bool
is_due h lane index = (lane == writer_lane) && ((index == h.outbox.done) && nat_lt index (length h.outbox.put))

-- Writes take the messages in order; after a failed one all fail. The other lines of such scripts stand in a history as the commands that
-- they stand for.
abbrev pub lives : Past → ℕ → Live → Plan
lives h lane (Live.Written index) = if is_due h lane index && not h.outbox.failed then Writes false else Never
lives h lane (Live.Fault index) = if is_due h lane index then Writes true else Never
lives h lane (Live.Unique name) = Says (Answer.Named (is_none h.name)) (if is_none h.name then Named name ∷ [] else [])
lives h lane line = Never

-- ---- every command

-- what the words of a lane's command mean
abbrev pub plan : Replay → ℕ → Words → Plan
plan t lane (Words.Send out) = sends t lane (prepared_outgoing t.past.name t.setting.takes_fds out)
plan t lane Words.Read = reads_by t.past.closing (busy t.past)
plan t lane (Words.OfCall n op) = where_named (on_call t.past op) (handle_index 0 lane n t.calls)
plan t lane Words.Stream = makes t lane Plain
plan t lane (Words.Open max_queued rule) = opens t lane (rule_in_bytes rule) max_queued t.past.closing
plan t lane (Words.OfStream n op) = where_named (on_stream t lane op) (handle_index 0 lane n t.streams)
plan t lane (Words.MainQueue limit) = Says Answer.Set (Main limit ∷ [])
plan t lane (Words.Objects op) = on_objects t.past t.server op
plan t lane Words.Close = Closes
plan t lane (Words.Live line) = lives t.past lane line
