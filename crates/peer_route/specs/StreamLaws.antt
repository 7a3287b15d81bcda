-- What the laws of streams, of busy reads and of what was sent say, in words of their own.
use Rattle.std.specs.Prelude.{ℕ, ⊤, ◌≡◌, ◌==◌, ◌<◌, ◌&&◌, ◌||◌, ◌⊎◌, Bool, true, false, List, [], ◌∷◌, ◌++◌, if◌then◌else◌, length, map, drop, take, slice_get, Option, Some, None, option_and_then, option_map, unwrap_or}
use Rattle.peer_route.specs.{Names.{MessageView, Error, Rule, Words, StreamOp, ObjectOp, Answer, Entry}, Replay.{Setting, Replay, handle_index}, Entries.replay}
use Rattle.wire_message.specs.Replying.{replies_to, is_return}
use Rattle.peer_streams.specs.{History.{Stream, rule_of}, Streams.{accepted, held, runs, limit_of}}
use Rattle.peer_core.specs.History.{Past}

-- ---- what streams give

-- the positions of messages
abbrev pub positions : List MessageView → List ℕ
positions ms = map (λ m. m.position) ms

-- it asks for the stream's next item, by position or not
abbrev pub is_take_op : StreamOp → Bool
is_take_op StreamOp.Take = true
is_take_op (StreamOp.TakeBefore before) = true
is_take_op op = false

-- the command takes from the lane's stream with this number
abbrev pub is_take : ℕ → Words → Bool
is_take number (Words.OfStream n op) = (n == number) && is_take_op op
is_take number w = false

-- the position that the answer tells, where it is the stream's
abbrev pub item_by : Bool → Answer → List ℕ
item_by true (Answer.Item position) = position ∷ []
item_by b answer = []

-- the positions of the items that the lane's stream with this number gave, oldest first; the entries are newest first
abbrev pub items_given : ℕ → ℕ → List Entry → List ℕ
items_given lane number [] = []
items_given lane number (e ∷ es) = items_given lane number es ++ item_by ((e.lane == lane) && is_take number e.words) e.answer

-- the lane's stream with this number
abbrev pub stream_of : Replay → ℕ → ℕ → Option Stream
stream_of t lane number = option_and_then (slice_get t.past.streams) (handle_index 0 lane number t.streams)

-- What the lane's stream with this number gave by these entries, and behind that what it doesn't have given after this replay, are the
-- positions of these messages, in order.
pub record Gives (t : Replay) (lane number : ℕ) (newer : List Entry) (all : List MessageView) : Type 0 where
  pub stream : Stream
  pub named : stream_of t lane number ≡ Some stream
  pub items : items_given lane number newer ++ positions (held t.past.read stream) ≡ positions all

-- what was read since these entries
abbrev pub read_since : Setting → List Entry → Past → List MessageView
read_since setting older h = drop (length (replay setting older).past.read) h.read

-- The entry made the lane's stream with this number, of this rule or without one, which had `begun` to offer then. It gives that, and then
-- all that was read since and that the rule accepts.
abbrev pub Yields : Setting → List Entry → Entry → List Entry → ℕ → Option Rule → List MessageView → Type 0
Yields setting newer e older number rule begun =
    let t = replay setting (newer ++ e ∷ older) in Gives t e.lane number newer (begun ++ accepted rule (read_since setting older t.past))

-- The messages behind the return to this serial, which is the first of these that bears it; none where that is an error, or none
-- does.
abbrev pub after_return : ℕ → List MessageView → List MessageView
after_return serial [] = []
after_return serial (m ∷ ms) = if replies_to serial m then (if is_return m.kind then ms else []) else after_return serial ms

-- The entry asked the bus for the lane's stream with this number, by an AddMatch of this serial. It gives all that was read behind the
-- return to that and that the rule accepts.
abbrev pub YieldsAsked : Setting → List Entry → Entry → List Entry → ℕ → ℕ → Rule → Type 0
YieldsAsked setting newer e older number serial rule =
    let t = replay setting (newer ++ e ∷ older) in Gives t e.lane number newer (accepted (Some rule) (after_return serial (read_since setting older t.past)))

-- what it holds
abbrev pub holds : Replay → ℕ → ℕ → List MessageView
holds t lane number = unwrap_or (option_map (held t.past.read) (stream_of t lane number)) []

-- its rule, where it has one
abbrev pub rule_at : Replay → ℕ → ℕ → Option Rule
rule_at t lane number = rule_of (stream_of t lane number)

-- ---- the end of streams

-- where the entry is this lane's take of this number, its answer is that the stream is over, or was closed
abbrev pub IsEnded : ℕ → ℕ → Entry → Type 0
IsEnded lane number e =
    e.lane ≡ lane → is_take number e.words ≡ true → (e.answer ≡ Answer.Ended) ⊎ (e.answer ≡ Answer.Refused Error.UnknownHandle)

-- it names this number as a second stream
abbrev pub is_second : ℕ → StreamOp → Bool
is_second number (StreamOp.Unstream (Some second)) = second == number
is_second number op = false

-- the command asks something of the lane's stream with this number
abbrev pub names_stream : ℕ → Words → Bool
names_stream number (Words.OfStream n op) = (n == number) || is_second number op
names_stream number w = false

-- the command closes streams
abbrev pub is_unstream : Words → Bool
is_unstream (Words.OfStream n (StreamOp.Unstream second)) = true
is_unstream w = false

-- it asks for the next call that came for the objects
abbrev pub is_serve : ObjectOp → Bool
is_serve ObjectOp.Serve = true
is_serve op = false

-- the command takes a call that came for the objects, if there is one
abbrev pub is_serving : Words → Bool
is_serving (Words.Objects op) = is_serve op
is_serving w = false

-- What the command does by itself it does whatever becomes of its messages: it closes streams, or takes a call.
abbrev pub does_beside : Words → Bool
does_beside w = is_unstream w || is_serving w

-- the command closes the lane's stream with this number
abbrev pub closes_stream : ℕ → Words → Bool
closes_stream number w = is_unstream w && names_stream number w

-- the streams that are to be closed aren't open, or have to wait
abbrev pub stays_open : Answer → Bool
stays_open (Answer.Refused Error.UnknownHandle) = true
stays_open Answer.Busy = true
stays_open answer = false

-- the answer says that a stream for which the bus was asked will not be open
abbrev pub says_denied : Answer → Bool
says_denied (Answer.MethodError m) = true
says_denied (Answer.InvalidReply position) = true
says_denied (Answer.Closed error) = true
says_denied answer = false

-- where the entry's command names this lane's stream of this number, it is refused, as one that was never made
abbrev pub IsNoStream : ℕ → ℕ → Entry → Type 0
IsNoStream lane number e = e.lane ≡ lane → names_stream number e.words ≡ true → e.answer ≡ Answer.Refused Error.UnknownHandle

-- the answer says that the stream gave all
abbrev pub IsLast : Answer → Type 0
IsLast (Answer.Closed error) = ⊤
IsLast Answer.Ended = ⊤
IsLast answer = ⊥

-- The lane's number names a stream that holds nothing and is open, and this was the first error that closed the peer.
pub record IsDrained (t : Replay) (lane number : ℕ) (error : Error) : Type 0 where
  pub stream : Stream
  pub named : stream_of t lane number ≡ Some stream
  pub still : runs t.past.read stream ≡ true
  pub nothing : held t.past.read stream ≡ []
  pub first : t.past.closing ≡ Some error

-- the peer is open, and an open stream holds more than it may
pub record HoldsTooMany (h : Past) : Type 0 where
  pub is_open : h.closing ≡ None
  pub k : ℕ
  pub stream : Stream
  pub made : slice_get h.streams k ≡ Some stream
  pub still : stream.gone ≡ false
  pub over : limit_of h.capacities stream.rule < length (held h.read stream)

-- ---- what was sent

-- the messages that these entries, newest first, put; oldest first
abbrev pub all_put : List Entry → List MessageView
all_put [] = []
all_put (e ∷ es) = all_put es ++ e.put

-- those of them that were written within their entries
abbrev pub all_written : List Entry → List MessageView
all_written [] = []
all_written (e ∷ es) = all_written es ++ take e.written e.put

-- Of what was put, by whether a write failed and how many messages were written: those that were sent are just those that were
-- written, the first of what was put. Where no write failed that is all; where one failed it is that of the message behind them.
abbrev pub IsPutOf : Bool → ℕ → List MessageView → List MessageView → Type 0
IsPutOf false count put sent = (count ≡ length put) × (sent ≡ put)
IsPutOf true count put sent = (count < length put) × (sent ≡ take count put)
