-- The streams of a past: the messages that each matches, those that it holds still, and what it gives next.
use Rattle.std.specs.{Prelude.{ℕ, zero, suc, nat_lt, Bool, true, false, not, ◌&&◌, ◌||◌, ◌==◌, ◌+◌, max, if◌then◌else◌, is_none, is_some, List, [], ◌∷◌, length, map, filter, slice_get, option_map, option_and_then, option_to_list, unwrap_or, Option, Some, None, Result, Ok, Err, drop}, List.list_any, List.fold, Option.option_eq}
use Rattle.peer_streams.specs.{Names.{MessageView, Error, Rule, accepts, Polled, OpenState}, History.{Gave, Told, Gone, Asked, Opened, Did, StreamEvent, StreamsEvent, Stream, Phase, Asking, Denied, Since, Capacities, phase, rule_of, subscribes, is_subscribed, StreamsPast, after}, Rules.is_same}

-- the messages that were read since the stream began
abbrev pub since_in : Phase → List MessageView
since_in (Since ms) = ms
since_in other = []

-- the stream has begun
abbrev pub is_since : Phase → Bool
is_since (Since ms) = true
is_since other = false

-- the stream was made at once, or who asked for it was told that it is open; and it wasn't closed
unfoldable pub runs : List MessageView → Stream → Bool
runs ms s = s.open_reported && (not s.gone && is_since (phase ms s))

-- The stream with this number is open.
unfoldable pub is_open : StreamsPast → ℕ → Bool
is_open h k = unwrap_or (option_map (runs h.read) (slice_get h.streams k)) false

-- the messages that the rule accepts; without a rule all
abbrev pub accepted : Option Rule → List MessageView → List MessageView
accepted None ms = ms
accepted (Some rule) ms = filter (accepts rule) ms

-- The messages that are the stream's: all that were read at positions above its start and that its rule accepts, in order.
unfoldable pub matched : List MessageView → Stream → List MessageView
matched ms s = accepted s.rule (since_in (phase ms s))

-- Those of them that it doesn't pass over.
unfoldable pub offered : List MessageView → Stream → List MessageView
offered ms s = drop s.skip (matched ms s)

-- the item at a place, counted from 1 on; none at 0
abbrev pub item_at : List MessageView → ℕ → Option MessageView
item_at ms zero = None
item_at ms (suc n) = slice_get ms n

-- The message that the stream gave last; none where it gave none, or was closed.
unfoldable pub gave_last : List MessageView → Stream → Option MessageView
gave_last ms s = if s.gone then None else item_at (offered ms s) s.taken

-- for each stream, the message that it gave last
abbrev pub all_given : StreamsPast → List (Option MessageView)
all_given h = map (gave_last h.read) h.streams

-- Those that it didn't give yet.
unfoldable pub held : List MessageView → Stream → List MessageView
held ms s = drop s.taken (offered ms s)

-- how many messages a stream of this rule, or without one, may hold
abbrev pub limit_of : Capacities → Option Rule → ℕ
limit_of c o = unwrap_or (option_map c.rules o) c.main

-- the stream is open and holds more than it may
unfoldable pub is_full : Capacities → List MessageView → Stream → Bool
is_full c ms s = not s.gone && nat_lt (limit_of c s.rule) (length (held ms s))

-- how many messages the stream holds, where it wasn't closed and has this rule, or has none where none is asked for; else 0
abbrev pub held_count : List MessageView → Option Rule → Stream → ℕ
held_count ms o s = if not s.gone && option_eq is_same o s.rule then length (held ms s) else 0

-- The most that an open stream of this rule holds, or one without a rule; 0 without one.
unfoldable pub stored : StreamsPast → Option Rule → ℕ
stored h o = fold max 0 (map (held_count h.read o) h.streams)

-- the stream has a rule that is subscribed, and none of these behind it has that rule
abbrev pub is_last : List MessageView → Stream → List Stream → Bool
is_last ms s ss = unwrap_or (option_map (λ rule. subscribes ms rule s && not (is_subscribed ms ss rule)) s.rule) false

-- how many rules are subscribed: each is counted where its last stream stands
abbrev pub rules_among : List MessageView → List Stream → ℕ
rules_among ms [] = 0
rules_among ms (s ∷ ss) = (if is_last ms s ss then 1 else 0) + rules_among ms ss

-- How many rules are subscribed, however many streams share one.
unfoldable pub subscribed_rules : StreamsPast → ℕ
subscribed_rules h = rules_among h.read h.streams

-- The peer is open, and some stream holds more than its capacity: a read takes nothing now.
unfoldable pub busy : StreamsPast → Bool
busy h = is_none h.closing && list_any (is_full h.capacities h.read) h.streams

-- The first item; else nothing yet where the peer is open; else the closing error once; from then on the end.
abbrev pub take_by : List MessageView → Option Error → Bool → Polled MessageView
take_by (m ∷ ms) error closing_delivered = Polled.Now m
take_by [] None closing_delivered = Polled.NotYet
take_by [] (Some error) false = Polled.Closed error
take_by [] (Some error) true = Polled.Ended

-- What taking from the stream with this number gives. A stream that wasn't made, isn't open yet, or was closed, is unknown.
unfoldable pub take_answer : StreamsPast → ℕ → Result (Polled MessageView) Error
take_answer h k = unwrap_or (option_map (λ s. if runs h.read s then Ok (take_by (held h.read s) h.closing s.closing_delivered) else Err Error.UnknownHandle) (slice_get h.streams k)) (Err Error.UnknownHandle)

-- the position of the first of these messages
abbrev pub first_position : List MessageView → Option ℕ
first_position ms = option_map (λ (m : MessageView). m.position) (slice_get ms 0)

-- The first message that the stream with this number holds, which it gives next; none where it holds none, or isn't open.
unfoldable pub next_message : StreamsPast → ℕ → Option MessageView
next_message h k = option_and_then (λ s. if runs h.read s then slice_get (held h.read s) 0 else None) (slice_get h.streams k)

-- The position of the first message that the stream with this number holds; none where it holds none, or isn't open.
unfoldable pub next_position : StreamsPast → ℕ → Option ℕ
next_position h k = option_and_then (λ s. if runs h.read s then first_position (held h.read s) else None) (slice_get h.streams k)

-- nothing comes any more: the stream gave all and the closing error, or is closed
abbrev pub is_over : Result (Polled MessageView) Error → Bool
is_over (Ok Polled.Ended) = true
is_over (Err error) = true
is_over other = false

-- the stream with this number has a rule
abbrev pub has_rule : StreamsPast → ℕ → Bool
has_rule h k = is_some (rule_of (slice_get h.streams k))

-- ---- opening a stream of a rule

-- what asking whether a stream is open gives, by how far it is opened and what closed the peer
abbrev pub opening_by : Phase → Option Error → OpenState
opening_by (Asking add) None = OpenState.NotYet
opening_by (Asking add) (Some error) = OpenState.Over error
opening_by (Denied m) error = OpenState.Refused m
opening_by (Since ms) error = OpenState.Open

-- what asking gives whether this stream is open; where there is none, or it is closed or was told so before, it is unknown
abbrev pub opening_at : List MessageView → Option Error → Option Stream → OpenState
opening_at ms closed o = unwrap_or (option_map (λ (s : Stream). if s.gone || s.open_reported then OpenState.Unknown else opening_by (phase ms s) closed) o) OpenState.Unknown

-- What asking gives whether the stream with this number, which was made with an AddMatch, is open: it is from the read of that
-- one's return on. One that wasn't made so, was told so before, or was closed is unknown.
unfoldable pub opening_answer : StreamsPast → ℕ → OpenState
opening_answer h k = opening_at h.read h.closing (slice_get h.streams k)

-- ---- closing streams, and their capacity

-- both are open, and they are two
abbrev pub are_open : StreamsPast → ℕ → Option ℕ → Bool
are_open h k None = is_open h k
are_open h k (Some j) = is_open h k && is_open h j && not (k == j)

-- What asking for a capacity gives.
unfoldable pub ask_answer : StreamsPast → ℕ → Result (Unit {0}) Error
ask_answer h k = if is_open h k then Ok tt else Err Error.UnknownHandle

-- How many messages the stream with this number may hold.
unfoldable pub limit_answer : StreamsPast → ℕ → Result ℕ Error
limit_answer h k = if is_open h k then Ok (limit_of h.capacities (rule_of (slice_get h.streams k))) else Err Error.UnknownHandle

-- The rule of the stream with this number; none where it has none, or isn't open.
unfoldable pub rule_answer : StreamsPast → ℕ → Option Rule
rule_answer h k = if is_open h k then rule_of (slice_get h.streams k) else None

-- the past once this stream was closed, if there is one
abbrev pub gone_if : Option ℕ → StreamsPast → StreamsPast
gone_if None h = h
gone_if (Some k) h = after (Did k Gone) h

-- ---- what answers do to a stream

-- a take, by its answer
abbrev pub take_deeds : Result (Polled MessageView) Error → List StreamEvent
take_deeds (Ok (Polled.Now m)) = Gave ∷ []
take_deeds (Ok (Polled.Closed error)) = Told ∷ []
take_deeds other = []

-- asking whether it is open: a stream that is open is told so; one that will not be is gone
abbrev pub opening_deeds : OpenState → List StreamEvent
opening_deeds OpenState.Open = Opened ∷ []
opening_deeds (OpenState.Refused m) = Gone ∷ []
opening_deeds (OpenState.Over error) = Gone ∷ []
opening_deeds other = []

-- asking for a capacity, by its answer
abbrev pub ask_deeds : {A E : Type 0} → ℕ → Result A E → List StreamEvent
ask_deeds limit (Ok done) = Asked limit ∷ []
ask_deeds limit (Err error) = []

-- the streams that are closed where these are
abbrev pub closed_places : ℕ → Option ℕ → List ℕ
closed_places k o = k ∷ option_to_list o

-- that stream did these, in order
abbrev pub did_each : ℕ → List StreamEvent → List StreamsEvent
did_each k deeds = map (Did k) deeds

-- what a take is, by its answer
abbrev pub take_events : ℕ → Result (Polled MessageView) Error → List StreamsEvent
take_events k r = did_each k (take_deeds r)

-- what asking whether it is open is, by what it was told
abbrev pub opening_events : ℕ → OpenState → List StreamsEvent
opening_events k state = did_each k (opening_deeds state)
