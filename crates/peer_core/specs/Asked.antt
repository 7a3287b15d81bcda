-- What is asked of a past: of its calls, of its streams, and of both.
use Rattle.std.specs.{Prelude.{ℕ, Bool, true, false, not, ◌&&◌, ◌||◌, is_none, List, ◌++◌, map, filter, slice_get, option_map, option_to_list, unwrap_or, Option, Some, None, Result}}
use Rattle.peer_calls.specs.Calls as calls
use Rattle.peer_calls.specs.Calls.{poll_spends, drop_spends}
use Rattle.peer_streams.specs.Streams as streams
use Rattle.peer_streams.specs.Streams.{take_deeds, opening_deeds, ask_deeds, closed_places}
use Rattle.peer_streams.specs.History.{StreamEvent, Gone, is_subscribed, rule_of}
use Rattle.peer_core.specs.{Names.{MessageView, Error, Rule, Polled, OpenState, MessageType}, History.{Event, CallFinished, Did, Past, after, calls_of, streams_of}}

-- ---- its calls

-- what a poll of the call with this number gives
abbrev pub poll_answer : Past → ℕ → Result (Polled MessageView) Error
poll_answer h k = calls.poll_answer (calls_of h) k

-- what a poll is, by its answer
abbrev pub poll_events : ℕ → Result (Polled MessageView) Error → List Event
poll_events k r = map CallFinished (poll_spends k r)

-- what dropping it gives
abbrev pub drop_answer : Past → ℕ → Result (Unit {0}) Error
drop_answer h k = calls.drop_answer (calls_of h) k

-- what a drop is, by its answer
abbrev pub drop_events : {A E : Type 0} → ℕ → Result A E → List Event
drop_events k r = map CallFinished (drop_spends k r)

-- a call waits for a reply of this serial
abbrev pub pending : Past → ℕ → Bool
pending h serial = calls.pending (calls_of h) serial

-- an AddMatch or a RemoveMatch of the peer is on its way
abbrev pub match_call_pending : Past → Bool
match_call_pending h = calls.match_call_pending (calls_of h)

-- ---- its streams

-- the stream with this number is open
abbrev pub is_open : Past → ℕ → Bool
is_open h k = streams.is_open (streams_of h) k

-- both are open, and they are two
abbrev pub are_open : Past → ℕ → Option ℕ → Bool
are_open h k o = streams.are_open (streams_of h) k o

-- a read takes nothing now
abbrev pub busy : Past → Bool
busy h = streams.busy (streams_of h)

-- how many rules are subscribed
abbrev pub subscribed_rules : Past → ℕ
subscribed_rules h = streams.subscribed_rules (streams_of h)

-- the most messages that an open stream of this rule holds, or one without a rule
abbrev pub stored : Past → Option Rule → ℕ
stored h o = streams.stored (streams_of h) o

-- for each stream, the message that it gave last
abbrev pub all_given : Past → List (Option MessageView)
all_given h = streams.all_given (streams_of h)

-- what taking from the stream with this number gives
abbrev pub take_answer : Past → ℕ → Result (Polled MessageView) Error
take_answer h k = streams.take_answer (streams_of h) k

-- the first message that it holds, which it gives next
abbrev pub next_message : Past → ℕ → Option MessageView
next_message h k = streams.next_message (streams_of h) k

-- the position of the first message that it holds
abbrev pub next_position : Past → ℕ → Option ℕ
next_position h k = streams.next_position (streams_of h) k

-- what asking gives whether it is open
abbrev pub opening_answer : Past → ℕ → OpenState
opening_answer h k = streams.opening_answer (streams_of h) k

-- what asking for a capacity gives
abbrev pub ask_answer : Past → ℕ → Result (Unit {0}) Error
ask_answer h k = streams.ask_answer (streams_of h) k

-- how many messages it may hold
abbrev pub limit_answer : Past → ℕ → Result ℕ Error
limit_answer h k = streams.limit_answer (streams_of h) k

-- its rule
abbrev pub rule_answer : Past → ℕ → Option Rule
rule_answer h k = streams.rule_answer (streams_of h) k

-- it has a rule
abbrev pub has_rule : Past → ℕ → Bool
has_rule h k = streams.has_rule (streams_of h) k

-- that stream did these, in order
abbrev pub did_each : ℕ → List StreamEvent → List Event
did_each k deeds = map (Did k) deeds

-- what a take is, by its answer
abbrev pub take_events : ℕ → Result (Polled MessageView) Error → List Event
take_events k r = did_each k (take_deeds r)

-- what asking whether it is open is, by what it was told
abbrev pub opening_events : ℕ → OpenState → List Event
opening_events k state = did_each k (opening_deeds state)

-- what asking for a capacity is, by its answer
abbrev pub ask_events : {A E : Type 0} → ℕ → ℕ → Result A E → List Event
ask_events k limit r = did_each k (ask_deeds limit r)

-- what closing these streams is
abbrev pub gone_events : ℕ → Option ℕ → List Event
gone_events k o = map (λ j. Did j Gone) (closed_places k o)

-- the past once this stream was closed, if there is one
abbrev pub gone_if : Option ℕ → Past → Past
gone_if None h = h
gone_if (Some k) h = after (Did k Gone) h

-- ---- what the bus is asked

-- The bus sends signals to who asks for them, and nothing else that a rule accepts.
abbrev pub may_be_signal : Option MessageType → Bool
may_be_signal None = true
may_be_signal (Some MessageType.Signal) = true
may_be_signal other = false

-- A stream of this rule that is opened now is the rule's first, and the bus has to be asked for what it accepts.
unfoldable pub asks_bus : Past → Rule → Bool
asks_bus h rule = h.bus && (may_be_signal rule.kind && not (is_subscribed h.read h.streams rule))

-- The rule of the stream with this number, which was closed last, where no other stream has it: the bus has to be told.
abbrev pub leaves : Past → ℕ → List Rule
leaves h k = filter (λ rule. is_none h.closing && asks_bus h rule) (option_to_list (rule_of (slice_get h.streams k)))

-- The rules whose last streams go where the stream with this number is closed, and then the second: the bus has to be told of
-- each (D-Bus Specification, "Message Bus Messages", `org.freedesktop.DBus.RemoveMatch`).
unfoldable pub leaving : Past → ℕ → Option ℕ → List Rule
leaving h k None = leaves (after (Did k Gone) h) k
leaving h k (Some j) = leaves (after (Did k Gone) h) k ++ leaves (after (Did j Gone) (after (Did k Gone) h)) j

-- Closing these streams has to wait: one of them has a rule, and an AddMatch or a RemoveMatch is on its way.
unfoldable pub close_waits : Past → ℕ → Option ℕ → Bool
close_waits h k j = match_call_pending h && (has_rule h k || unwrap_or (option_map (has_rule h) j) false)
