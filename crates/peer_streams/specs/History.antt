-- What happens to the streams of a peer, event by event; and their past, which never loses anything (D-Bus Specification,
-- "Match Rules").
use Rattle.std.specs.{Prelude.{ℕ, ◌==◌, ◌+◌, max, Bool, true, false, ◌&&◌, ◌||◌, not, is_none, is_some, if◌then◌else◌, List, [], ◌∷◌, ◌++◌, length, map, drop, slice_get, Option, Some, None, option_and_then, option_map, unwrap_or}, List.list_any}
use Rattle.wire_message.specs.Plain.{edit, first_of}
use Rattle.peer_streams.specs.{Names.{MessageView, Error, Rule, replies_to, is_return}, Rules.{is_same, default_capacity}}

-- ---- events

-- how a stream is made
pub data StreamOrigin : Type 0 where
  Plain : StreamOrigin  -- without a rule, so that it takes each message
  Ruled : (rule : Rule) (asked : Option ℕ) → StreamOrigin  -- with a rule; the capacity that was asked for, if one was
  Cloned : (stream : ℕ) → StreamOrigin  -- as the stream with this number is now

-- what a stream did
pub data StreamEvent : Type 0 where
  Gave : StreamEvent  -- it gave an item
  Told : StreamEvent  -- it gave the closing error
  Gone : StreamEvent  -- it was closed
  Asked : (limit : ℕ) → StreamEvent  -- it asked for this capacity
  Opened : StreamEvent  -- who asked for it was told that it is open

-- the AddMatch that was put for a stream: its place in the outbox, its serial, and how many messages were read before
pub record Request : Type 0 where
  pub index : ℕ
  pub serial : ℕ
  pub from : ℕ

-- one thing that happened to the streams
pub data StreamsEvent : Type 0 where
  Received : (m : MessageView) → StreamsEvent  -- a read took the message
  PeerClosed : (error : Error) → StreamsEvent  -- a read ended the peer's messages, or it was closed
  Asks : (add : Request) (rule : Rule) (asked : Option ℕ) → StreamsEvent  -- AddMatch was put: a stream of the rule is made that waits for its return; the capacity that was asked for, if one was
  Loses : (index : ℕ) → StreamsEvent  -- the write of the message at this place of the outbox failed
  Made : (making : StreamOrigin) → StreamsEvent  -- a stream was made
  Did : (stream : ℕ) (deed : StreamEvent) → StreamsEvent  -- the stream with this number did it
  Main : (limit : ℕ) → StreamsEvent  -- the main capacity was set

-- ---- a stream

-- where a stream begins: behind so many messages; or behind the return to its AddMatch
pub data Start : Type 0 where
  Behind : (count : ℕ) → Start
  OnReturn : (add : Request) → Start

-- A stream that was made: its rule, where it has one; where it begins; how many of those messages that are its own it passes
-- over, how many items it gave, whether it gave the closing error, whether it was closed, and whether who asked for it was told
-- that it is open.
pub record Stream : Type 0 where
  pub rule : Option Rule
  pub start : Start
  pub skip : ℕ
  pub taken : ℕ
  pub closing_delivered : Bool
  pub gone : Bool
  pub open_reported : Bool

-- how far a stream is opened: it waits for the return to its AddMatch; it was denied by an error to it; or these messages were
-- read since it began
pub data Phase : Type 0 where
  Asking : (add : Request) → Phase
  Denied : (m : MessageView) → Phase
  Since : (ms : List MessageView) → Phase

-- by the messages that were read since the AddMatch was put: its reply is the first of them that bears its serial
abbrev pub since_reply : Request → List MessageView → Phase
since_reply add [] = Asking add
since_reply add (m ∷ ms) = if replies_to add.serial m then (if is_return m.kind then Since ms else Denied m) else since_reply add ms

-- how far a stream is opened that begins there, by the messages that were read
abbrev pub phase_by : Start → List MessageView → Phase
phase_by (Behind count) ms = Since (drop count ms)
phase_by (OnReturn add) ms = since_reply add (drop add.from ms)

-- How many messages a stream may hold before reads wait; none is ever dropped: one without a rule, and each open one of a rule.
pub record Capacities : Type 0 where
  pub main : ℕ
  pub rules : Rule → ℕ

-- Their past: the messages that were read, oldest first; the first closing error; the streams that were made, oldest first; and
-- their capacities.
pub record StreamsPast : Type 0 where
  pub read : List MessageView
  pub closing : Option Error
  pub streams : List Stream
  pub capacities : Capacities

-- ---- streams

-- how far the stream is opened, by the messages that were read
unfoldable pub phase : List MessageView → Stream → Phase
phase ms s = phase_by s.start ms

-- its AddMatch was answered by an error
abbrev pub is_denied : Phase → Bool
is_denied (Denied m) = true
is_denied other = false

-- it waits for the return to the AddMatch that has this place in the outbox
abbrev pub asks_by : ℕ → Phase → Bool
asks_by index (Asking add) = add.index == index
asks_by index other = false

-- a stream that begins now
abbrev pub fresh : StreamsPast → Option Rule → Bool → Stream
fresh p rule closing_delivered = record { rule = rule; start = Behind (length p.read); skip = 0; taken = 0; closing_delivered = closing_delivered; gone = false; open_reported = true }

-- a stream that waits for the return to this AddMatch
abbrev pub asking_stream : Request → Rule → Stream
asking_stream add rule = record { rule = Some rule; start = OnReturn add; skip = 0; taken = 0; closing_delivered = false; gone = false; open_reported = false }

-- A stream without a rule, made at once. Each that is made at once after the peer was closed, with a rule or without one, has nothing to
-- tell any more.
abbrev pub plain_stream : StreamsPast → Stream
plain_stream p = fresh p None (is_some p.closing)

-- A clone begins where its original is: it has its rule, passes over what that gave, and has given nothing itself.
abbrev pub clone_of : StreamsPast → Option Stream → Stream
clone_of p o = unwrap_or (option_map (λ (s : Stream). record s { skip = s.skip + s.taken; taken = 0; gone = false }) o) (plain_stream p)

-- a new stream, by those that were made before it
abbrev pub new_stream : StreamsPast → List Stream → StreamOrigin → Stream
new_stream p ss Plain = plain_stream p
new_stream p ss (Ruled rule asked) = fresh p (Some rule) (is_some p.closing)
new_stream p ss (Cloned t) = clone_of p (slice_get ss t)

-- a stream once it did something
abbrev pub done_by : StreamEvent → Stream → Stream
done_by Gave s = record s { taken = s.taken + 1 }
done_by Told s = record s { closing_delivered = true }
done_by Gone s = record s { gone = true }
done_by (Asked limit) s = s
done_by Opened s = record s { open_reported = true }

-- a stream that waits for the return to its AddMatch is gone where that one's write fails
abbrev pub fail_stream : List MessageView → ℕ → Stream → Stream
fail_stream ms index s = record s { gone = s.gone || asks_by index (phase ms s) }

-- the streams once the event happened: one more, one that did something, or those that are gone with their AddMatch's failed write
abbrev pub streams_after : StreamsPast → StreamsEvent → List Stream → List Stream
streams_after p (Made making) ss = ss ++ new_stream p ss making ∷ []
streams_after p (Asks add rule asked) ss = ss ++ asking_stream add rule ∷ []
streams_after p (Did t deed) ss = edit t (done_by deed) ss
streams_after p (Loses index) ss = map (fail_stream p.read index) ss
streams_after p e ss = ss

-- ---- capacities

-- the stream's rule, where there is such a stream and it has one
abbrev pub rule_of : Option Stream → Option Rule
rule_of o = option_and_then (λ (s : Stream). s.rule) o

-- there is a rule, and it is this one
abbrev pub is_of : Rule → Option Rule → Bool
is_of rule o = unwrap_or (option_map (is_same rule) o) false

-- the stream is open, or is being opened, so that it wasn't closed, nor its AddMatch denied; and it has this rule
abbrev pub subscribes : List MessageView → Rule → Stream → Bool
subscribes ms rule s = not s.gone && not (is_denied (phase ms s)) && is_of rule s.rule

-- Some stream that is open, or is being opened, has this rule.
unfoldable pub is_subscribed : List MessageView → List Stream → Rule → Bool
is_subscribed ms ss rule = list_any (subscribes ms rule) ss

-- the larger of a capacity and the one that is asked for, if one is
abbrev pub raised : Option ℕ → ℕ → ℕ
raised o limit = unwrap_or (option_map (max limit) o) limit

-- A stream of the rule `r` is made, and asks for a capacity or for none: the rule's first stream gives it the capacity that was asked for,
-- or the default one; a later one that asks for more raises it.
abbrev pub asked_limit : StreamsPast → Rule → Rule → Option ℕ → ℕ → ℕ
asked_limit p rule r asked limit = if is_same rule r then (if is_subscribed p.read p.streams rule then raised asked limit else unwrap_or asked (default_capacity rule)) else limit

-- A rule's capacity is forgotten with its last stream.
abbrev pub capacities_after : StreamsPast → StreamsEvent → Capacities → Capacities
capacities_after p (Main limit) c = record c { main = limit }
capacities_after p (Made (Ruled r asked)) c = record c { rules = λ rule. asked_limit p rule r asked (c.rules rule) }
capacities_after p (Asks add r asked) c = record c { rules = λ rule. asked_limit p rule r asked (c.rules rule) }
capacities_after p (Did t (Asked n)) c = record {
  main = if is_some (slice_get p.streams t) && is_none (rule_of (slice_get p.streams t)) then max c.main n else c.main;
  rules = λ rule. if is_of rule (rule_of (slice_get p.streams t)) then max (c.rules rule) n else c.rules rule;
}
capacities_after p e c = c

-- ---- their past

-- what was read
abbrev pub read_after : StreamsEvent → List MessageView → List MessageView
read_after (Received m) ms = ms ++ m ∷ []
read_after e ms = ms

-- the first closing error stays
abbrev pub closing_after : StreamsEvent → Option Error → Option Error
closing_after (PeerClosed error) closing = first_of closing error
closing_after e closing = closing

-- their past once the event happened: each part by itself
abbrev pub after : StreamsEvent → StreamsPast → StreamsPast
after e p = record {
  read = read_after e p.read;
  closing = closing_after e p.closing;
  streams = streams_after p e p.streams;
  capacities = capacities_after p e p.capacities;
}

-- their past once all these events happened after it, in order
abbrev pub after_all : List StreamsEvent → StreamsPast → StreamsPast
after_all [] p = p
after_all (e ∷ es) p = after_all es (after e p)

-- of a peer that nothing happened to
abbrev pub no_past : StreamsPast
no_past = record { read = []; closing = None; streams = []; capacities = record { main = 64; rules = default_capacity } }
