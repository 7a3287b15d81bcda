-- What happens to a peer, event by event; and its past, which joins that of its calls and that of its streams: what was read and what
-- closed the peer are one for both.
use Rattle.std.specs.Prelude.{ℕ, ◌+◌, Bool, true, false, List, [], ◌∷◌, length, Option, Some, None}
use Rattle.wire_message.specs.Plain.{first_of}
use Rattle.peer_calls.specs.History as calls
use Rattle.peer_calls.specs.History.{Purpose, AddMatch, Call, Outbox, CallsEvent, CallsPast, call_by}
use Rattle.peer_streams.specs.History as streams
use Rattle.peer_streams.specs.History.{StreamOrigin, StreamEvent, Stream, Capacities, Request, StreamsEvent, StreamsPast}
use Rattle.peer_core.specs.Names.{MessageView, Error}

-- one thing that happened to a peer
pub data Event : Type 0 where
  Received : (m : MessageView) → Event  -- a read took the message
  Passed : (bytes : List ℕ) → Event  -- a read took these bytes, a front of a type that isn't known, and ignored it
  PeerClosed : (error : Error) → Event  -- a read ended the peer's messages, or it was closed
  Put : (m : MessageView) (purpose : Purpose) → Event  -- a message was put in the outbox, and why
  Wrote : Event  -- the first message that isn't done was written
  WriteFailed : Event  -- its write failed
  CallFinished : (call : ℕ) → Event  -- the call's answer was given, or it was dropped
  Made : (making : StreamOrigin) → Event  -- a stream was made
  Did : (stream : ℕ) (deed : StreamEvent) → Event  -- the stream with this number did it
  Main : (limit : ℕ) → Event  -- the main capacity was set
  OnBus : Event  -- the peer stands on a message bus
  Named : (name : List ℕ) → Event  -- the peer was given its unique name

-- The past: whether the peer stands on a message bus, which sends it the signals that it asks for; its unique name, the first that it
-- was given; the messages that were read, oldest first; how many bytes the reads took, those of messages and of ignored fronts; the first
-- closing error; what was put; the calls that were issued and the streams that were made, oldest first; and their capacities.
pub record Past : Type 0 where
  pub bus : Bool
  pub name : Option (List ℕ)
  pub read : List MessageView
  pub taken : ℕ
  pub closing : Option Error
  pub outbox : Outbox
  pub calls : List Call
  pub streams : List Stream
  pub capacities : Capacities

-- the past of the calls
abbrev pub calls_of : Past → CallsPast
calls_of p = record { read = p.read; closing = p.closing; outbox = p.outbox; calls = p.calls }

-- the past of the streams
abbrev pub streams_of : Past → StreamsPast
streams_of p = record { read = p.read; closing = p.closing; streams = p.streams; capacities = p.capacities }

-- what the event is to the calls and the outbox, if anything
abbrev pub to_calls : Event → Option CallsEvent
to_calls (Received m) = Some (calls.Received m)
to_calls (PeerClosed error) = Some (calls.PeerClosed error)
to_calls (Put m purpose) = Some (calls.Put m purpose)
to_calls Wrote = Some calls.Wrote
to_calls WriteFailed = Some calls.WriteFailed
to_calls (CallFinished k) = Some (calls.CallFinished k)
to_calls e = None

-- the AddMatch that this message is, put now
abbrev pub request_of : Past → MessageView → Request
request_of p m = let c = call_by (calls_of p) m true in record { index = c.index; serial = c.serial; from = c.from }

-- what the event is to the streams, if anything
abbrev pub to_streams : Past → Event → Option StreamsEvent
to_streams p (Received m) = Some (streams.Received m)
to_streams p (PeerClosed error) = Some (streams.PeerClosed error)
to_streams p (Put m (AddMatch rule asked)) = Some (streams.Asks (request_of p m) rule asked)
to_streams p WriteFailed = Some (streams.Loses p.outbox.done)
to_streams p (Made making) = Some (streams.Made making)
to_streams p (Did t deed) = Some (streams.Did t deed)
to_streams p (Main limit) = Some (streams.Main limit)
to_streams p e = None

-- the past of the calls once that happened, if anything did
abbrev pub calls_after : Option CallsEvent → CallsPast → CallsPast
calls_after None p = p
calls_after (Some e) p = calls.after e p

-- the past of the streams once that happened, if anything did
abbrev pub streams_after : Option StreamsEvent → StreamsPast → StreamsPast
streams_after None p = p
streams_after (Some e) p = streams.after e p

-- it stands on a bus from then on
abbrev pub bus_after : Event → Bool → Bool
bus_after OnBus bus = true
bus_after e bus = bus

-- the first name stays
abbrev pub name_after : Event → Option (List ℕ) → Option (List ℕ)
name_after (Named name) given = first_of given name
name_after e given = given

-- A read takes the bytes of a message, or those of a front that it ignores.
abbrev pub taken_after : Event → ℕ → ℕ
taken_after (Received m) taken = taken + length m.bytes
taken_after (Passed bytes) taken = taken + length bytes
taken_after e taken = taken

-- the past once the event happened: each part by itself
abbrev pub after : Event → Past → Past
after e p =
    let c = calls_after (to_calls e) (calls_of p) in
    let s = streams_after (to_streams p e) (streams_of p) in
    record {
      bus = bus_after e p.bus;
      name = name_after e p.name;
      read = c.read;
      taken = taken_after e p.taken;
      closing = c.closing;
      outbox = c.outbox;
      calls = c.calls;
      streams = s.streams;
      capacities = s.capacities;
    }

-- the past once all these events happened after it, in order
abbrev pub after_all : List Event → Past → Past
after_all [] p = p
after_all (e ∷ es) p = after_all es (after e p)

-- of a peer that nothing happened to
abbrev pub no_past : Past
no_past = record {
  bus = false;
  name = None;
  read = [];
  taken = 0;
  closing = None;
  outbox = calls.no_past.outbox;
  calls = [];
  streams = [];
  capacities = streams.no_past.capacities;
}
