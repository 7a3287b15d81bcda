-- What happens to the calls of a peer and to its outbox, event by event; and their past, which never loses anything
-- (D-Bus Specification, "Message Protocol", "Types of messages").
use Rattle.std.specs.Prelude.{ℕ, ◌==◌, ◌+◌, Bool, true, false, ◌||◌, if◌then◌else◌, List, [], ◌∷◌, ◌++◌, length, map, Option, None}
use Rattle.wire_message.specs.Plain.{edit, first_of}
use Rattle.peer_calls.specs.Names.{MessageView, Error, IoKind, Rule, Writer}

-- ---- events

-- why a message is put
pub data Purpose : Type 0 where
  OfLane : (waits : Bool) → Purpose  -- for a lane, whose call waits for the reply or doesn't
  AddMatch : (rule : Rule) (asked : Option ℕ) → Purpose  -- the peer's own AddMatch: a stream of the rule is made that waits for its return; the capacity that was asked for, if one was
  RemoveMatch : Purpose  -- the peer's own RemoveMatch

-- one thing that happened to the calls, or to the outbox
pub data CallsEvent : Type 0 where
  Received : (m : MessageView) → CallsEvent  -- a read took the message
  PeerClosed : (error : Error) → CallsEvent  -- a read ended the peer's messages, or it was closed
  Put : (m : MessageView) (purpose : Purpose) → CallsEvent  -- a message was put in the outbox, and why
  Wrote : CallsEvent  -- the first message that isn't done was written
  WriteFailed : CallsEvent  -- its write failed
  CallFinished : (call : ℕ) → CallsEvent  -- the call's answer was given, or it was dropped

-- ---- a call, the outbox

-- A call that was issued: the place of its message in the outbox, its serial, how many messages were read before it was
-- put, whether its answer was given or it was dropped, whether its write failed, and whether it is the peer's own: an AddMatch
-- or a RemoveMatch, which nobody polls.
pub record Call : Type 0 where
  pub index : ℕ
  pub serial : ℕ
  pub from : ℕ
  pub spent : Bool
  pub failed : Bool
  pub internal : Bool

-- What was put: the messages, by their index; how many of them were written, and how many were written or failed; whether a write
-- failed; what became of the writer; and the last serial that was drawn, 0 before the first.
pub record Outbox : Type 0 where
  pub put : List MessageView
  pub written : ℕ
  pub done : ℕ
  pub failed : Bool
  pub writer : Writer
  pub last : ℕ

-- Their past: the messages that were read, oldest first; the first closing error; what was put; and the calls that were issued,
-- oldest first.
pub record CallsPast : Type 0 where
  pub read : List MessageView
  pub closing : Option Error
  pub outbox : Outbox
  pub calls : List Call

-- ---- what became of the writer

-- the earlier cause stays
abbrev pub worse : Writer → Writer → Writer
worse Writer.Fine cause = cause
worse w cause = w

-- Closing a peer closes its writer; a read that ends its messages doesn't.
abbrev pub shuts : Error → Writer
shuts (Error.InputOutput IoKind.Closed) = Writer.Closed
shuts error = Writer.Fine

-- ---- calls

-- the call of a message that is put now, a lane's or the peer's own
abbrev pub call_by : CallsPast → MessageView → Bool → Call
call_by p m internal = record { index = length p.outbox.put; serial = m.serial; from = length p.read; spent = false; failed = false; internal = internal }

-- its answer was given, or it was dropped
abbrev pub spend : Call → Call
spend c = record c { spent = true }

-- it failed, where its message is the one at this place of the outbox
abbrev pub fail_at : ℕ → Call → Call
fail_at index c = record c { failed = c.failed || (c.index == index) }

-- the calls once the event happened: one more, where the message is a lane's that waits, or the peer's own; one that is over; or those
-- that failed with the message of a failed write
abbrev pub calls_after : CallsPast → CallsEvent → List Call → List Call
calls_after p (Put m (OfLane waits)) cs = if waits then cs ++ call_by p m false ∷ [] else cs
calls_after p (Put m purpose) cs = cs ++ call_by p m true ∷ []
calls_after p (CallFinished k) cs = edit k spend cs
calls_after p WriteFailed cs = map (fail_at p.outbox.done) cs
calls_after p e cs = cs

-- ---- their past

-- what was read
abbrev pub read_after : CallsEvent → List MessageView → List MessageView
read_after (Received m) ms = ms ++ m ∷ []
read_after e ms = ms

-- the first closing error stays
abbrev pub closing_after : CallsEvent → Option Error → Option Error
closing_after (PeerClosed error) closing = first_of closing error
closing_after e closing = closing

-- the outbox: a message stands at its end, the first that wasn't done is written or fails, or the peer is shut
abbrev pub outbox_after : CallsEvent → Outbox → Outbox
outbox_after (Put m purpose) o = record o { put = o.put ++ m ∷ []; last = m.serial }
outbox_after Wrote o = record o { written = o.written + 1; done = o.done + 1 }
outbox_after WriteFailed o = record o { done = o.done + 1; failed = true; writer = worse o.writer Writer.Failed }
outbox_after (PeerClosed error) o = record o { writer = worse o.writer (shuts error) }
outbox_after e o = o

-- their past once the event happened: each part by itself
abbrev pub after : CallsEvent → CallsPast → CallsPast
after e p = record {
  read = read_after e p.read;
  closing = closing_after e p.closing;
  outbox = outbox_after e p.outbox;
  calls = calls_after p e p.calls;
}

-- their past once all these events happened after it, in order
abbrev pub after_all : List CallsEvent → CallsPast → CallsPast
after_all [] p = p
after_all (e ∷ es) p = after_all es (after e p)

-- of a peer that nothing happened to
abbrev pub no_past : CallsPast
no_past = record { read = []; closing = None; outbox = record { put = []; written = 0; done = 0; failed = false; writer = Writer.Fine; last = 0 }; calls = [] }
