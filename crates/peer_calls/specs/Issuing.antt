-- What putting messages gives: all of them are put in the outbox, in order, or none (D-Bus Specification, "Message Format",
-- "Message Protocol").
use Rattle.std.specs.{Prelude.{ℕ, zero, suc, ◌+◌, Bool, false, ◌&&◌, ◌||◌, if◌then◌else◌, List, [], ◌∷◌, length, map, ok_or, option_map, option_and_then, unwrap_or, Option, Some, None, Result, Ok, Err}, List.list_any, Option.option_or}
use Rattle.wire_message.specs.{Outgoing.{OutgoingMessageView, message_of, expects, is_deep, is_long}}
use Rattle.peer_calls.specs.{Names.{serial_after, MessageView, Error, Issued, Writer, greatest_serial, VariantError, IoKind}, History.{CallsEvent, Purpose, Put, OfLane, RemoveMatch, CallsPast, after}, Calls.pending}

-- ---- serials

-- the first of `n` serials, from the k-th after the last one drawn on, that isn't taken
unfoldable pub first_free : (ℕ → Bool) → ℕ → ℕ → ℕ → Option ℕ
first_free taken last k zero = None
first_free taken last k (suc n) = if taken (serial_after last k) then first_free taken last (k + 1) n else Some (serial_after last k)

-- the serial that is drawn next: the first after the last one drawn, in cyclic order, that isn't pending
unfoldable pub next_serial : CallsPast → Option ℕ
next_serial h = first_free (pending h) h.outbox.last 1 greatest_serial

-- ---- one message

-- a message to be put, and why
pub record Posting : Type 0 where
  pub outgoing : OutgoingMessageView
  pub purpose : Purpose

-- One that makes no stream: a lane's, or the peer's own. Its call waits where a reply is expected.
abbrev pub posted : Bool → OutgoingMessageView → Posting
posted internal outgoing = record { outgoing = outgoing; purpose = if internal && expects outgoing then RemoveMatch else OfLane (expects outgoing) }

-- it is put with this serial
abbrev pub put_of : Posting → ℕ → CallsEvent
put_of d serial = Put (message_of d.outgoing serial) d.purpose

-- what is answered of a message that is put: its place in the outbox, its serial, and its call's number, if it expects a reply
abbrev pub issued_of : CallsPast → Posting → ℕ → Issued
issued_of h d serial = record { index = length h.outbox.put; serial = serial; call = if expects d.outgoing then Some (length h.calls) else None }

-- ---- several messages

-- The serials that messages draw, one after another: each is the next once those before it were put. None where some message finds each
-- pending.
abbrev pub drawn : CallsPast → List Posting → Option (List ℕ)
drawn h [] = Some []
drawn h (d ∷ ds) = option_and_then (λ serial. option_map (λ serials. serial ∷ serials) (drawn (after (put_of d serial) h) ds)) (next_serial h)

-- some message, with these serials, passes a limit
abbrev pub some_long : List OutgoingMessageView → List ℕ → Bool
some_long (p ∷ ps) (serial ∷ serials) = is_long p serial || some_long ps serials
some_long ps serials = false

-- the messages without their purposes
abbrev pub outgoings : List Posting → List OutgoingMessageView
outgoings ds = map (λ d. d.outgoing) ds

-- Why messages are refused, the first that holds, each asked of all of them before the next is: a value opens too many containers; a
-- message finds each serial pending; an array or a message passes its limit.
abbrev pub refusal : CallsPast → List Posting → Option Error
refusal h ds =
    if list_any (λ d. is_deep d.outgoing) ds then Some (Error.Variant VariantError.Depth)
    else unwrap_or (option_map (λ serials. if some_long (outgoings ds) serials then Some Error.ExcessData else None) (drawn h ds)) (Some Error.SerialsSpent)

-- after a failed write, or once the peer was closed, nothing is put
abbrev pub barred : Writer → Option Error
barred Writer.Fine = None
barred Writer.Failed = Some (Error.InputOutput IoKind.WriteFault)
barred Writer.Closed = Some (Error.InputOutput IoKind.Closed)

-- What putting messages gives: the serial of each, or why none is put. Where there are none, nothing refuses it.
unfoldable pub issued : CallsPast → List Posting → Result (List ℕ) Error
issued h [] = Ok []
issued h (d ∷ ds) =
    unwrap_or (option_map Err (option_or (refusal h (d ∷ ds)) (barred h.outbox.writer))) (ok_or (drawn h (d ∷ ds)) Error.SerialsSpent)

-- the messages with these serials
abbrev pub messages_of : List OutgoingMessageView → List ℕ → List MessageView
messages_of (p ∷ ps) (serial ∷ serials) = message_of p serial ∷ messages_of ps serials
messages_of ps serials = []

-- the past once they were put with these serials, in order
abbrev pub put_each : List Posting → List ℕ → CallsPast → CallsPast
put_each (d ∷ ds) (serial ∷ serials) h = put_each ds serials (after (put_of d serial) h)
put_each ds serials h = h

-- what is answered of each
abbrev pub issued_each : CallsPast → List Posting → List ℕ → List Issued
issued_each h (d ∷ ds) (serial ∷ serials) = issued_of h d serial ∷ issued_each (after (put_of d serial) h) ds serials
issued_each h ds serials = []
