-- What putting messages does to a peer: all of them are put in the outbox, in order, or none.
use Rattle.std.specs.{Prelude.{ℕ, ◌≡◌, false, List, [], ◌∷◌, map, Option, Result, Ok, Err}}
use Rattle.wire_message.specs.Outgoing.{OutgoingMessageView, message_of}
use Rattle.peer_calls.specs.Issuing as calls
use Rattle.peer_calls.specs.Issuing.{Posting, posted}
use Rattle.peer_core.specs.{Names.{MessageView, Error, Issued}, History.{Event, Put, Past, after, calls_of}, Refinement.{RouteView, Refines}}

-- the serial that is drawn next
abbrev pub next_serial : Past → Option ℕ
next_serial h = calls.next_serial (calls_of h)

-- the serials that messages draw, one after another
abbrev pub drawn : Past → List Posting → Option (List ℕ)
drawn h ds = calls.drawn (calls_of h) ds

-- why messages are refused
abbrev pub refusal : Past → List Posting → Option Error
refusal h ds = calls.refusal (calls_of h) ds

-- what putting messages gives: the serial of each, or why none is put
abbrev pub issued : Past → List Posting → Result (List ℕ) Error
issued h ds = calls.issued (calls_of h) ds

-- what is answered of each
abbrev pub issued_each : Past → List Posting → List ℕ → List Issued
issued_each h ds serials = calls.issued_each (calls_of h) ds serials

-- the events of putting these messages, for these purposes
abbrev pub puts : List Posting → List MessageView → List Event
puts (d ∷ ds) (m ∷ ms) = Put m d.purpose ∷ puts ds ms
puts ds ms = []

-- it is put with this serial
abbrev pub put_of : Posting → ℕ → Event
put_of d serial = Put (message_of d.outgoing serial) d.purpose

-- the past once they were put with these serials, in order
abbrev pub put_each : List Posting → List ℕ → Past → Past
put_each (d ∷ ds) (serial ∷ serials) h = put_each ds serials (after (put_of d serial) h)
put_each ds serials h = h

-- What putting messages gives, by the past before it: all are put, in order, and the answer tells their serials; or none, for the reason
-- that is due, or for want of memory. `stays` is what an error leaves, `leaves` what the past leaves once they were put.
abbrev pub IssuesBy : {A : Type 0} → (A → List ℕ → Type 0) → Type 0 → (Past → Type 0) → List Posting → Past → Result A Error → Type 0
IssuesBy tells stays leaves ds h (Ok answer) = (serials : List ℕ) × (issued h ds ≡ Ok serials) × tells answer serials × leaves (put_each ds serials h)
IssuesBy tells stays leaves ds h (Err Error.Memory) = stays
IssuesBy tells stays leaves ds h (Err error) = (issued h ds ≡ Err error) × stays

-- What issuing the messages of a lane's command gives: for each its place, its serial and its call. An error changes nothing.
abbrev pub IssuesAll : {A : Type 0} → (A → List Issued) → RouteView → RouteView → List OutgoingMessageView → Past → Result A Error → Type 0
IssuesAll items old new ps h r = IssuesBy (λ issued serials. items issued ≡ issued_each h (map (posted false) ps) serials) (new ≡ old) (Refines new) (map (posted false) ps) h r
