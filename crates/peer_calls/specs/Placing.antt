-- How the messages of one command are put, step by step, each by the past before it: their serials are drawn and their calls made,
-- they are built and placed; what is refused is taken back (D-Bus Specification, "Message Format").
use Rattle.std.specs.Prelude.{ℕ, ⊤, ◌≡◌, ◌+◌, Bool, true, false, List, ◌++◌, map, Option, Some, None, Result, Ok, Err}
use Rattle.wire_message.specs.Outgoing.{OutgoingMessageView, sent_by}
use Rattle.peer_calls.specs.{Names.{MessageView, Error, Slot, Issued}, History.CallsPast, Issuing.{Posting, posted, outgoings, put_each, some_long, issued_each}, Refinement.{CallsView, RefinesCalls}}

-- the messages of this list, sent by the peer of this name: a lane's, or the peer's own
abbrev pub posts : Bool → Option (List ℕ) → Bool → List OutgoingMessageView → List Posting
posts internal name served ps = map (posted internal) (map (sent_by name served) ps)

-- ---- serials

-- The past leaves these calls, and this serial was drawn last.
abbrev pub IsCounted : CallsView → ℕ → CallsPast → Type 0
IsCounted calls last p = RefinesCalls calls p × (last ≡ p.outbox.last)

-- What drawing gives: what is due, and it leaves the calls and the last serial as putting the messages with it does; or nothing is
-- due, since a message finds each serial pending.
abbrev pub Draws : {A B : Type 0} → (A → B) → Option B → (B → CallsPast) → CallsView → ℕ → Result A Error → Type 0
Draws read due then calls last (Ok x) = (due ≡ Some (read x)) × IsCounted calls last (then (read x))
Draws read due then calls last (Err Error.SerialsSpent) = due ≡ None
Draws read due then calls last (Err Error.Memory) = ⊤
Draws read due then calls last (Err error) = ⊥

-- ---- messages

-- The past leaves this outbox, and for each call the place of its message in it.
abbrev pub IsPlaced : List MessageView → List ℕ → CallsPast → Type 0
IsPlaced outbox places p = (outbox ≡ p.outbox.put) × (places ≡ map (λ c. c.index) p.calls)

-- What placing messages with these serials gives: they are at the end of the outbox, and it is answered where; or one passes a limit.
abbrev pub Places : {A : Type 0} → (A → List Issued) → List Posting → List ℕ → CallsPast → List MessageView → List ℕ → Result A Error → Type 0
Places items ds serials p outbox places (Ok x) =
    (some_long (outgoings ds) serials ≡ false) × (items x ≡ issued_each p ds serials) × IsPlaced outbox places (put_each ds serials p)
Places items ds serials p outbox places (Err Error.ExcessData) = some_long (outgoings ds) serials ≡ true
Places items ds serials p outbox places (Err Error.Memory) = ⊤
Places items ds serials p outbox places (Err error) = ⊥

-- ---- taking back

-- calls were made, and nothing else changed
abbrev pub AreMade : CallsView → CallsView → Type 0
AreMade old new = (more : List Slot) × (new ≡ record { slots = old.slots ++ more; closing = old.closing })

-- a list with more at its end
abbrev pub Grows : {A : Type 0} → List A → List A → Type 0
Grows {A} old new = (more : List A) × (new ≡ old ++ more)
