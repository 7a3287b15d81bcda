-- What a past leaves of its calls: all that the answers to come depend on.
use Rattle.std.specs.{Prelude.{ℕ, ⊤, ◌≡◌, ◌<◌, ◌≤◌, Bool, true, false, ◌&&◌, ◌==◌, if◌then◌else◌, is_none, is_some, List, [], ◌∷◌, length, map, get_or, Option, Some, None, IsSome}, List.{list_any, AllByRecursion}, Ordering.nat_cmp, BTreeMap.{BTreeMap, get}}
use Rattle.peer_calls.specs.{Names.{MessageView, Error, Slot, Writer, greatest_serial}, History.{Call, CallsPast}, Calls.{reply, is_gone}}

-- what is kept of a call: that it is over, the serial that it waits for, or its reply; nothing of a reply where it is one of the peer's own
abbrev pub slot_by : Bool → ℕ → Option MessageView → Slot
slot_by internal serial None = Slot.Waiting serial internal
slot_by internal serial (Some m) = if internal then Slot.Gone else Slot.Replied m

-- what is kept of a call, by the messages that were read
unfoldable pub slot_of : List MessageView → Call → Slot
slot_of ms c = if is_gone c then Slot.Gone else slot_by c.internal c.serial (reply ms c)

-- the slot waits for this serial
abbrev pub is_waiting : ℕ → Slot → Bool
is_waiting serial (Slot.Waiting n internal) = n == serial
is_waiting serial other = false

-- nothing is kept of the call that a poll could give
abbrev pub is_empty_slot : Slot → Bool
is_empty_slot Slot.Gone = true
is_empty_slot (Slot.Waiting n internal) = internal
is_empty_slot (Slot.Replied m) = false

-- the reply, if it came
abbrev pub reply_in : Slot → Option MessageView
reply_in (Slot.Replied m) = Some m
reply_in other = None

-- one of the peer's own waits
abbrev pub is_internal_slot : Slot → Bool
is_internal_slot (Slot.Waiting n internal) = internal
is_internal_slot other = false

-- what is kept of calls
pub record CallsView : Type 0 where
  pub slots : List Slot
  pub closing : Option Error

-- the serials that are pending, as the core has them
unfoldable pub waiting_serial : CallsView → ℕ → Bool
waiting_serial v serial = is_none v.closing && list_any (is_waiting serial) v.slots

-- The map has for each serial that a slot waits for the place of that slot, and no other serial; each is from 1 to 4,294,967,295.
pub record IsIndex (places : BTreeMap ℕ ℕ) (ss : List Slot) : Type 0 where
  pub there : (serial place : ℕ) → get nat_cmp places serial ≡ Some place → is_waiting serial (get_or ss place Slot.Gone) ≡ true
  pub whole : (serial place : ℕ) → is_waiting serial (get_or ss place Slot.Gone) ≡ true → get nat_cmp places serial ≡ Some place
  pub circle : (serial : ℕ) → IsSome (get nat_cmp places serial) → (1 ≤ serial) × (serial ≤ greatest_serial)

-- These calls are left of those that were issued, by the messages that were read and the first closing error: each with what was
-- found for it. None was put behind more messages than were read.
pub record AreCalls (v : CallsView) (ms : List MessageView) (closed : Option Error) (cs : List Call) : Type 0 where
  pub slots : v.slots ≡ map (slot_of ms) cs
  pub closing : v.closing ≡ closed
  pub early : AllByRecursion (λ c. c.from ≤ length ms) cs

-- The past leaves these calls.
abbrev pub RefinesCalls : CallsView → CallsPast → Type 0
RefinesCalls v h = AreCalls v h.read h.closing h.calls

-- each of these numbers is below those behind it
abbrev pub Rising : List ℕ → Type 0
Rising [] = ⊤
Rising (n ∷ ns) = AllByRecursion (λ m. n < m) ns × Rising ns

-- What holds of each past: the places of its calls in the outbox rise, and are below its end; and a writer that was closed is a
-- closed peer's.
pub record AreSound (put : List MessageView) (writer : Writer) (closed : Option Error) (cs : List Call) : Type 0 where
  pub below : AllByRecursion (λ place. place < length put) (map (λ c. c.index) cs)
  pub rise : Rising (map (λ c. c.index) cs)
  pub shut : writer ≡ Writer.Closed → is_some closed ≡ true
