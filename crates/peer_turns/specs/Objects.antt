-- What commands on objects are answered and leave, by the interfaces that were handed in (D-Bus Specification, "Interfaces").
use Rattle.std.specs.Prelude.{ℕ, ⊤, ◌≡◌, ◌==◌, ◌&&◌, not, Bool, true, false, List, [], ◌∷◌, length, Option, None, Some, Result, Ok, Err}
use Rattle.wire_message.specs.Outgoing.{OutgoingMessageView, expects_reply}
use Rattle.object_interface.specs.Meaning.{Meaning, IsFunction}
use Rattle.peer_objects.specs.Notifying.{Notified, awaiting, put_for}
use Rattle.peer_objects.specs.Served.{Serves}
use Rattle.peer_service.specs.Service.{BoxView, ServiceView, meaning_at, first_service, with_machine, on_shelf, placing, after_placing, removing, after_removing, slot_named, number_at, Announces, announces_removing}
use Rattle.peer_core.specs.History.{Event, Did, Past}
use Rattle.peer_streams.specs.History.{Gave}
use Rattle.peer_route.specs.{Replay.Setting, Plan.{Plan, call_answer, plan}, Entries.{Delivers, is_of_objects, is_refused, unless_refused, replay}}
use Rattle.peer_route.specs.Plan as Plans
use Rattle.peer_turns.specs.Names.{MessageView, Error, Words, ObjectOp, Answer, Entry}

-- The interfaces that were handed in: what each means, by its number; and the objects at their start, where none of these stands.
pub record Handed : Type 1 where
  pub meanings : ℕ → Meaning
  pub first : ServiceView

-- those of a list
abbrev pub handed : {B : Type 0} → (B → Meaning) → (B → List ℕ) → List B → Handed
handed meaning state boxes = record { meanings = meaning_at meaning boxes; first = first_service state boxes }

-- what was handed in, on a machine of that id, where it is known
abbrev pub on_machine : Option (List ℕ) → Handed → Handed
on_machine machine boxes = record boxes { first = with_machine machine boxes.first }

-- what is answered of placing an interface
abbrev pub answer_of_placing : Result Bool Error → Answer
answer_of_placing (Ok true) = Answer.Added
answer_of_placing (Ok false) = Answer.Exists
answer_of_placing (Err error) = Answer.Refused error

-- of removing one
abbrev pub answer_of_removing : Result Bool Error → Answer
answer_of_removing (Ok destroyed) = Answer.Removed destroyed
answer_of_removing (Err error) = Answer.Refused error

-- of asking for the slot of one
abbrev pub answer_of_slot : Result ℕ Error → Answer
answer_of_slot (Ok slot) = Answer.Slot slot
answer_of_slot (Err error) = Answer.Refused error

-- the command is refused so, or there was no memory, which is no answer
abbrev pub Refuses : {E : Type 0} → Error → Result Answer E → Type 0
Refuses Error.Memory (Ok answer) = ⊥
Refuses error (Ok answer) = answer ≡ Answer.Refused error
Refuses error (Err e) = error ≡ Error.Memory

-- it is no read and no `close`
abbrev pub IsPerformed : Words → Type 0
IsPerformed Words.Read = ⊥
IsPerformed Words.Close = ⊥
IsPerformed w = ⊤

-- it may be said of objects, with these announcements: with none, where it refuses the command
abbrev pub MayBeSaid : Answer → List OutgoingMessageView → Type 0
MayBeSaid said list = (is_of_objects said ≡ true) × (is_refused said ≡ true → list ≡ [])

-- messages that answer the call were put, among them its reply, which its sender waits for
abbrev pub is_replied : MessageView → List MessageView → Bool
is_replied call put = expects_reply call.kind call.flags && not (length put == 0)

-- the reply of an answer with that number, if it had one, counts as put where it was
abbrev pub noted : Bool → Option ℕ → Notified → Notified
noted true (Some number) notified = put_for number notified
noted put number notified = notified

module _ (meanings : ℕ → Meaning) where
  -- the name of the interface with this number
  abbrev pub title_of : ℕ → List ℕ
  title_of n = (meanings n).title

  -- What is asked of the objects is said so, is announced so, and leaves them so: an interface is placed, or removed, or its slot is told. To ask
  -- for the next call asks nothing of them.
  abbrev pub Asks : ObjectOp → Answer → List OutgoingMessageView → ServiceView → ServiceView → Type 0
  Asks (ObjectOp.At path number) said list old new =
      let placed = placing title_of old.objects path (on_shelf old number) in
      (said ≡ answer_of_placing placed) × (new ≡ after_placing title_of old path number placed) × Announces meanings old path number placed list
  Asks (ObjectOp.Remove path interface) said list old new =
      let gone = removing old.objects path interface in
      (said ≡ answer_of_removing gone) × (new ≡ after_removing old path interface gone) × (list ≡ announces_removing old.objects path interface gone)
  Asks (ObjectOp.Interface path interface) said list old new = (said ≡ answer_of_slot (slot_named old.objects path interface)) × (new ≡ old) × (list ≡ [])
  Asks ObjectOp.Serve said list old new = ⊥

  -- what a command's words ask of the objects is said, announced, and leaves them so; a command on no objects asks nothing
  abbrev pub AsksIn : Words → Answer → List OutgoingMessageView → ServiceView → ServiceView → Type 0
  AsksIn (Words.Objects op) said list old new = Asks op said list old new
  AsksIn w said list old new = ⊥

  -- Something is asked of the objects: what is said is answered once the announcements are put, all of them or none; where they can't be put, the
  -- objects are changed all the same.
  pub record AnswersCommand (h : Past) (done : List Event) (e : Entry) (old new : ServiceView) : Type 0 where
    pub said : Answer
    pub list : List OutgoingMessageView
    pub asks : AsksIn e.words said list old new
    pub delivers : Delivers false h (unless_refused said done) list said e

  -- A call that the object server's stream gave is answered: what it reaches answers by what it means, and is left so; each interface keeps its
  -- number, and what can be placed stays, as does the machine's id. The messages of that answer are put, all of them or none; and the number
  -- that the answer had, if it had one, says from then on whether the reply was put.
  pub record AnswersCall (h : Past) (k : ℕ) (m : MessageView) (e : Entry) (old new : ServiceView) : Type 0 where
    pub list : List OutgoingMessageView
    pub notifier : Option ℕ
    pub served : Serves (λ (b : BoxView). meanings b.number) (λ (b : BoxView). b.state) old.machine (old.objects, old.slots) (new.objects, new.slots) m list notifier
    pub numbers : (j : ℕ) → number_at new.slots j ≡ number_at old.slots j
    pub shelf : new.shelf ≡ old.shelf
    pub machine : new.machine ≡ old.machine
    pub notified : new.notified ≡ noted (is_replied m e.put) notifier (awaiting notifier old.notified)
    pub delivers : Delivers true h (Did k Gave ∷ []) list (call_answer m) e

  -- What an entry is to the objects, by its plan: it asks something of them, hands them a call, or leaves them as they were.
  abbrev pub Turns : Past → Plan → Entry → ServiceView → ServiceView → Type 0
  Turns h (Plans.Serves None done) e old new = AnswersCommand h done e old new
  Turns h (Plans.Dispatches k m) e old new = AnswersCall h k m e old new
  Turns h pl e old new = new ≡ old

-- The objects once these entries were, newest first, of a peer of this setting; each entry is answered by what the entries before it left.
abbrev pub AreServed : Setting → Handed → List Entry → ServiceView → Type 0
AreServed setting boxes [] now = now ≡ boxes.first
AreServed setting boxes (e ∷ es) now =
    (before : ServiceView) × AreServed setting boxes es before × Turns boxes.meanings (replay setting es).past (plan (replay setting es) e.lane e.words) e before now

-- what each interface means settles what it answers
abbrev pub AreFunctions : (ℕ → Meaning) → Type 0
AreFunctions meanings = (n : ℕ) → IsFunction (meanings n)
