-- What boxes mean whose states begin with their numbers, and what was called of them: their numbers stay, and behind these they mean the same.
use Rattle.std.proofs.Common.{◌≡◌, inl, inr, ⊎_elim, refl, sym, ◌∙◌, ap, ℕ, zero, suc, List, [], ◌∷◌, Bool, true, false, Option, Some, None, option_map, slice_set, Result, Ok, Err, IfOk, OnErr}
use Rattle.std.proofs.lemmas.Option.{same_Some, none-some}
use Rattle.wire_tree.specs.Datum.{Datum}
use Rattle.wire_message.specs.Front.{MessageView}
use Rattle.wire_message.specs.Outgoing.{OutgoingMessageView}
use Rattle.object_interface.specs.Meaning.{Meaning, Same}
use Rattle.object_interface.specs.declared.answered.Answered.{Answered}
use Rattle.object_interface.specs.declared.answer.DispatchResult2.{DispatchResult2}
use Rattle.std.specs.Bool.{MatchBool}
use Rattle.object_tree.specs.Objects.{Objects, is_same, manager_of}
use Rattle.object_tree.specs.Standard.{manager_name}
use Rattle.object_standard.specs.Method.{method_named}
use Rattle.object_standard.specs.declared.method.StandardMethod.{StandardMethod}
use Rattle.object_standard.specs.declared.method.StandardMethod.TheVariants as methods
use Rattle.object_standard.specs.declared.object_manager.ManagedObject.{ManagedObject}
use Rattle.peer_objects.specs.Announcing.{ManagesAlone, AnnouncesOne, AnnouncesAll, AnnouncesAdded}
use Rattle.peer_objects.specs.Serving.{Slots, IsKeptAt}
use Rattle.peer_objects.specs.Dispatching.{Target, Nothing, Standard, Slot, target, member_in, ComesTo, AtOnce, Changing, Reaches, Called, SetsMut}
use Rattle.peer_objects.specs.Standard.{SetsIn, GetsAt, GetsAllAt, SetsAt, Gets, GetsAll, Sets, StandardAnswers}
use Rattle.peer_objects.specs.Standard as standards
use Rattle.peer_objects.specs.Served.{ServedAt, Serves, DisturbedAt, Disturbs}
use Rattle.peer_objects.proofs.Left.{served_left}
use Rattle.peer_service.specs.Service.{BoxView, number_at, numbered}

-- ---- meanings

-- the number that a state begins with
abbrev first_number : List ℕ → ℕ
first_number [] = 0
first_number (n ∷ s) = n

-- the state behind it
abbrev later_numbers : List ℕ → List ℕ
later_numbers [] = []
later_numbers (n ∷ s) = s

-- Where two are the same of states behind their numbers they are the same, and so are the numbers.
same_behind : (n k : ℕ) (a b : Meaning) → Same (numbered n a) (numbered k b) → Same a b
same_behind n k a b h = record {
  title = h.title;
  gets = λ s p r. h.gets (0 ∷ s) p r;
  gets_all = λ s ps. h.gets_all (0 ∷ s) ps;
  sets = λ s p v r t. (λ x. ((h.sets (0 ∷ s) p v r (0 ∷ t)).0 (refl, x)).1, λ x. ((h.sets (0 ∷ s) p v r (0 ∷ t)).1 (refl, x)).1);
  calls = λ s c n r. h.calls (0 ∷ s) c n r;
  calls_mut = λ s c n r t. (λ x. ((h.calls_mut (0 ∷ s) c n r (0 ∷ t)).0 (refl, x)).1, λ x. ((h.calls_mut (0 ∷ s) c n r (0 ∷ t)).1 (refl, x)).1);
  describes = λ s d. h.describes (0 ∷ s) d;
}

same_number : (n k : ℕ) (a b : Meaning) → Same (numbered n a) (numbered k b) → n ≡ k
same_number n k a b h = ap first_number ((h.gets [] (n ∷ []) None).0 refl)

-- ---- numbers

-- where another box of the same number is put in a slot, the numbers stay
put_number : (slots : Slots BoxView) (j : ℕ) (b later : BoxView) → IsKeptAt slots j b → later.number ≡ b.number → (k : ℕ) → number_at (slice_set slots j (Some later)) k ≡ number_at slots k
put_number [] j b later kept same k = absurd (none-some (Some b) kept)
put_number (o ∷ slots) zero b later kept same zero =
    ap Some same ∙ ap (option_map (λ (x : BoxView). x.number)) (sym (same_Some o (Some b) kept))
put_number (o ∷ slots) zero b later kept same (suc k) = refl
put_number (o ∷ slots) (suc j) b later kept same zero = refl
put_number (o ∷ slots) (suc j) b later kept same (suc k) = put_number slots j b later kept same k

-- ---- what was called

module _ (meanings : ℕ → Meaning) where
  -- what the box means, by its number
  abbrev plain : BoxView → Meaning
  plain b = meanings b.number

  -- the same of its state with the number
  abbrev with_number : BoxView → Meaning
  with_number b = numbered b.number (meanings b.number)

  -- its state, and the same with the number
  abbrev state : BoxView → List ℕ
  state b = b.state

  abbrev state_with : BoxView → List ℕ
  state_with b = b.number ∷ b.state

  -- the box that came to an answer keeps its number, and came to it without it
  comes : (b later : BoxView) (m : MessageView) (member : List ℕ) (answer : DispatchResult2) → ComesTo (with_number b) (state_with b) m member answer (state_with later)
      → (later.number ≡ b.number) × ComesTo (plain b) b.state m member answer later.state
  comes b later m member answer (AtOnce called settled same) = (ap first_number same, AtOnce called settled (ap later_numbers same))
  comes b later m member answer (Changing asked changed) = (changed.0, Changing asked changed.1)

  abbrev reached : (slot : ℕ) (old new : Slots BoxView) → Reaches with_number state_with slot old new → Reaches plain state slot old new
  reached slot old new r = record { before = r.before; after = r.after; kept = r.kept; others = r.others; same = same_behind r.after.number r.before.number (plain r.after) (plain r.before) r.same }

  called : (slot : ℕ) (m : MessageView) (member : List ℕ) (old new : Slots BoxView) (answer : DispatchResult2)
      → Called with_number state_with slot m member old new answer → Called plain state slot m member old new answer
  called slot m member old new answer c = record {
    reached = reached slot old new c.reached;
    comes = (comes c.reached.before c.reached.after m member answer c.comes).1;
    law = c.law;
  }

  -- a property was set
  was_set : (slot : ℕ) (property : List ℕ) (value : Datum) (old new : Slots BoxView) (answer : DispatchResult2)
      → SetsMut with_number state_with slot property value old new answer → SetsMut plain state slot property value old new answer
  was_set slot property value old new answer c = record { reached = reached slot old new c.reached; told = c.told.1; law = c.law }

  sets_at : (t : Target) (property : List ℕ) (value : Datum) (old new : Slots BoxView) (answer : DispatchResult2)
      → SetsAt with_number state_with t property value old new answer → SetsAt plain state t property value old new answer
  sets_at (Nothing error) property value old new answer h = h
  sets_at (Standard interface) property value old new answer h = h
  sets_at (Slot slot) property value old new answer (said, c, is) = (said, was_set slot property value old new said c, is)

  sets : (objects : Objects) (m : MessageView) (old new : Slots BoxView) (answer : DispatchResult2) → Sets with_number state_with objects m old new answer → Sets plain state objects m old new answer
  sets objects m old new answer (standards.Taken interface property value named at) = standards.Taken interface property value named (sets_at _ property value old new answer at)
  sets objects m old new answer (standards.Refused none is same) = standards.Refused none is same

  gets_at : (t : Target) (property : List ℕ) (slots : Slots BoxView) (answer : DispatchResult2) → GetsAt with_number state_with t property slots answer → GetsAt plain state t property slots answer
  gets_at (Nothing error) property slots answer h = h
  gets_at (Standard interface) property slots answer h = h
  gets_at (Slot slot) property slots answer h = h

  gets : (objects : Objects) (m : MessageView) (slots : Slots BoxView) (answer : DispatchResult2) → Gets with_number state_with objects m slots answer → Gets plain state objects m slots answer
  gets objects m slots answer (standards.Taken interface property named at) = standards.Taken interface property named (gets_at _ property slots answer at)
  gets objects m slots answer (standards.Refused none is) = standards.Refused none is

  gets_all_at : (t : Target) (slots : Slots BoxView) (answer : DispatchResult2) → GetsAllAt with_number state_with t slots answer → GetsAllAt plain state t slots answer
  gets_all_at (Nothing error) slots answer h = h
  gets_all_at (Standard interface) slots answer h = h
  gets_all_at (Slot slot) slots answer h = h

  gets_all : (objects : Objects) (m : MessageView) (slots : Slots BoxView) (answer : DispatchResult2) → GetsAll with_number state_with objects m slots answer → GetsAll plain state objects m slots answer
  gets_all objects m slots answer (standards.Taken interface named at) = standards.Taken interface named (gets_all_at _ slots answer at)
  gets_all objects m slots answer (standards.Refused none is) = standards.Refused none is

  standard : (machine : Option (List ℕ)) (objects : Objects) (method : Option StandardMethod) (m : MessageView) (old new : Slots BoxView) (answer : DispatchResult2)
      → StandardAnswers with_number state_with machine objects method m old new answer → StandardAnswers plain state machine objects method m old new answer
  standard machine objects None m old new answer h = h
  standard machine objects (Some (methods.Peer method)) m old new answer h = h
  standard machine objects (Some methods.Introspect) m old new answer h = h
  standard machine objects (Some methods.Get) m old new answer h = (gets objects m old answer h.0, h.1)
  standard machine objects (Some methods.Set) m old new answer h = sets objects m old new answer h
  standard machine objects (Some methods.GetAll) m old new answer h = (gets_all objects m old answer h.0, h.1)
  standard machine objects (Some methods.GetManagedObjects) m old new answer h = h

  served_at : (machine : Option (List ℕ)) (objects : Objects) (t : Target) (m : MessageView) (old new : Slots BoxView) (list : List OutgoingMessageView) (notifier : Option ℕ)
      → ServedAt with_number state_with machine objects t m old new list notifier → ServedAt plain state machine objects t m old new list notifier
  served_at machine objects (Nothing error) m old new list notifier h = h
  served_at machine objects (Standard interface) m old new list notifier h =
      (h.0, standard machine objects (method_named interface (member_in m)) m old new h.0 h.1, h.2, h.3)
  served_at machine objects (Slot slot) m old new list notifier h = (h.0, called slot m (member_in m) old new h.0 h.1, h.2, h.3)

  disturbed_at : (objects : Objects) (t : Target) (m : MessageView) (old new : Slots BoxView) → DisturbedAt with_number state_with objects t m old new → DisturbedAt plain state objects t m old new
  disturbed_at objects (Nothing error) m old new h = h
  disturbed_at objects (Standard interface) m old new h =
      ⊎_elim (λ (e : new ≡ old). inl e) (λ (r : (slot : ℕ) × SetsIn objects interface m slot × Reaches with_number state_with slot old new). inr (r.0, r.1, reached r.0 old new r.2)) h
  disturbed_at objects (Slot slot) m old new h = ⊎_elim (λ (e : new ≡ old). inl e) (λ (r : Reaches with_number state_with slot old new). inr (reached slot old new r)) h

  -- ---- numbers stay

  same_numbers : (old new : Slots BoxView) → new ≡ old → (k : ℕ) → number_at new k ≡ number_at old k
  same_numbers old new same k = ap (λ (l : Slots BoxView). number_at l k) same

  reached_numbers : (slot : ℕ) (old new : Slots BoxView) → Reaches with_number state_with slot old new → (k : ℕ) → number_at new k ≡ number_at old k
  reached_numbers slot old new r k =
      let same = same_number r.after.number r.before.number (plain r.after) (plain r.before) r.same in
      ap (λ (l : Slots BoxView). number_at l k) r.others ∙ put_number old slot r.before r.after r.kept same k

  numbers_at : (objects : Objects) (t : Target) (m : MessageView) (old new : Slots BoxView) → DisturbedAt with_number state_with objects t m old new → (k : ℕ) → number_at new k ≡ number_at old k
  numbers_at objects (Nothing error) m old new h k = same_numbers old new h k
  numbers_at objects (Standard interface) m old new h k =
      ⊎_elim (λ (e : new ≡ old). same_numbers old new e k) (λ (r : (slot : ℕ) × SetsIn objects interface m slot × Reaches with_number state_with slot old new). reached_numbers r.0 old new r.2 k) h
  numbers_at objects (Slot slot) m old new h k = ⊎_elim (λ (e : new ≡ old). same_numbers old new e k) (λ (r : Reaches with_number state_with slot old new). reached_numbers slot old new r k) h

  -- What is answered is what the boxes mean without their numbers.
  pub served : {E : Type 0} (r : Result Answered E) (machine : Option (List ℕ)) (old new : Objects × Slots BoxView) (m : MessageView)
      → IfOk r (λ a. Serves with_number state_with machine old new m a.messages.items a.notifier) → IfOk r (λ a. Serves plain state machine old new m a.messages.items a.notifier)
  served (Ok a) machine old new m h = record { tree = h.tree; served = served_at machine old.0 (target old.0 m) m old.1 new.1 a.messages.items a.notifier h.served }
  served (Err e) machine old new m h = tt

  -- Without memory it is no other.
  pub disturbed : {A E : Type 0} (r : Result A E) (old new : Objects × Slots BoxView) (m : MessageView)
      → OnErr r (Disturbs with_number state_with old new m) → OnErr r (Disturbs plain state old new m)
  disturbed (Ok a) old new m h = tt
  disturbed (Err e) old new m h = record { tree = h.tree; slots = disturbed_at old.0 (target old.0 m) m old.1 new.1 h.slots }

  -- Each box keeps its number, whatever the answer.
  pub numbers : {E : Type 0} (r : Result Answered E) (machine : Option (List ℕ)) (old new : Objects × Slots BoxView) (m : MessageView)
      → IfOk r (λ a. Serves with_number state_with machine old new m a.messages.items a.notifier) → OnErr r (Disturbs with_number state_with old new m) → (k : ℕ) → number_at new.1 k ≡ number_at old.1 k
  numbers (Ok a) machine old new m served disturbed =
      numbers_at old.0 (target old.0 m) m old.1 new.1 (served_left with_number state_with machine old.0 (target old.0 m) m old.1 new.1 a.messages.items a.notifier served.served)
  numbers (Err e) machine old new m served disturbed = numbers_at old.0 (target old.0 m) m old.1 new.1 disturbed.slots

  -- ---- what is announced

  alone : (path : List ℕ) (b : BoxView) (told : ManagedObject) → ManagesAlone with_number state_with path b told → ManagesAlone plain state path b told
  alone path b told a = record { properties = a.properties; got = a.got; sendable = a.sendable; is = a.is }

  announces_one : (manager : Option (List ℕ)) (path : List ℕ) (b : BoxView) (list : List OutgoingMessageView) → AnnouncesOne with_number state_with manager path b list → AnnouncesOne plain state manager path b list
  announces_one None path b list h = h
  announces_one (Some manager) path b list (told, a, is) = (told, alone path b told a, is)

  -- It is what the boxes mean without their numbers.
  pub announces : (objects : Objects) (path : List ℕ) (b : BoxView) (slots : Slots BoxView) (list : List OutgoingMessageView) → AnnouncesAdded with_number state_with objects path b slots list → AnnouncesAdded plain state objects path b slots list
  announces objects path b slots list h = by (is_same (plain b).title manager_name) h
    where
      by : (t : Bool) → MatchBool t (AnnouncesAll with_number state_with objects path slots list) (AnnouncesOne with_number state_with (manager_of objects path) path b list)
          → MatchBool t (AnnouncesAll plain state objects path slots list) (AnnouncesOne plain state (manager_of objects path) path b list)
      by true a = a
      by false a = announces_one (manager_of objects path) path b list a
