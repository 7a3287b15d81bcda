-- What a call reaches in a slot is in the tree; what keeps interfaces keeps them where one was called; and nothing that wasn't changed is disturbed.
use Rattle.std.proofs.Common.{◌≡◌, ◌⊎◌, inl, inr, refl, sym, ◌∙◌, ap, subst, ℕ, zero, suc, List, [], ◌∷◌, Bool, true, false, cond, Option, Some, None, is_some, slice_get, slice_set, get_or, ⊎_elim, arith, Result, Ok, Err, IfOk, OnErr}
use Rattle.std.proofs.lemmas.Bool.{false≢true}
use Rattle.std.proofs.lemmas.Option.{same_Some, none-some}
use Rattle.wire_tree.specs.Datum.{Datum}
use Rattle.object_interface.specs.Meaning.{Meaning, Same}
use Rattle.object_interface.specs.Sending.{IsSendable}
use Rattle.object_interface.specs.declared.answer.DispatchResult2.{DispatchResult2}
use Rattle.object_tree.specs.Objects.{Objects, rows_at, slot_at}
use Rattle.wire_message.specs.Front.{MessageView}
use Rattle.object_interface.specs.Errors.{unknown_object}
use Rattle.object_tree.specs.Standard.{standard_named}
use Rattle.object_tree.specs.declared.standard.StandardInterface.{StandardInterface}
use Rattle.peer_objects.specs.Serving.{Slots, IsKeptAt, AreKept}
use Rattle.peer_objects.specs.Dispatching.{Target, Nothing, Standard, Slot, at_object, at_path, reached, ComesTo, Called, CallsMut, SetsMut, Reaches}
use Rattle.peer_objects.specs.Served.{DisturbedAt}
use Rattle.peer_objects.specs.Reaching.{is_kept}
use Rattle.peer_objects.proofs.Kept.{get_other}

-- ---- what is reached

-- the slot that is reached
abbrev pub slot_in : Target → Option ℕ
slot_in (Slot slot) = Some slot
slot_in other = None

at_object_slot : (i : List ℕ) (s : Option StandardInterface) (slot : Option ℕ) (k : ℕ) → slot_in (at_object i s slot) ≡ Some k → slot ≡ Some k
at_object_slot i (Some StandardInterface.ObjectManager) None k h = absurd (none-some k h)
at_object_slot i (Some StandardInterface.ObjectManager) (Some j) k h = absurd (none-some k h)
at_object_slot i (Some StandardInterface.Peer) slot k h = absurd (none-some k h)
at_object_slot i (Some StandardInterface.Introspectable) slot k h = absurd (none-some k h)
at_object_slot i (Some StandardInterface.Properties) slot k h = absurd (none-some k h)
at_object_slot i None None k h = absurd (none-some k h)
at_object_slot i None (Some j) k h = h

there_slot : (b : Bool) (o : Objects) (p i : List ℕ) (s : Option StandardInterface) (k : ℕ) → slot_in (cond b (at_object i s (slot_at o p i)) (Nothing (unknown_object p))) ≡ Some k → slot_at o p i ≡ Some k
there_slot true o p i s k h = at_object_slot i s (slot_at o p i) k h
there_slot false o p i s k h = absurd (none-some k h)

at_path_slot : (o : Objects) (p i : List ℕ) (s : Option StandardInterface) (k : ℕ) → slot_in (at_path o p i s) ≡ Some k → slot_at o p i ≡ Some k
at_path_slot o p i (Some StandardInterface.Peer) k h = absurd (none-some k h)
at_path_slot o p i (Some StandardInterface.Introspectable) k h = there_slot (is_some (rows_at o p)) o p i (Some StandardInterface.Introspectable) k h
at_path_slot o p i (Some StandardInterface.Properties) k h = there_slot (is_some (rows_at o p)) o p i (Some StandardInterface.Properties) k h
at_path_slot o p i (Some StandardInterface.ObjectManager) k h = there_slot (is_some (rows_at o p)) o p i (Some StandardInterface.ObjectManager) k h
at_path_slot o p i None k h = there_slot (is_some (rows_at o p)) o p i None k h

-- a slot that a path and a name reach is theirs
pub slot_reached : (o : Objects) (p i : List ℕ) (k : ℕ) → reached o p i ≡ Slot k → slot_at o p i ≡ Some k
unfolding reached
slot_reached o p i k h = at_path_slot o p i (standard_named i) k (ap slot_in h)

-- ---- what is kept

pub kept_is : {B : Type 0} (slots : Slots B) (k : ℕ) (b : B) → IsKeptAt slots k b → is_kept (slice_get slots k) ≡ true
kept_is slots k b h = ap is_kept h

same_or_other : (i j : ℕ) → (i ≡ j) ⊎ (i ≡ j → ⊥)
same_or_other zero zero = inl refl
same_or_other zero (suc j) = inr (λ e. omega (arith, e))
same_or_other (suc i) zero = inr (λ e. omega (arith, e))
same_or_other (suc i) (suc j) = ⊎_elim (λ (e : i ≡ j). inl (ap suc e)) (λ (ne : i ≡ j → ⊥). inr (λ e. ne (omega (arith, e)))) (same_or_other i j)

pub get_set : {X : Type 0} (xs : List X) (k : ℕ) (x y : X) → slice_get xs k ≡ Some y → slice_get (slice_set xs k x) k ≡ Some x
get_set [] k x y h = absurd (none-some y h)
get_set (z ∷ xs) zero x y h = refl
get_set (z ∷ xs) (suc k) x y h = get_set xs k x y h

module _ {B : Type 0} (title : B → List ℕ) where
  -- where one was called, each interface stays kept in its slot under its name
  pub called_kept : (o : Objects) (slots : Slots B) (k : ℕ) (b later : B) → IsKeptAt slots k b → title later ≡ title b → AreKept title o slots → AreKept title o (slice_set slots k (Some later))
  called_kept o slots k b later here named whole = record {
    sorted = whole.sorted;
    kept = λ q m j h.
        let was = whole.kept q m j h in
        ⊎_elim
        (λ (e : k ≡ j). (
          later,
          subst (λ (i : ℕ). IsKeptAt (slice_set slots k (Some later)) i later) e (get_set slots k (Some later) (Some b) here),
          named ∙ ap title (same_Some b was.0 (same_Some (Some b) (Some was.0) (sym here ∙ ap (slice_get slots) e ∙ was.1))) ∙ was.2,
        ))
        (λ (ne : k ≡ j → ⊥). (was.0, get_other slots k j (Some later) ne ∙ was.1, was.2))
        (same_or_other k j);
    apart = whole.apart;
  }

-- ---- what is disturbed

pub undisturbed : {B : Type 0} (meaning : B → Meaning) (state : B → List ℕ) (o : Objects) (t : Target) (m : MessageView) (slots : Slots B) → DisturbedAt meaning state o t m slots slots
undisturbed meaning state o (Nothing error) m slots = refl
undisturbed meaning state o (Standard standard) m slots = inl refl
undisturbed meaning state o (Slot slot) m slots = inl refl

-- ---- what was called

module _ {B : Type 0} (meaning : B → Meaning) (state : B → List ℕ) where
  -- one interface was reached
  abbrev pub reaches : (slot : ℕ) (old new : Slots B) (b later : B) → IsKeptAt old slot b → new ≡ slice_set old slot (Some later) → Same (meaning later) (meaning b) → Reaches meaning state slot old new
  reaches slot old new b later here set same = record { before = b; after = later; kept = here; others = set; same = same }

  -- it was called, and came to its answer
  pub called : {E : Type 0} (r : Result DispatchResult2 E) (slot : ℕ) (m : MessageView) (member : List ℕ) (old new : Slots B) (b later : B)
      → IsKeptAt old slot b → new ≡ slice_set old slot (Some later) → Same (meaning later) (meaning b)
      → IfOk r (λ a. ComesTo (meaning b) (state b) m member a (state later)) → IfOk r (λ a. IsSendable a) → IfOk r (λ a. Called meaning state slot m member old new a)
  called (Ok a) slot m member old new b later here set same comes law = record { reached = reaches slot old new b later here set same; comes = comes; law = law }
  called (Err e) slot m member old new b later here set same comes law = tt

  -- it was called by the call that may change it
  pub called_mut : {E : Type 0} (r : Result DispatchResult2 E) (slot : ℕ) (m : MessageView) (member : List ℕ) (old new : Slots B) (b later : B)
      → IsKeptAt old slot b → new ≡ slice_set old slot (Some later) → Same (meaning later) (meaning b)
      → IfOk r (λ a. (meaning b).calls_mut (state b) m member a (state later)) → IfOk r (λ a. IsSendable a) → IfOk r (λ a. CallsMut meaning state slot m member old new a)
  called_mut (Ok a) slot m member old new b later here set same told law = record { reached = reaches slot old new b later here set same; told = told; law = law }
  called_mut (Err e) slot m member old new b later here set same told law = tt

  -- a property of it was set
  pub was_set : {E : Type 0} (r : Result DispatchResult2 E) (slot : ℕ) (property : List ℕ) (value : Datum) (old new : Slots B) (b later : B)
      → IsKeptAt old slot b → new ≡ slice_set old slot (Some later) → Same (meaning later) (meaning b)
      → IfOk r (λ a. (meaning b).sets (state b) property value a (state later)) → IfOk r (λ a. IsSendable a) → IfOk r (λ a. SetsMut meaning state slot property value old new a)
  was_set (Ok a) slot property value old new b later here set same told law = record { reached = reaches slot old new b later here set same; told = told; law = law }
  was_set (Err e) slot property value old new b later here set same told law = tt

  -- where one was reached, each is kept
  pub reached_kept : (o : Objects) (slot : ℕ) (old new : Slots B) → Reaches meaning state slot old new → AreKept (λ b. (meaning b).title) o old → AreKept (λ b. (meaning b).title) o new
  reached_kept o slot old new r whole =
      subst (AreKept (λ b. (meaning b).title) o) (sym r.others) (called_kept (λ b. (meaning b).title) o old slot r.before r.after r.kept r.same.title whole)

  pub either_kept : {E : Type 0} (r : Result DispatchResult2 E) (o : Objects) (slot : ℕ) (old new : Slots B) (P : DispatchResult2 → Type 0) → ((a : DispatchResult2) → P a → Reaches meaning state slot old new)
      → IfOk r P → OnErr r (Reaches meaning state slot old new) → AreKept (λ b. (meaning b).title) o old → AreKept (λ b. (meaning b).title) o new
  either_kept (Ok a) o slot old new P of ok err whole = reached_kept o slot old new (of a ok) whole
  either_kept (Err e) o slot old new P of ok err whole = reached_kept o slot old new err whole

  pub reaches_at_err : {A E : Type 0} (r : Result A E) (slot : ℕ) (old new : Slots B) → Reaches meaning state slot old new → OnErr r (Reaches meaning state slot old new)
  reaches_at_err (Ok a) slot old new h = tt
  reaches_at_err (Err e) slot old new h = h

-- what stands in a slot that keeps an interface is that one
pub kept_here : {B : Type 0} (slots : Slots B) (k : ℕ) (o : Option B) (b : B) → is_kept (slice_get slots k) ≡ true → o ≡ get_or slots k o → o ≡ Some b → IsKeptAt slots k b
kept_here [] k o b kept at is = absurd (false≢true kept)
kept_here (s ∷ slots) zero o b kept at is = ap Some (sym at ∙ is)
kept_here (s ∷ slots) (suc k) o b kept at is = kept_here slots k o b kept at is
