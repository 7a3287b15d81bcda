-- What a standard interface leaves of the others, whatever it answers.
use Rattle.std.proofs.Common.{◌≡◌, ◌⊎◌, inl, inr, ⊎_elim, refl, sym, ◌∙◌, subst, ℕ, List, Option, Some, None, Result, Ok, Err, OnErr}
use Rattle.wire_tree.specs.Datum.{Datum}
use Rattle.wire_message.specs.Front.{MessageView}
use Rattle.wire_message.specs.Outgoing.{OutgoingMessageView}
use Rattle.object_interface.specs.Meaning.{Meaning}
use Rattle.object_interface.specs.declared.answer.DispatchResult2.{DispatchResult2}
use Rattle.object_tree.specs.Objects.{Objects}
use Rattle.object_tree.specs.declared.standard.StandardInterface.{StandardInterface}
use Rattle.object_standard.specs.Method.{method_named}
use Rattle.object_standard.specs.declared.method.StandardMethod.{StandardMethod}
use Rattle.object_standard.specs.declared.method.StandardMethod.TheVariants as methods
use Rattle.peer_objects.specs.Serving.{Slots}
use Rattle.peer_objects.specs.Dispatching.{Target, Nothing, Standard, Slot, reached, target, member_in, Reaches}
use Rattle.peer_objects.specs.Standard.{path_in, SetsAt, Sets, SetsProperty, SetsIn, StandardAnswers}
use Rattle.peer_objects.specs.Standard as standards
use Rattle.peer_objects.specs.Served.{ServedAt, Serves, DisturbedAt, Disturbs}

module _ {B : Type 0} (meaning : B → Meaning) (state : B → List ℕ) where
  -- nothing is changed, or the interface that is kept in the slot that is reached
  set_left : (o : Objects) (m : MessageView) (t : Target) (p : List ℕ) (v : Datum) (old new : Slots B) (a : DispatchResult2) → SetsAt meaning state t p v old new a
      → (new ≡ old) ⊎ ((slot : ℕ) × (t ≡ Slot slot) × Reaches meaning state slot old new)
  set_left o m (Nothing error) p v old new a x = inl x.1
  set_left o m (Standard interface) p v old new a x = inl x.1
  set_left o m (Slot slot) p v old new a (said, x, is) = inr (slot, refl, x.reached)

  sets_left : (o : Objects) (m : MessageView) (old new : Slots B) (a : DispatchResult2) → Sets meaning state o m old new a → (new ≡ old) ⊎ ((slot : ℕ) × SetsProperty o m slot × Reaches meaning state slot old new)
  sets_left o m old new a (standards.Taken i p v named at) =
      ⊎_elim
      (λ (e : new ≡ old). inl e)
      (λ (r : (slot : ℕ) × (reached o (path_in m) i ≡ Slot slot) × Reaches meaning state slot old new). inr (r.0, (i, p, v, named, r.1), r.2))
      (set_left o m (reached o (path_in m) i) p v old new a at)
  sets_left o m old new a (standards.Refused none is same) = inl same

  method_left : (machine : Option (List ℕ)) (o : Objects) (method : Option StandardMethod) (m : MessageView) (old new : Slots B) (a : DispatchResult2) → StandardAnswers meaning state machine o method m old new a
      → (new ≡ old) ⊎ ((slot : ℕ) × ((method ≡ Some methods.Set) × SetsProperty o m slot) × Reaches meaning state slot old new)
  method_left machine o None m old new a x = inl x.1
  method_left machine o (Some (methods.Peer method)) m old new a x = inl x.1
  method_left machine o (Some methods.Introspect) m old new a x = inl x.1
  method_left machine o (Some methods.Get) m old new a x = inl x.1
  method_left machine o (Some methods.Set) m old new a x =
      ⊎_elim (λ (e : new ≡ old). inl e) (λ (r : (slot : ℕ) × SetsProperty o m slot × Reaches meaning state slot old new). inr (r.0, (refl, r.1), r.2)) (sets_left o m old new a x)
  method_left machine o (Some methods.GetAll) m old new a x = inl x.1
  method_left machine o (Some methods.GetManagedObjects) m old new a x = inl x.1

  -- what was served disturbs no more, also where that is given up for want of memory
  pub served_left : (machine : Option (List ℕ)) (o : Objects) (t : Target) (m : MessageView) (old new : Slots B) (list : List OutgoingMessageView) (notifier : Option ℕ) → ServedAt meaning state machine o t m old new list notifier → DisturbedAt meaning state o t m old new
  served_left machine o (Nothing error) m old new list notifier x = x.2
  served_left machine o (Standard i) m old new list notifier x = method_left machine o (method_named i (member_in m)) m old new x.0 x.1
  served_left machine o (Slot slot) m old new list notifier x = inr x.1.reached

  pub served_disturbs : {A E : Type 0} (r : Result A E) (machine : Option (List ℕ)) (old new later : Objects × Slots B) (m : MessageView) (list : List OutgoingMessageView) (notifier : Option ℕ)
      → later.0 ≡ new.0 → later.1 ≡ new.1 → Serves meaning state machine old new m list notifier → OnErr r (Disturbs meaning state old later m)
  served_disturbs (Ok x) machine old new later m list notifier tree slots served = tt
  served_disturbs (Err e) machine old new later m list notifier tree slots served = record {
    tree = tree ∙ served.tree;
    slots = subst (λ (l : Slots B). DisturbedAt meaning state old.0 (target old.0 m) m old.1 l) (sym slots) (served_left machine old.0 (target old.0 m) m old.1 new.1 list notifier served.served);
  }
