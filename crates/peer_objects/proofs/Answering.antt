-- What the answer to a call serves, and what was disturbed where it is given up.
use Rattle.std.proofs.Common.{◌≡◌, ◌⊎◌, inr, refl, sym, ◌∙◌, ap, subst, ℕ, List, [], Option, Some, None, unwrap_or, Result, Ok, Err, IfOk, OnErr}
use Rattle.wire_message.specs.Front.{MessageView}
use Rattle.wire_message.specs.declared.fdo.Error.{Error}
use Rattle.object_interface.specs.Answering.{answers, notifier_of, refusal}
use Rattle.object_interface.specs.Meaning.{Meaning}
use Rattle.object_interface.specs.declared.answer.DispatchResult2.{DispatchResult2}
use Rattle.object_interface.specs.declared.answered.Answered.{Answered}
use Rattle.object_tree.specs.Objects.{Objects}
use Rattle.object_tree.specs.declared.standard.StandardInterface.{StandardInterface}
use Rattle.object_standard.specs.Method.{method_named}
use Rattle.peer_objects.specs.Serving.{Slots}
use Rattle.peer_objects.specs.Dispatching.{Target, Nothing, Standard, Slot, reached, with_names, target, member_in, Reaches, Called}
use Rattle.peer_objects.specs.Standard.{StandardAnswers, SetsIn}
use Rattle.peer_objects.specs.Served.{ServedAt, Serves, DisturbedAt, Disturbs}
use Rattle.peer_objects.proofs.Left.{served_left}

-- the call names these
pub record Names (m : MessageView) (path interface member : List ℕ) : Type 0 where
  pub path_is : m.path ≡ Some path
  pub interface_is : m.interface ≡ Some interface
  pub member_is : m.member ≡ Some member

-- so it reaches what they do
target_is : (o : Objects) (m : MessageView) (p i n : List ℕ) → Names m p i n → target o m ≡ reached o p i
unfolding target
target_is o m p i n names =
    ap (λ x. with_names o x m.interface m.member) names.path_is ∙ ap (λ x. with_names o (Some p) x m.member) names.interface_is ∙ ap (λ x. with_names o (Some p) (Some i) x) names.member_is

member_named : (m : MessageView) (p i n : List ℕ) → Names m p i n → n ≡ member_in m
member_named m p i n names = sym (ap (λ x. unwrap_or x []) names.member_is)

module _ {B : Type 0} (meaning : B → Meaning) (state : B → List ℕ) where
  -- nothing
  pub nothing_serves : {E : Type 0} (r : Result Answered E) (machine : Option (List ℕ)) (old : Objects × Slots B) (m : MessageView) (p i n : List ℕ) (error : Error) → Names m p i n → Nothing error ≡ reached old.0 p i
      → IfOk r (λ a. a.messages.items ≡ refusal m error) → IfOk r (λ a. a.notifier ≡ None) → IfOk r (λ a. Serves meaning state machine old old m a.messages.items a.notifier)
  nothing_serves (Ok a) machine old m p i n error names is messages notifier = record {
    tree = refl;
    served = subst (λ t. ServedAt meaning state machine old.0 t m old.1 old.1 a.messages.items a.notifier) (is ∙ sym (target_is old.0 m p i n names)) (messages, notifier, refl);
  }
  nothing_serves (Err e) machine old m p i n error names is messages notifier = tt

  -- a standard interface
  standard_named_so : (machine : Option (List ℕ)) (o : Objects) (standard : StandardInterface) (m : MessageView) (old new : Slots B) (p i n : List ℕ) (answer : DispatchResult2) → Names m p i n
      → StandardAnswers meaning state machine o (method_named standard n) m old new answer → StandardAnswers meaning state machine o (method_named standard (member_in m)) m old new answer
  standard_named_so machine o standard m old new p i n answer names told = subst (λ x. StandardAnswers meaning state machine o (method_named standard x) m old new answer) (member_named m p i n names) told

  pub standard_serves : {E : Type 0} (r : Result Answered E) (machine : Option (List ℕ)) (old new : Objects × Slots B) (m : MessageView) (p i n : List ℕ) (standard : StandardInterface) (answer : DispatchResult2) → Names m p i n
      → Standard standard ≡ reached old.0 p i → new.0 ≡ old.0 → StandardAnswers meaning state machine old.0 (method_named standard n) m old.1 new.1 answer
      → IfOk r (λ a. a.messages.items ≡ answers m n answer) → IfOk r (λ a. a.notifier ≡ notifier_of answer) → IfOk r (λ a. Serves meaning state machine old new m a.messages.items a.notifier)
  standard_serves (Ok a) machine old new m p i n standard answer names is tree told messages notifier = record {
    tree = tree;
    served = subst (λ t. ServedAt meaning state machine old.0 t m old.1 new.1 a.messages.items a.notifier) (is ∙ sym (target_is old.0 m p i n names)) (
      answer,
      standard_named_so machine old.0 standard m old.1 new.1 p i n answer names told,
      messages ∙ ap (λ x. answers m x answer) (member_named m p i n names),
      notifier,
    );
  }
  standard_serves (Err e) machine old new m p i n standard answer names is tree told messages notifier = tt

  -- it was answered, and the answer was given up
  pub standard_disturbs : {A E : Type 0} (r : Result A E) (machine : Option (List ℕ)) (old new : Objects × Slots B) (m : MessageView) (p i n : List ℕ) (standard : StandardInterface) (answer : DispatchResult2) → Names m p i n
      → Standard standard ≡ reached old.0 p i → new.0 ≡ old.0 → StandardAnswers meaning state machine old.0 (method_named standard n) m old.1 new.1 answer → OnErr r (Disturbs meaning state old new m)
  standard_disturbs (Ok a) machine old new m p i n standard answer names is tree told = tt
  standard_disturbs (Err e) machine old new m p i n standard answer names is tree told = record {
    tree = tree;
    slots = subst (λ t. DisturbedAt meaning state old.0 t m old.1 new.1) (is ∙ sym (target_is old.0 m p i n names))
        (served_left meaning state machine old.0 (Standard standard) m old.1 new.1 (answers m (member_in m) answer) (notifier_of answer)
        (answer, standard_named_so machine old.0 standard m old.1 new.1 p i n answer names told, refl, refl));
  }

  -- it came to no answer
  pub standard_stops : {A E : Type 0} (r : Result A E) (old new : Objects × Slots B) (m : MessageView) (p i n : List ℕ) (standard : StandardInterface) → Names m p i n → Standard standard ≡ reached old.0 p i → new.0 ≡ old.0
      → (new.1 ≡ old.1) ⊎ ((slot : ℕ) × SetsIn old.0 standard m slot × Reaches meaning state slot old.1 new.1) → OnErr r (Disturbs meaning state old new m)
  standard_stops (Ok a) old new m p i n standard names is tree left = tt
  standard_stops (Err e) old new m p i n standard names is tree left = record {
    tree = tree;
    slots = subst (λ t. DisturbedAt meaning state old.0 t m old.1 new.1) (is ∙ sym (target_is old.0 m p i n names)) left;
  }

  -- the interface in a slot
  pub slot_serves : {E : Type 0} (r : Result Answered E) (machine : Option (List ℕ)) (old new : Objects × Slots B) (m : MessageView) (p i n : List ℕ) (slot : ℕ) (answer : DispatchResult2) → Names m p i n
      → Slot slot ≡ reached old.0 p i → new.0 ≡ old.0 → Called meaning state slot m n old.1 new.1 answer
      → IfOk r (λ a. a.messages.items ≡ answers m n answer) → IfOk r (λ a. a.notifier ≡ notifier_of answer) → IfOk r (λ a. Serves meaning state machine old new m a.messages.items a.notifier)
  slot_serves (Ok a) machine old new m p i n slot answer names is tree called messages notifier = record {
    tree = tree;
    served = subst (λ t. ServedAt meaning state machine old.0 t m old.1 new.1 a.messages.items a.notifier) (is ∙ sym (target_is old.0 m p i n names)) (
      answer,
      subst (λ x. Called meaning state slot m x old.1 new.1 answer) (member_named m p i n names) called,
      messages ∙ ap (λ x. answers m x answer) (member_named m p i n names),
      notifier,
    );
  }
  slot_serves (Err e) machine old new m p i n slot answer names is tree called messages notifier = tt

  -- it was called
  pub slot_disturbs : {A E : Type 0} (r : Result A E) (old new : Objects × Slots B) (m : MessageView) (p i n : List ℕ) (slot : ℕ) → Names m p i n → Slot slot ≡ reached old.0 p i → new.0 ≡ old.0
      → Reaches meaning state slot old.1 new.1 → OnErr r (Disturbs meaning state old new m)
  slot_disturbs (Ok a) old new m p i n slot names is tree called = tt
  slot_disturbs (Err e) old new m p i n slot names is tree called = record {
    tree = tree;
    slots = subst (λ t. DisturbedAt meaning state old.0 t m old.1 new.1) (is ∙ sym (target_is old.0 m p i n names)) (inr called);
  }
