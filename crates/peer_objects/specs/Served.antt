-- How a service answers what comes to it (D-Bus Specification, "Message Protocol", "Types of messages", "Standard Interfaces").
use Rattle.std.specs.Prelude.{◌≡◌, ◌⊎◌, ℕ, List, Option, None}
use Rattle.wire_message.specs.Front.{MessageView}
use Rattle.wire_message.specs.Outgoing.{OutgoingMessageView}
use Rattle.object_interface.specs.Answering.{answers, notifier_of, refusal}
use Rattle.object_interface.specs.Meaning.{Meaning}
use Rattle.object_interface.specs.declared.answer.DispatchResult2.{DispatchResult2}
use Rattle.object_tree.specs.Objects.{Objects}
use Rattle.object_standard.specs.Method.{method_named}
use Rattle.peer_objects.specs.Serving.{Slots}
use Rattle.peer_objects.specs.Dispatching.{Target, Nothing, Standard, Slot, target, member_in, Reaches, Called}
use Rattle.peer_objects.specs.Standard.{StandardAnswers, SetsIn}

module _ {B : Type 0} (meaning : B → Meaning) (state : B → List ℕ) where
  -- What is answered, by what the call reaches, where that is the machine's id, if one is known: the error; the standard interface's answer;
  -- or that of the interface in the slot.
  abbrev pub ServedAt : Option (List ℕ) → Objects → Target → MessageView → Slots B → Slots B → List OutgoingMessageView → Option ℕ → Type 0
  ServedAt machine objects (Nothing error) m old new messages notifier = (messages ≡ refusal m error) × (notifier ≡ None) × (new ≡ old)
  ServedAt machine objects (Standard standard) m old new messages notifier =
      (answer : DispatchResult2) × StandardAnswers meaning state machine objects (method_named standard (member_in m)) m old new answer
      × (messages ≡ answers m (member_in m) answer) × (notifier ≡ notifier_of answer)
  ServedAt machine objects (Slot slot) m old new messages notifier =
      (answer : DispatchResult2) × Called meaning state slot m (member_in m) old new answer
      × (messages ≡ answers m (member_in m) answer) × (notifier ≡ notifier_of answer)

  -- A message was taken in: the tree stays, and these messages are answered.
  pub record Serves (machine : Option (List ℕ)) (old new : Objects × Slots B) (m : MessageView) (messages : List OutgoingMessageView) (notifier : Option ℕ) : Type 0 where
    pub tree : new.0 ≡ old.0
    pub served : ServedAt machine old.0 (target old.0 m) m old.1 new.1 messages notifier

  -- Without memory: nothing is changed, or only the interface that the call reaches, or whose property it sets, which is in any state.
  abbrev pub DisturbedAt : Objects → Target → MessageView → Slots B → Slots B → Type 0
  DisturbedAt objects (Nothing error) m old new = new ≡ old
  DisturbedAt objects (Standard standard) m old new = (new ≡ old) ⊎ ((slot : ℕ) × SetsIn objects standard m slot × Reaches meaning state slot old new)
  DisturbedAt objects (Slot slot) m old new = (new ≡ old) ⊎ Reaches meaning state slot old new

  -- the tree stays
  pub record Disturbs (old new : Objects × Slots B) (m : MessageView) : Type 0 where
    pub tree : new.0 ≡ old.0
    pub slots : DisturbedAt old.0 (target old.0 m) m old.1 new.1
