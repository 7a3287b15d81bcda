-- What the service's objects answer is put.
use Rattle.std.proofs.Common.{◌≡◌, ℕ, true, List, map, Option, None, Result, Ok, Err, IfOk, subst}
use Rattle.wire_message.specs.Front.{MessageView}
use Rattle.wire_message.specs.Outgoing.{OutgoingMessageView, sent_by}
use Rattle.wire_message.specs.declared.error.Error.{Error}
use Rattle.object_interface.specs.Meaning.{Meaning}
use Rattle.object_tree.specs.Objects.{Objects}
use Rattle.peer_objects.specs.Serving.{Slots}
use Rattle.peer_objects.specs.Served.{Serves}
use Rattle.peer_core.specs.{Names.{Issued}, History.{Past}, Refinement.{RouteView, Refines}, Issuing.{IssuesAll}}
use Rattle.examples.specs.Example.{Answered}

pub answered : {B V : Type 0} (meaning : B → Meaning) (state : B → List ℕ) (old new : Objects × Slots B) (before after : RouteView) (m : MessageView)
    (items : V → List Issued) (list : List OutgoingMessageView) (notifier : Option ℕ) (messages : List OutgoingMessageView) (r : Result V Error)
    → Serves meaning state None old new m list notifier → messages ≡ list
    → ((p : Past) → Refines before p → IssuesAll items before after (map (sent_by before.name true) messages) p r)
    → IfOk r (λ told. Answered meaning state old new before after m (items told))
answered meaning state old new before after m items list notifier messages (Ok told) serves are issues = record {
  list = list;
  notifier = notifier;
  served = serves;
  put = λ p left. subst (λ (ms : List OutgoingMessageView). IssuesAll items before after (map (sent_by before.name true) ms) p (Ok told)) are (issues p left);
}
answered meaning state old new before after m items list notifier messages (Err error) serves are issues = tt
