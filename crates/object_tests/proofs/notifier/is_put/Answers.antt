-- The number is one that the answer had.
use Rattle.std.proofs.Common.{◌≡◌, sym, ◌∙◌, ap, subst, true, Some, Option, ℕ}
use Rattle.std.specs.Global.{Vec}
use Rattle.wire_message.specs.Outgoing.{OutgoingMessageView}
use Rattle.peer_objects.specs.Notifying.{Notified, awaiting, is_known}
use Rattle.peer_objects.proofs.Known.{known_now}
use Rattle.object_tests.proofs.notifier.is_put.Goals as goal

pub set_dispatched-requires-after_bounds : goal.set_dispatched-requires-after_bounds
set_dispatched-requires-after_bounds c κs =
    let notifier : c.in_ok-dispatch.field-0.notifier ≡ Some c.in-Some.number = sym (ap (λ (r : Vec OutgoingMessageView × Option ℕ). r.1) c.into_parts-messages.ensures) ∙ c.in-Some.is in
    let told : c.dispatch.new.self.2 ≡ awaiting (Some c.in-Some.number) c.args.server.now.2 = c.in_ok-dispatch.ensures.notified ∙ ap (λ (o : Option ℕ). awaiting o c.args.server.now.2) notifier in
    subst (λ (l : Notified). is_known l c.in-Some.number ≡ true) (sym told) (known_now c.in-Some.number c.args.server.now.2)
