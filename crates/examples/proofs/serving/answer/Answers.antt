use Rattle.std.proofs.Common.{◌≡◌, ap, Vec, Global, Option, ℕ, arith}
use Rattle.wire_message.specs.Outgoing.{OutgoingMessageView}
use Rattle.peer_core.specs.Names.{Issued}
use Rattle.examples.proofs.Putting.{answered}
use Rattle.examples.proofs.serving.answer.Goals as goal

pub returns : goal.returns
returns g c =
    let are : c.into_parts-messages.result.0.items ≡ c.in_ok-dispatch.field-0.messages.items = grind arith in
    answered g.B.Interface.meaning g.B.Interface.state (c.args.server.now.0, c.args.server.now.1) (c.dispatch.new.self.0, c.dispatch.new.self.1) c.args.route.now c.issue.new.self c.args.message.now
    (λ (v : Vec Issued Global). v.items) c.in_ok-dispatch.field-0.messages.items c.in_ok-dispatch.field-0.notifier c.into_parts-messages.result.0.items c.issue.result
    c.in_ok-dispatch.ensures.served are c.issue.ensures.issues
