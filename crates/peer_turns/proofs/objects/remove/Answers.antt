-- What is refused of removing one.
use Rattle.std.proofs.Common.{sym, subst, List}
use Rattle.wire_message.specs.Outgoing.{OutgoingMessageView}
use Rattle.peer_turns.specs.Names.{ObjectOp}
use Rattle.peer_turns.specs.Objects.{Asks}
use Rattle.peer_turns.proofs.Announcing.{remove_refused}
use Rattle.peer_turns.proofs.objects.remove.Goals as goal

pub returns-in_ok-refused-in-Err-clause-asks : goal.returns-in_ok-refused-in-Err-clause-asks
returns-in_ok-refused-in-Err-clause-asks g c =
    subst (λ (l : List OutgoingMessageView). Asks g.R.Registry.meanings (ObjectOp.Remove c.args.path.now c.args.interface.now) c.in_ok-refused-in-Err.field-0 l c.args.service.now c.remove.new.self) (sym c.new.ensures.items)
    (remove_refused g.R.Registry.meanings c.args.path.now c.args.interface.now c.args.service.now c.remove.new.self c.in-Err.error _ c.in_ok-refused-in-Err.ensures c.in-Err.ensures.answer c.in-Err.ensures.left)
