-- What is refused of placing an interface.
use Rattle.std.proofs.Common.{sym, subst, List}
use Rattle.wire_message.specs.Outgoing.{OutgoingMessageView}
use Rattle.peer_turns.specs.Names.{ObjectOp}
use Rattle.peer_turns.specs.Objects.{Asks}
use Rattle.peer_turns.proofs.Announcing.{place_refused}
use Rattle.peer_turns.proofs.objects.place.Goals as goal

pub returns-in_ok-refused-in-Err-clause-asks : goal.returns-in_ok-refused-in-Err-clause-asks
returns-in_ok-refused-in-Err-clause-asks g c =
    subst (λ (l : List OutgoingMessageView). Asks g.R.Registry.meanings (ObjectOp.At c.args.path.now c.args.number) c.in_ok-refused-in-Err.field-0 l c.args.service.now c.at.new.self) (sym c.new-in-Err.ensures.items)
    (place_refused g.R.Registry.meanings c.args.path.now c.args.number c.args.service.now c.at.new.self c.in-Err.error _ c.in_ok-refused-in-Err.ensures c.in-Err.ensures.answer c.in-Err.ensures.left)
