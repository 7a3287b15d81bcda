use Rattle.peer_objects.specs.Dispatching.{CallsMut}
use Rattle.peer_objects.proofs.Reached.{either_kept}
use Rattle.peer_objects.proofs.server.ObjectServer.call_mut.Goals as goal

pub invariant_of-self : goal.invariant_of-self
invariant_of-self g c =
    either_kept g.B.Interface.meaning g.B.Interface.state c.call_mut_at.result c.self.inside.tree c.args.slot c.self.inside.slots.items c.call_mut_at.new.slots.items
    (λ a. CallsMut g.B.Interface.meaning g.B.Interface.state c.args.slot c.args.message.now c.args.member.now c.self.inside.slots.items c.call_mut_at.new.slots.items a) (λ a h. h.reached) c.call_mut_at.ensures.called c.call_mut_at.ensures.reached c.self.invariant
