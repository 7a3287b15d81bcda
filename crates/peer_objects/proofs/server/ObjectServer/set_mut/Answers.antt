use Rattle.peer_objects.specs.Dispatching.{SetsMut}
use Rattle.peer_objects.proofs.Reached.{either_kept}
use Rattle.peer_objects.proofs.server.ObjectServer.set_mut.Goals as goal

pub invariant_of-self : goal.invariant_of-self
invariant_of-self g c =
    either_kept g.B.Interface.meaning g.B.Interface.state c.set_mut_at.result c.self.inside.tree c.args.slot c.self.inside.slots.items c.set_mut_at.new.slots.items
    (λ a. SetsMut g.B.Interface.meaning g.B.Interface.state c.args.slot c.args.property.now c.args.value.now c.self.inside.slots.items c.set_mut_at.new.slots.items a) (λ a h. h.reached) c.set_mut_at.ensures.called c.set_mut_at.ensures.reached c.self.invariant
