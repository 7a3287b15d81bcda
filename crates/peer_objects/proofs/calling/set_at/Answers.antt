use Rattle.std.proofs.Common.{refl}
use Rattle.peer_objects.specs.Serving.{IsKeptAt}
use Rattle.peer_objects.proofs.Reached.{was_set, reaches, reaches_at_err, kept_here}
use Rattle.peer_objects.proofs.calling.set_at.Goals as goal

pub returns-clause-set : goal.returns-clause-set
returns-clause-set g c =
    let here : IsKeptAt c.args.slots.now.items c.args.slot c.in-Some.object = kept_here c.args.slots.now.items c.args.slot c.index_mut.result.now c.in-Some.object c.requires c.index_mut.ensures.value c.in-Some.is in
    was_set g.B.Interface.meaning g.B.Interface.state c.set.result c.args.slot c.args.property.now c.args.value.now c.args.slots.now.items _ c.in-Some.object c.set.new.object here refl c.set.ensures.same c.set.ensures.told c.set.ensures.law

pub returns-clause-reached : goal.returns-clause-reached
returns-clause-reached g c =
    let here : IsKeptAt c.args.slots.now.items c.args.slot c.in-Some.object = kept_here c.args.slots.now.items c.args.slot c.index_mut.result.now c.in-Some.object c.requires c.index_mut.ensures.value c.in-Some.is in
    reaches_at_err g.B.Interface.meaning g.B.Interface.state c.set.result c.args.slot c.args.slots.now.items _ (reaches g.B.Interface.meaning g.B.Interface.state c.args.slot c.args.slots.now.items _ c.in-Some.object c.set.new.object here refl c.set.ensures.same)
