use Rattle.std.proofs.Common.{refl}
use Rattle.peer_objects.specs.Serving.{IsKeptAt}
use Rattle.peer_objects.proofs.Reached.{called_mut, reaches, reaches_at_err, kept_here}
use Rattle.peer_objects.proofs.calling.call_mut_at.Goals as goal

pub returns-clause-called : goal.returns-clause-called
returns-clause-called g c =
    let here : IsKeptAt c.args.slots.now.items c.args.slot c.in-Some.object = kept_here c.args.slots.now.items c.args.slot c.index_mut.result.now c.in-Some.object c.requires c.index_mut.ensures.value c.in-Some.is in
    called_mut g.B.Interface.meaning g.B.Interface.state c.call_mut.result c.args.slot c.args.message.now c.args.member.now c.args.slots.now.items _ c.in-Some.object c.call_mut.new.self here refl c.call_mut.ensures.same c.call_mut.ensures.told c.call_mut.ensures.law

pub returns-clause-reached : goal.returns-clause-reached
returns-clause-reached g c =
    let here : IsKeptAt c.args.slots.now.items c.args.slot c.in-Some.object = kept_here c.args.slots.now.items c.args.slot c.index_mut.result.now c.in-Some.object c.requires c.index_mut.ensures.value c.in-Some.is in
    reaches_at_err g.B.Interface.meaning g.B.Interface.state c.call_mut.result c.args.slot c.args.slots.now.items _ (reaches g.B.Interface.meaning g.B.Interface.state c.args.slot c.args.slots.now.items _ c.in-Some.object c.call_mut.new.self here refl c.call_mut.ensures.same)
