-- The call whose message failed is gone, and so is the stream that waits for it.
use Rattle.peer_core.specs.{History.{calls_of, streams_of}, Refinement.{RouteView, Refines}}
use Rattle.std.proofs.Common.{sym, ◌∙◌, ap, subst, ◌==◌}
use Rattle.std.specs.List.{position}
use Rattle.peer_calls.specs.Refinement.{CallsView, Rising}
use Rattle.peer_streams.specs.{History.{Loses, after as streams_after}, Refinement.RefinesStreams}
use Rattle.peer_calls.proofs.CallsAfter.{lost, lost_none}
use Rattle.peer_core.proofs.Core.{left_fault}
use Rattle.peer_core.proofs.route.Route.write_fault.Goals as goal

pub returns-in-Some-clause-left : goal.returns-in-Some-clause-left
returns-in-Some-clause-left c h left =
    let was = subst (λ (v : RouteView). Refines v h) (sym c.self.view_is) left in
    let first = c.requires.first ∙ left.done in
    let rise = subst Rising (sym was.places ∙ sym c.deref.ensures.value) was.sound.rise in
    rw c.then-self-inside.ensures
    (left_fault _ c.on_write_failed-in-Some.new.self c.on_write_failed.new.self h was
    (lost c.args.index c.in-Some.call c.self.inside.places.items c.self.inside.calls c.on_write_failed-in-Some.new.self (calls_of h) first was.places
    (ap (position (λ i. i == c.args.index)) (sym c.deref.ensures.value) ∙ sym (c.call_at.ensures rise) ∙ c.in-Some.is)
    (ap (λ (v : CallsView). v.slots) c.on_write_failed-in-Some.ensures) (ap (λ (v : CallsView). v.closing) c.on_write_failed-in-Some.ensures) was.sound.rise was.calls)
    (subst (λ n. RefinesStreams c.on_write_failed.new.self (streams_after (Loses n) (streams_of h))) first (c.on_write_failed.ensures (streams_of h) was.streams)))

pub returns-in_default-clause-left : goal.returns-in_default-clause-left
returns-in_default-clause-left c h left =
    let was = subst (λ (v : RouteView). Refines v h) (sym c.self.view_is) left in
    let first = c.requires.first ∙ left.done in
    let rise = subst Rising (sym was.places ∙ sym c.deref.ensures.value) was.sound.rise in
    rw c.then-self-inside.ensures
    (left_fault _ c.self.inside.calls c.on_write_failed.new.self h was
    (lost_none c.args.index c.self.inside.places.items c.self.inside.calls (calls_of h) first was.places
    (ap (position (λ i. i == c.args.index)) (sym c.deref.ensures.value) ∙ sym (c.call_at.ensures rise) ∙ c.in_default.is) was.calls)
    (subst (λ n. RefinesStreams c.on_write_failed.new.self (streams_after (Loses n) (streams_of h))) first (c.on_write_failed.ensures (streams_of h) was.streams)))
