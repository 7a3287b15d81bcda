use Rattle.std.proofs.Common.{sym, subst, refl}
use Rattle.peer_conn.specs.Invariant.{StateInvariant, given_after}
use Rattle.peer_conn.proofs.{Held.{held_open, held_closed}, Quietly.{take_before_did, untaken_before_did}}
use Rattle.peer_conn.proofs.state.PeerState.take_before.Goals as goal

pub returns-in_default-clause-did : goal.returns-in_default-clause-did
returns-in_default-clause-did c t lane s =
    let before : StateInvariant _ t = subst (λ v. StateInvariant v t) (sym c.self.view_is) s in
    rw (c.unknown.ensures) (untaken_before_did _ t lane c.args.stream c.args.position (held_closed t.past c.self.inside.handles.items c.args.stream _ before.keeps.held c.as_slice.ensures.value (rw c.in_default.is at c.open_stream.ensures)) s.keeps)

pub returns-clause-did : goal.returns-clause-did
returns-clause-did c t lane s =
    let before : StateInvariant _ t = subst (λ v. StateInvariant v t) (sym c.self.view_is) s in
    let named = (held_open t.past c.self.inside.handles.items c.args.stream _ c.in-Some.handle.now before.keeps.held c.as_slice.ensures.value (rw c.in-Some.is at c.open_stream.ensures)).1 in
    rw (c.show_take.ensures.kept, c.show_take.ensures.answer) (take_before_did _
    (record { core = c.take_before-polled.new.self; calls = c.self.inside.calls; streams = c.self.inside.streams; server = c.self.inside.server; makes = c.self.inside.makes; handles = c.self.inside.handles.items; given = given_after c.args.stream c.take_before-polled.result c.self.inside.given.items })
    t lane c.args.stream c.args.position c.take_before-polled.result before refl (rw named at (c.take_before-polled.ensures.answer t.past before.keeps.left)) (rw named at (c.take_before-polled.ensures.left t.past before.keeps.left)) refl)
