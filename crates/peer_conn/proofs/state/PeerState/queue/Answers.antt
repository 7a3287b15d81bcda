use Rattle.std.proofs.Common.{sym, subst, refl}
use Rattle.peer_conn.specs.Invariant.{StateInvariant}
use Rattle.peer_conn.proofs.{Held.{held_open, held_closed}, Quietly.{queue_did, closed_did}, state.PeerState.queue.Goals.{in-Ok, in-Err}}
use Rattle.peer_conn.proofs.state.PeerState.queue.Goals as goal

pub returns-in_default-clause-did : goal.returns-in_default-clause-did
returns-in_default-clause-did c t lane s =
    let before : StateInvariant _ t = subst (λ v. StateInvariant v t) (sym c.self.view_is) s in
    rw (c.unknown.ensures) (closed_did _ t lane c.args.stream _ (held_closed t.past c.self.inside.handles.items c.args.stream _ before.keeps.held c.as_slice.ensures.value (rw c.in_default.is at c.open_stream.ensures)) s.keeps)

pub returns-clause-did : goal.returns-clause-did
returns-clause-did c t lane s =
    let before : StateInvariant _ t = subst (λ v. StateInvariant v t) (sym c.self.view_is) s in
    let named = (held_open t.past c.self.inside.handles.items c.args.stream _ c.in-Some.handle.now before.keeps.held c.as_slice.ensures.value (rw c.in-Some.is at c.open_stream.ensures)).1 in
    let did = queue_did _ (record { core = c.set_max_queued.new.self; calls = c.self.inside.calls; streams = c.self.inside.streams; server = c.self.inside.server; makes = c.self.inside.makes; handles = c.self.inside.handles.items; given = c.self.inside.given.items }) t lane c.args.stream c.args.limit c.set_max_queued.result before refl refl
    (rw named at (c.set_max_queued.ensures.answer t.past before.keeps.left)) (rw named at (c.set_max_queued.ensures.left t.past before.keeps.left)) in
    elim c.match-set_max_queued.branch [
      | in-Ok w ↦ rw (w.result-is) (rw (w.in-Ok.is) at did)
      | in-Err w ↦ rw (w.result-is) (rw (w.in-Err.is) at did)
    ]
