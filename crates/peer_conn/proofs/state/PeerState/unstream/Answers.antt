use Rattle.std.proofs.Common.{◌≡◌, sym, ap, subst, ◌∙◌, Some}
use Rattle.peer_route.specs.Replay.{handle_index}
use Rattle.peer_conn.specs.Invariant.{StateInvariant}
use Rattle.peer_conn.proofs.state.PeerState.unstream.Goals as goal

pub returns-in_default-clause-did : goal.returns-in_default-clause-did
returns-in_default-clause-did c t s = rw (c.in_default.is) (c.end.ensures.did t c.args.lane s)

pub returns-in-Some-handle_index-clause-did : goal.returns-in-Some-handle_index-clause-did
returns-in-Some-handle_index-clause-did c t s =
    let before : StateInvariant _ t = subst (λ v. StateInvariant v t) (sym c.self.view_is) s in
    let named : Some c.in-Some-handle_index.other ≡ handle_index 0 c.args.lane c.in-Some.number t.streams = c.in-Some-handle_index.ensures ∙ ap (handle_index 0 c.args.lane c.in-Some.number) before.streams in
    rw (c.in-Some.is, sym named) (c.end-in-Some-handle_index.ensures.did t c.args.lane s)
