use Rattle.std.proofs.Common.{◌≡◌, sym, ap, subst, ◌∙◌, Some}
use Rattle.peer_route.specs.Replay.{handle_index}
use Rattle.peer_conn.specs.Invariant.{StateInvariant}
use Rattle.peer_conn.proofs.state.PeerState.of_stream.Goals as goal

pub returns-in-Take-clause-did : goal.returns-in-Take-clause-did
returns-in-Take-clause-did c t s known =
    let before : StateInvariant _ t = subst (λ v. StateInvariant v t) (sym c.self.view_is) s in
    let named : Some c.in-Some.stream ≡ handle_index 0 c.args.lane c.args.number t.streams = c.in-Some.ensures ∙ ap (handle_index 0 c.args.lane c.args.number) before.streams in
    rw (c.in-Take.is, c.plainly-in-Take.ensures, sym named) (c.take.ensures.did t c.args.lane s)

pub returns-in-TakeBefore-clause-did : goal.returns-in-TakeBefore-clause-did
returns-in-TakeBefore-clause-did c t s known =
    let before : StateInvariant _ t = subst (λ v. StateInvariant v t) (sym c.self.view_is) s in
    let named : Some c.in-Some.stream ≡ handle_index 0 c.args.lane c.args.number t.streams = c.in-Some.ensures ∙ ap (handle_index 0 c.args.lane c.args.number) before.streams in
    rw (c.in-TakeBefore.is, c.plainly-in-TakeBefore.ensures, sym named) (c.take_before.ensures.did t c.args.lane s)

pub returns-in-Opened-clause-did : goal.returns-in-Opened-clause-did
returns-in-Opened-clause-did c t s known =
    let before : StateInvariant _ t = subst (λ v. StateInvariant v t) (sym c.self.view_is) s in
    let named : Some c.in-Some.stream ≡ handle_index 0 c.args.lane c.args.number t.streams = c.in-Some.ensures ∙ ap (handle_index 0 c.args.lane c.args.number) before.streams in
    rw (c.in-Opened.is, c.plainly-in-Opened.ensures, sym named) (c.opened.ensures.did t c.args.lane s known)
