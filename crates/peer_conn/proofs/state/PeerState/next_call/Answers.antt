-- The next call that came for the objects.
use Rattle.std.proofs.Common.{◌≡◌, sym, ◌∙◌, ap, subst, Some, option_map}
use Rattle.peer_conn.specs.Invariant.{PeerStateView, Keeps}
use Rattle.peer_core.specs.Asked.{next_message}
use Rattle.peer_route.specs.Plan.{next_call}
use Rattle.peer_conn.proofs.{Held.{held_open, held_closed}, Called.closed_next}
use Rattle.peer_conn.proofs.state.PeerState.next_call.Goals as goal

pub returns-in_err-stream : goal.returns-in_err-stream
returns-in_err-stream c = λ p keeps.
    let before : Keeps _ p = subst (λ v. Keeps v p) (sym c.self.view_is) keeps in
    let server : Some c.in_ok-server.server ≡ c.args.self.now.server = sym c.in_ok-server.was ∙ ap (λ (v : PeerStateView). v.server) c.self.view_is in
    let closed = held_closed p c.self.inside.handles.items c.in_ok-server.server _ before.held c.as_slice.ensures.value (rw c.in_err-stream.was at c.open_stream.ensures) in
    ap (option_map (λ m. m.now)) c.from_residual-in_err-stream.ensures ∙ closed_next p c.in_ok-server.server closed ∙ ap (next_call p) server

pub returns : goal.returns
returns c = λ p keeps.
    let before : Keeps _ p = subst (λ v. Keeps v p) (sym c.self.view_is) keeps in
    let server : Some c.in_ok-server.server ≡ c.args.self.now.server = sym c.in_ok-server.was ∙ ap (λ (v : PeerStateView). v.server) c.self.view_is in
    let named = (held_open p c.self.inside.handles.items c.in_ok-server.server _ c.in_ok-stream.stream.now before.held c.as_slice.ensures.value (rw c.in_ok-stream.was at c.open_stream.ensures)).1 in
    c.next_message.ensures p before.left ∙ ap (next_message p) named ∙ ap (next_call p) server
