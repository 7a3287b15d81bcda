use Rattle.std.proofs.Common.{sym, subst, refl, None, IfOk}
use Rattle.peer_words.specs.{CallMessage.prepared_outgoing, Made.IsCarried}
use Rattle.peer_route.specs.Plan.{sends}
use Rattle.peer_conn.specs.Invariant.{PeerStateView, StateInvariant, Did}
use Rattle.peer_conn.proofs.Posted.{outgoing_named}
use Rattle.peer_conn.proofs.state.PeerState.send.Goals as goal

pub returns-clause-did : goal.returns-clause-did
returns-clause-did c t s takes =
    let before : StateInvariant _ t = subst (λ v. StateInvariant v t) (sym c.self.view_is) s in
    let after : PeerStateView = record { core = c.put.new.route; calls = c.self.inside.calls; streams = c.self.inside.streams; server = c.self.inside.server; handles = c.self.inside.handles.items; makes = c.self.inside.makes; given = c.self.inside.given.items } in
    let outgoing = c.outgoing_message-outgoing.ensures in
    subst (λ asked. IfOk c.put.result (Did after t c.args.lane (sends t c.args.lane asked))) (outgoing_named t.past.name c.args.takes_fds c.args.words.now)
    (c.put.ensures t after (prepared_outgoing None c.args.takes_fds c.args.words.now) refl before.keeps.left before.keeps.held before.keeps.given before.calls outgoing.makes
    (subst (λ b. IfOk c.outgoing_message-outgoing.result (λ l. IsCarried b l)) (sym takes) outgoing.carried))
