-- The object server's stream is made where there is none.
use Rattle.std.proofs.Common.{◌≡◌, sym, ◌∙◌, ap, subst, is_some, true, false}
use Rattle.peer_conn.specs.Invariant.{PeerStateView, Keeps}
use Rattle.peer_core.specs.History.{after_all}
use Rattle.peer_route.specs.Plan.{server_rule, server_events}
use Rattle.peer_conn.proofs.Serving.{still_keeps, still_made, server_made, serving_keeps}
use Rattle.peer_conn.proofs.state.PeerState.begin_serving.Goals as goal

pub returns-then-is_some-clause-keeps : goal.returns-then-is_some-clause-keeps
returns-then-is_some-clause-keeps c = λ p keeps.
    let some : is_some c.self.inside.server ≡ true = sym c.is_some.ensures ∙ c.if-is_some.true in
    still_keeps c.args.self.now p c.args.self.now.server (ap (λ (v : PeerStateView). is_some v.server) (sym c.self.view_is) ∙ some) keeps

pub returns-then-is_some-clause-made : goal.returns-then-is_some-clause-made
returns-then-is_some-clause-made c =
    let some : is_some c.self.inside.server ≡ true = sym c.is_some.ensures ∙ c.if-is_some.true in
    still_made c.args.self.now.server (ap (λ (v : PeerStateView). is_some v.server) (sym c.self.view_is) ∙ some)

pub returns-clause-keeps : goal.returns-clause-keeps
returns-clause-keeps c = λ p keeps.
    let none : is_some c.self.inside.server ≡ false = sym c.is_some.ensures ∙ c.if-is_some.false in
    let old : PeerStateView = record { core = c.self.inside.route; calls = c.self.inside.calls; streams = c.self.inside.streams; server = c.self.inside.server; handles = c.self.inside.handles.items; given = c.self.inside.given.items; makes = c.self.inside.makes } in
    let now : PeerStateView = record { core = c.open_unasked.new.self; calls = c.self.inside.calls; streams = c.self.inside.streams; server = c.self.inside.server; handles = c.push.new.self.items; given = c.push-2.new.self.items; makes = c.self.inside.makes } in
    let before : Keeps old p = subst (λ v. Keeps v p) (sym c.self.view_is) keeps in
    subst (λ (v : PeerStateView). Keeps now (after_all (server_events p.name v.server) p)) c.self.view_is
    (serving_keeps old now p c.in_ok-rule.rule c.in_ok-stream.stream before none (c.in_ok-rule.ensures ∙ ap server_rule c.unique_name.ensures) c.in_ok-stream.ensures.number (c.in_ok-stream.ensures.left p before.left)
    c.in_ok-push.ensures.items c.in_ok-push-2.ensures.items)

pub returns-clause-made : goal.returns-clause-made
returns-clause-made c =
    let none : is_some c.self.inside.server ≡ false = sym c.is_some.ensures ∙ c.if-is_some.false in
    server_made c.args.self.now.server (ap (λ (v : PeerStateView). is_some v.server) (sym c.self.view_is) ∙ none)
