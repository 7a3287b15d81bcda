use Rattle.std.proofs.Common.{◌≡◌, sym, ap, subst, refl, ◌∙◌, None, Some, slice_get, IfOk}
use Rattle.std.specs.Option.{option_flatten}
use Rattle.peer_words.specs.CallMessage.{prepared_reply}
use Rattle.peer_route.specs.Plan.{sends, given_last}
use Rattle.peer_route.proofs.Given.{last_given}
use Rattle.peer_conn.specs.Invariant.{PeerStateView, StateInvariant, Did}
use Rattle.peer_conn.proofs.Posted.{reply_named}
use Rattle.peer_conn.proofs.state.PeerState.reply.Goals as goal

pub returns-clause-did : goal.returns-clause-did
returns-clause-did c t s =
    let before : StateInvariant _ t = subst (λ v. StateInvariant v t) (sym c.self.view_is) s in
    let after : PeerStateView = record { core = c.put.new.route; calls = c.self.inside.calls; streams = c.self.inside.streams; server = c.self.inside.server; handles = c.self.inside.handles.items; makes = c.self.inside.makes; given = c.self.inside.given.items } in
    let said : Some c.in-Some.message.now ≡ given_last t.past c.args.stream =
    c.in-Some.ensures ∙ ap (λ gs. option_flatten (slice_get gs c.args.stream)) (c.as_slice.ensures.value ∙ before.keeps.given) ∙ last_given t.past c.args.stream in
    let outgoing = c.reply_message-outgoing.ensures in
    subst (λ m. IfOk c.put.result (Did after t c.args.lane (sends t c.args.lane (prepared_reply t.past.name m c.args.body.now)))) said
    (subst (λ asked. IfOk c.put.result (Did after t c.args.lane (sends t c.args.lane asked))) (reply_named t.past.name (Some c.in-Some.message.now) c.args.body.now)
    (c.put.ensures t after (prepared_reply None (Some c.in-Some.message.now) c.args.body.now) refl before.keeps.left before.keeps.held before.keeps.given before.calls outgoing.makes (outgoing.carried t.setting.takes_fds)))
