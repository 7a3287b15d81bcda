-- They were handed in, and are closed now, though the bus may not be told.
use Rattle.std.proofs.Common.{◌≡◌, ◌-◌, sym, ap, subst, refl, ◌∙◌, length, Some}
use Rattle.peer_route.specs.{Entries.unsent, Plan.ends}
use Rattle.peer_conn.specs.{Handles.handed_back, Invariant.{PeerStateView, HandedIn, forgotten}}
use Rattle.peer_conn.proofs.{Quietly.answers_did, RuleStreams.{gone_did, over_did}}
use Rattle.peer_conn.proofs.state.PeerState.close_streams.Goals as goal

pub returns-in-Gone-clause-did : goal.returns-in-Gone-clause-did
returns-in-Gone-clause-did c t lane handed =
    let k = c.args.first in
    let j = c.args.second in
    let in_ : HandedIn _ t k j = subst (λ v. HandedIn v t k j) (sym c.self.view_is) handed in
    let was : PeerStateView = record { core = c.self.inside.route; calls = c.self.inside.calls; streams = c.self.inside.streams; server = c.self.inside.server; handles = handed_back k j c.self.inside.handles.items; given = c.self.inside.given.items; makes = c.self.inside.makes } in
    let now : PeerStateView = record { core = c.close_stream.new.self; calls = c.self.inside.calls; streams = c.self.inside.streams; server = c.self.inside.server; makes = c.self.inside.makes; handles = c.self.inside.handles.items; given = forgotten k j c.self.inside.given.items } in
    let own : c.saturating_sub.result ≡ length now.core.outbox - length c.self.inside.route.outbox =
    c.saturating_sub.ensures ∙ ap (λ n. n - c.outbox_len-before.result) (c.outbox_len.ensures ∙ ap (λ (v : PeerStateView). length v.core.outbox) (c.self-in-Gone.view_is ∙ c.forget.ensures))
    ∙ ap (λ n. length c.close_stream.new.self.outbox - n) c.outbox_len-before.ensures in
    rw (c.forget.ensures, c.number-stream.ensures, c.number_of-other.ensures) (gone_did was now t lane k j c.in-Gone.last c.saturating_sub.result in_.stands in_.spent refl own (c.in-Gone.ensures.closes t.past in_.stands.keeps.left))

pub returns-in-Over-clause-did : goal.returns-in-Over-clause-did
returns-in-Over-clause-did c t lane handed =
    let k = c.args.first in
    let j = c.args.second in
    let in_ : HandedIn _ t k j = subst (λ v. HandedIn v t k j) (sym c.self.view_is) handed in
    let was : PeerStateView = record { core = c.self.inside.route; calls = c.self.inside.calls; streams = c.self.inside.streams; server = c.self.inside.server; handles = handed_back k j c.self.inside.handles.items; given = c.self.inside.given.items; makes = c.self.inside.makes } in
    let now : PeerStateView = record { core = c.close_stream.new.self; calls = c.self.inside.calls; streams = c.self.inside.streams; server = c.self.inside.server; makes = c.self.inside.makes; handles = c.self.inside.handles.items; given = forgotten k j c.self.inside.given.items } in
    rw (c.forget-in-Over.ensures, c.number-stream.ensures, c.number_of-other.ensures)
    (answers_did unsent now t lane (ends t.past k (Some j)) c.in-Over.error c.unsent.result c.unsent.ensures
    (λ never. over_did was now t lane k j c.in-Over.error in_.stands in_.there in_.spent refl (c.in-Over.ensures.closes t.past in_.stands.keeps.left)))
