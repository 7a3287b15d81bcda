use Rattle.std.proofs.Common.{◌≡◌, sym, ◌∙◌, ap, subst, arith, length}
use Rattle.peer_core.specs.Refinement.{RouteView}
use Rattle.peer_route.specs.{Plan.plan, Entries.past_after}
use Rattle.peer_conn.specs.{Names.Writer, Invariant.PeerStateView, Going.Going}
use Rattle.peer_conn.proofs.Written.{may_write, going_wrote}
use Rattle.peer_conn.proofs.state.PeerState.wrote.Goals as goal

pub wrote-requires-clause-there : goal.wrote-requires-clause-there
wrote-requires-clause-there c =
    let core : c.self.inside.route ≡ c.args.self.now.core = ap (λ (v : PeerStateView). v.core) c.self.view_is in
    let may = may_write c.args.self.now c.args.entry.now c.requires.may in
    let done : c.outbox_done.result ≡ c.args.self.now.core.done = c.outbox_done.ensures ∙ ap (λ (v : RouteView). v.done) core in
    let long : length c.self.inside.route.outbox ≡ length c.args.self.now.core.outbox = ap (λ (v : RouteView). length v.outbox) core in
    omega (arith, may.0, done, long)

pub wrote-requires-clause-unfailed : goal.wrote-requires-clause-unfailed
wrote-requires-clause-unfailed c = λ failed.
    let core : c.self.inside.route ≡ c.args.self.now.core = ap (λ (v : PeerStateView). v.core) c.self.view_is in
    let may = may_write c.args.self.now c.args.entry.now c.requires.may in
    let no : Writer.Failed ≡ Writer.Fine = sym failed ∙ ap (λ (v : RouteView). v.writer) core ∙ may.1 in
    absurd (cc)

pub returns-clause-going : goal.returns-clause-going
returns-clause-going c t g none =
    let e = c.args.entry.now in
    let pl = plan t e.lane e.words in
    let before : Going _ t e = subst (λ v. Going v t e) (sym c.self.view_is) g in
    rw (c.one_more-entry.ensures)
    (going_wrote _ t pl e c.wrote.new.self before none c.requires.may.0 c.requires.may.1 (c.wrote.ensures.left (past_after pl e t.past) before.keeps.left))
