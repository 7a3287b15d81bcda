use Rattle.std.proofs.Common.{◌≡◌, sym, ◌∙◌, ap, subst, drop, length}
use Rattle.peer_conn.specs.{Invariant.{PeerStateView}, Going.Going}
use Rattle.peer_conn.proofs.Begun.{begun, begun_entry}
use Rattle.peer_conn.proofs.state.PeerState.begin.Goals as goal

pub returns-clause-going : goal.returns-clause-going
returns-clause-going c t s takes known =
    let a = c.in_ok-answer.field-0 in
    let words : c.in_ok-words.words ≡ c.args.command.now.words = c.in_ok-words.ensures in
    let did = c.in_ok-answer.ensures.did t s takes known in
    let rest = c.in_ok-answer.ensures.rest in
    let put : c.in_ok-put.put ≡ drop (length c.args.self.now.core.outbox) c.act.new.self.core.outbox =
    c.in_ok-put.ensures ∙ ap (λ n. drop n c.act.new.self.core.outbox) (c.outbox_len-before.ensures ∙ ap (λ (v : PeerStateView). length v.core.outbox) c.self.view_is) in
    let is = begun c.args.self.now c.act.new.self t c.args.command.now.lane c.args.command.now.words a c.in_ok-put.put s rest.0 rest.1 rest.2 put did in
    let now = ap (λ (v : PeerStateView). record v { makes = a.makes }) (sym c.self-2.view_is) in
    rw (words) (subst (λ (v : PeerStateView). Going v t (begun_entry c.args.command.now.lane c.args.command.now.words a.answer c.in_ok-put.put)) now is)
