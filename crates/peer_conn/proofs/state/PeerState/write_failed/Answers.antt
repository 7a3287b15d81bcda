use Rattle.std.proofs.Common.{sym, subst, true}
use Rattle.peer_route.specs.{Plan.plan, Entries.{past_after, write_fault}}
use Rattle.peer_conn.specs.{Invariant.PeerStateView, Going.Going}
use Rattle.peer_conn.proofs.{Laid.plan_does, Written.going_failed}
use Rattle.peer_conn.proofs.state.PeerState.write_failed.Goals as goal

pub returns-clause-going : goal.returns-clause-going
returns-clause-going c t g none =
    let e = c.args.entry.now in
    let pl = plan t e.lane e.words in
    subst (λ (v : PeerStateView). Going v t (record e { failed = true; answer = write_fault })) (sym c.fail_rest.ensures.rest)
    (going_failed c.args.self.now t pl e c.fail_rest.new.self.core (plan_does t e.lane e.words) g none c.requires.may.0 c.requires.may.1 (c.fail_rest.ensures.left (past_after pl e t.past) g.keeps.left))
