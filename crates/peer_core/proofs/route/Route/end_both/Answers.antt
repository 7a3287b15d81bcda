-- The second stream goes after the first.
use Rattle.peer_core.specs.{History.{streams_of, Did, after}, Refinement.RouteView}
use Rattle.std.proofs.Common.{sym, ap, subst}
use Rattle.peer_streams.specs.{History.Gone, Refinement.RefinesStreams}
use Rattle.peer_core.proofs.Leavings.{gone_both}
use Rattle.peer_core.proofs.route.Route.end_both.Goals as goal

pub returns-in-Some-clause-streams : goal.returns-in-Some-clause-streams
returns-in-Some-clause-streams c h left =
    let kept = subst (λ qs. RefinesStreams qs (streams_of h)) (sym (ap (λ (v : RouteView). v.streams) c.self.view_is)) left in
    subst (λ o. RefinesStreams c.end-in-Some.new.self (streams_of (gone_both c.args.stream o h))) (sym c.in-Some.is) (c.end-in-Some.ensures (streams_of (after (Did c.args.stream Gone) h)) (c.end.ensures (streams_of h) kept))

pub returns-in_default-clause-streams : goal.returns-in_default-clause-streams
returns-in_default-clause-streams c h left =
    let kept = subst (λ qs. RefinesStreams qs (streams_of h)) (sym (ap (λ (v : RouteView). v.streams) c.self.view_is)) left in
    subst (λ o. RefinesStreams c.end.new.self (streams_of (gone_both c.args.stream o h))) (sym c.in_default.is) (c.end.ensures (streams_of h) kept)
