use Rattle.peer_core.specs.{History.{calls_of, after_all}, Asked.poll_events, Refinement.{RouteView, Refines}}
use Rattle.std.proofs.Common.{sym, subst}
use Rattle.peer_calls.specs.Refinement.{RefinesCalls}
use Rattle.peer_core.proofs.Core.{left_polled}
use Rattle.peer_core.proofs.route.Route.poll.Goals as goal

pub returns-clause-left : goal.returns-clause-left
returns-clause-left c h left =
    let P : RouteView → Type 0 = λ v. RefinesCalls v.calls (calls_of h) in
    let Q : RouteView → Type 0 = λ v. Refines (record v { calls = c.poll.new.self }) (after_all (poll_events c.args.call c.poll.result) h) in
    subst Q (sym c.self.view_is)
    (left_polled c.args.self.now c.poll.new.self c.args.call c.poll.result h left (c.poll.ensures.left (calls_of h) (subst P (sym c.self.view_is) left.calls)))
