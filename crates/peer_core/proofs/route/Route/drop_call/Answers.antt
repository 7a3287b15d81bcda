use Rattle.peer_core.specs.{History.{calls_of, after_all}, Asked.drop_events, Refinement.{RouteView, Refines}}
use Rattle.std.proofs.Common.{sym, subst}
use Rattle.peer_calls.specs.Refinement.{RefinesCalls}
use Rattle.peer_core.proofs.Drops.{left_dropped}
use Rattle.peer_core.proofs.route.Route.drop_call.Goals as goal

pub returns-clause-left : goal.returns-clause-left
returns-clause-left c h left =
    let P : RouteView → Type 0 = λ v. RefinesCalls v.calls (calls_of h) in
    let Q : RouteView → Type 0 = λ v. Refines (record v { calls = c.drop_call.new.self }) (after_all (drop_events c.args.call c.drop_call.result) h) in
    subst Q (sym c.self.view_is)
    (left_dropped c.args.self.now c.drop_call.new.self c.args.call c.drop_call.result h left (c.drop_call.ensures.left (calls_of h) (subst P (sym c.self.view_is) left.calls)))
