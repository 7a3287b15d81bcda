use Rattle.peer_core.specs.{History.{calls_of, PeerClosed, after}, Refinement.{RouteView, Refines}}
use Rattle.std.proofs.Common.{sym, subst}
use Rattle.peer_calls.specs.{History.{worse, shuts}, Refinement.RefinesCalls}
use Rattle.peer_core.proofs.Core.{left_shut}
use Rattle.peer_core.proofs.route.Route.close.Goals as goal

pub returns : goal.returns
returns c h left =
    let P : RouteView → Type 0 = λ v. RefinesCalls v.calls (calls_of h) in
    let Q : RouteView → Type 0 = λ v. Refines (record v { calls = c.fail_all.new.self; writer = worse v.writer (shuts c.args.error.now) }) (after (PeerClosed c.args.error.now) h) in
    rw (c.then-self-inside.ensures, c.of.ensures) (subst Q (sym c.self.view_is)
    (left_shut c.args.self.now c.fail_all.new.self c.args.error.now h left (c.fail_all.ensures (calls_of h) (subst P (sym c.self.view_is) left.calls))))
