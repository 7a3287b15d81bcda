-- The main capacity is set.
use Rattle.std.proofs.Common.{sym, subst}
use Rattle.peer_core.specs.{History.{Main, after}, Refinement.{RouteView, Refines}}
use Rattle.peer_core.proofs.Core.{left_main}
use Rattle.peer_core.proofs.route.Route.set_main_max_queued.Goals as goal

pub returns : goal.returns
returns c h left =
    let Q : RouteView → Type 0 = λ v. Refines (record v { main = c.args.max }) (after (Main c.args.max) h) in
    subst Q (sym c.self.view_is) (left_main c.args.self.now c.args.max h left)
