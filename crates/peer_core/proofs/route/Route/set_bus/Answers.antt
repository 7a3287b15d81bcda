-- The peer stands on a bus.
use Rattle.std.proofs.Common.{sym, subst, true}
use Rattle.peer_core.specs.{History.{OnBus, after}, Refinement.{RouteView, Refines}}
use Rattle.peer_core.proofs.Openings.{left_bus}
use Rattle.peer_core.proofs.route.Route.set_bus.Goals as goal

pub returns : goal.returns
returns c h left =
    let Q : RouteView → Type 0 = λ v. Refines (record v { bus = true }) (after OnBus h) in
    subst Q (sym c.self.view_is) (left_bus c.args.self.now h left)
