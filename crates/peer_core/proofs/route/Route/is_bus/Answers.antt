use Rattle.std.proofs.Common.{◌∙◌, ap}
use Rattle.peer_core.specs.Refinement.{RouteView}
use Rattle.peer_core.proofs.route.Route.is_bus.Goals as goal

pub returns : goal.returns
returns c h left = ap (λ (v : RouteView). v.bus) c.self.view_is ∙ left.bus
