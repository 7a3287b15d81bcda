-- The core keeps the main capacity.
use Rattle.std.proofs.Common.{◌∙◌, ap}
use Rattle.peer_core.specs.Refinement.{RouteView}
use Rattle.peer_core.proofs.route.Route.main_max_queued.Goals as goal

pub returns : goal.returns
returns c h left = ap (λ (v : RouteView). v.main) c.self.view_is ∙ left.main
