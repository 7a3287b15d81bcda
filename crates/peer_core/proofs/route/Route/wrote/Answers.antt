use Rattle.std.proofs.Common.{sym, subst, ◌+◌}
use Rattle.peer_core.specs.{History.{Wrote, after}, Refinement.{RouteView, Refines}}
use Rattle.peer_core.proofs.Core.{left_wrote}
use Rattle.peer_core.proofs.route.Route.wrote.Goals as goal

pub returns-clause-left : goal.returns-clause-left
returns-clause-left c h left =
    let P : RouteView → Type 0 = λ v. Refines (record v { done = v.done + 1 }) (after Wrote h) in
    subst P (sym c.self.view_is) (left_wrote c.args.self.now h left)
