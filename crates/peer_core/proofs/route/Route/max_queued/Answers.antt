-- The capacity that is kept with the stream's rule, or the main one.
use Rattle.peer_core.specs.{History.streams_of, Refinement.{RouteView, Refines}}
use Rattle.std.proofs.Common.{sym, ◌∙◌, subst}
use Rattle.peer_core.proofs.route.Route.max_queued.Goals as goal

pub returns : goal.returns
returns c h left =
    let was = subst (λ (v : RouteView). Refines v h) (sym c.self.view_is) left in
    c.ok_or.ensures.value ∙ rw c.number.ensures at (c.limit.ensures (streams_of h) was.streams was.main)
