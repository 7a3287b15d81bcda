-- What is kept of the stream says whether it is over.
use Rattle.peer_core.specs.{History.streams_of, Refinement.{RouteView, Refines}}
use Rattle.std.proofs.Common.{sym, ◌∙◌, ap, is_some, subst}
use Rattle.peer_core.proofs.route.Route.is_terminated.Goals as goal

pub returns : goal.returns
returns c h left =
    let was = subst (λ (v : RouteView). Refines v h) (sym c.self.view_is) left in
    rw c.number.ensures at (c.is_terminated.ensures (streams_of h) was.streams (c.is_some-closed.ensures ∙ ap is_some (c.closing.ensures ∙ was.calls.closing)))
