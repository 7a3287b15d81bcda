-- Something is kept of each stream that is open.
use Rattle.peer_core.specs.{History.streams_of, Asked.are_open, Refinement.{RouteView, Refines}}
use Rattle.std.proofs.Common.{sym, ◌∙◌, ap, subst}
use Rattle.peer_core.proofs.route.Route.are_open.Goals as goal

pub returns-in-Some : goal.returns-in-Some
returns-in-Some c h left =
    let was = subst (λ (v : RouteView). Refines v h) (sym c.self.view_is) left in
    c.are_two.ensures (streams_of h) was.streams ∙ ap (are_open h c.args.stream) (sym c.in-Some.is)

pub returns-in-None : goal.returns-in-None
returns-in-None c h left =
    let was = subst (λ (v : RouteView). Refines v h) (sym c.self.view_is) left in
    c.is_open.ensures (streams_of h) was.streams ∙ ap (are_open h c.args.stream) (sym c.in-None.is)
