-- A stream more that holds what the other holds, or none.
use Rattle.peer_core.specs.{History.streams_of, Refinement.{RouteView, Refines}}
use Rattle.std.proofs.Common.{sym, subst}
use Rattle.peer_core.proofs.Core.{left_cloned}
use Rattle.peer_core.proofs.route.Route.clone_stream.Goals as goal

pub returns : goal.returns
returns c h left =
    let was = subst (λ (v : RouteView). Refines v h) (sym c.self.view_is) left in
    let k = c.args.stream.now in
    rw (sym c.self.view_is) (left_cloned _ c.open_clone.new.self k c.open_clone.result h was (rw c.number.ensures at (c.open_clone.ensures (streams_of h) was.streams)))
