-- What is kept of the stream has its first message.
use Rattle.peer_core.specs.{History.streams_of, Refinement.{RouteView, Refines}}
use Rattle.std.proofs.Common.{sym, subst}
use Rattle.peer_core.proofs.route.Route.next_message.Goals as goal

pub returns : goal.returns
returns c h left = rw c.number.ensures at (c.next_message.ensures (streams_of h) (subst (λ (v : RouteView). Refines v h) (sym c.self.view_is) left).streams)
