-- The stream's queue and the closing error say what it gives.
use Rattle.peer_core.specs.{History.streams_of, Refinement.{RouteView, Refines}}
use Rattle.std.proofs.Common.{sym, ◌∙◌, subst}
use Rattle.peer_core.proofs.Core.{left_taken}
use Rattle.peer_core.proofs.route.Route.take.Goals as goal

pub returns-clause-answer : goal.returns-clause-answer
returns-clause-answer c h left =
    let was = subst (λ (v : RouteView). Refines v h) (sym c.self.view_is) left in
    rw c.number.ensures at (c.take.ensures.gives (streams_of h) was.streams (c.closing.ensures ∙ was.calls.closing))

pub returns-clause-left : goal.returns-clause-left
returns-clause-left c h left =
    let was = subst (λ (v : RouteView). Refines v h) (sym c.self.view_is) left in
    left_taken _ c.take.new.self c.args.stream.now c.take.result h was (rw c.number.ensures at (c.take.ensures.left (streams_of h) was.streams))
