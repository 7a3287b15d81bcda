-- A stream more that holds nothing.
use Rattle.peer_core.specs.{History.streams_of, Refinement.{RouteView, Refines}}
use Rattle.std.proofs.Common.{sym, ◌∙◌, ap, is_some, subst}
use Rattle.peer_streams.specs.History.{Plain}
use Rattle.peer_streams.proofs.StreamsMade.{on_ok}
use Rattle.peer_core.proofs.Core.{left_made}
use Rattle.peer_core.proofs.route.Route.open.Goals as goal

pub returns-clause-left : goal.returns-clause-left
returns-clause-left c = on_ok c.open.result _ _ (λ made h left.
    let was = subst (λ (v : RouteView). Refines v h) (sym c.self.view_is) left in
    left_made _ c.open.new.self Plain h was (made (streams_of h) was.streams (c.is_some-closing_delivered.ensures ∙ ap is_some (c.closing.ensures ∙ was.calls.closing)))) c.open.ensures.ok
