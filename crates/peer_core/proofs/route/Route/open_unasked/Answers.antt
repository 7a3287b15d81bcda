-- A stream more of the rule that holds nothing.
use Rattle.peer_core.specs.{History.streams_of, Refinement.{RouteView, Refines}}
use Rattle.std.proofs.Common.{sym, ◌∙◌, ap, is_some, subst}
use Rattle.peer_streams.specs.History.{Ruled}
use Rattle.peer_streams.proofs.StreamsMade.{on_ok}
use Rattle.peer_core.proofs.Core.{left_made}
use Rattle.peer_core.proofs.route.Route.open_unasked.Goals as goal

pub returns-clause-left : goal.returns-clause-left
returns-clause-left c = on_ok c.open_rule.result _ _ (λ made h left.
    let was = subst (λ (v : RouteView). Refines v h) (sym c.self.view_is) left in
    left_made _ c.open_rule.new.self (Ruled c.args.rule c.args.max_queued) h was
    (made (streams_of h) was.streams (c.is_some-closing_delivered.ensures ∙ ap is_some (c.closing.ensures ∙ was.calls.closing)))) c.open_rule.ensures.ok
