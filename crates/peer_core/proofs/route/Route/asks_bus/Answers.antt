-- The bus serves the rule, and no stream has it.
use Rattle.std.proofs.Common.{refl, sym, ◌∙◌, subst, true, false}
use Rattle.peer_core.specs.{History.streams_of, Refinement.{RouteView, Refines}}
use Rattle.peer_streams.specs.History.{is_subscribed}
use Rattle.peer_core.proofs.Leavings.{asks_so}
use Rattle.peer_core.proofs.route.Route.asks_bus.Goals as goal

pub returns-then-serves : goal.returns-then-serves
returns-then-serves c h left =
    let was = subst (λ (v : RouteView). Refines v h) (sym c.self.view_is) left in
    asks_so h c.args.rule.now true c.has_rule.result (sym c.if-serves.true ∙ c.serves.ensures h left) (c.has_rule.ensures (streams_of h) was.streams)

pub returns-else-serves : goal.returns-else-serves
returns-else-serves c h left = c.if-serves.false ∙ asks_so h c.args.rule.now false (is_subscribed h.read h.streams c.args.rule.now) (sym c.if-serves.false ∙ c.serves.ensures h left) refl
