-- Streams are asked only on an open peer.
use Rattle.std.proofs.Common.{sym, ◌∙◌, ap, is_some}
use Rattle.std.specs.List.{list_any}
use Rattle.peer_core.specs.Refinement.{RouteView}
use Rattle.peer_streams.specs.Refinement.{is_over}
use Rattle.peer_core.proofs.{Core.busy_left, Drops.{busy_open, busy_shut}}
use Rattle.peer_core.proofs.route.Route.busy.Goals as goal

pub returns-then-is_none-clause-view : goal.returns-then-is_none-clause-view
returns-then-is_none-clause-view c =
    busy_open c.args.self.now c.is_over.result
    (ap (λ (v : RouteView). is_some v.calls.closing) (sym c.self.view_is) ∙ ap is_some (sym c.closing.ensures) ∙ c.if-is_none.ensures)
    (c.is_over.ensures ∙ ap (λ (v : RouteView). list_any (is_over v.main) v.streams) c.self.view_is)

pub returns-then-is_none-clause-busy : goal.returns-then-is_none-clause-busy
returns-then-is_none-clause-busy c h left = returns-then-is_none-clause-view c ∙ busy_left c.args.self.now h left

pub returns-else-is_none-clause-view : goal.returns-else-is_none-clause-view
returns-else-is_none-clause-view c =
    busy_shut c.args.self.now c.is_none.result
    (ap (λ (v : RouteView). is_some v.calls.closing) (sym c.self.view_is) ∙ ap is_some (sym c.closing.ensures) ∙ c.if-is_none.ensures)
    c.if-is_none.false

pub returns-else-is_none-clause-busy : goal.returns-else-is_none-clause-busy
returns-else-is_none-clause-busy c h left = returns-else-is_none-clause-view c ∙ busy_left c.args.self.now h left
