-- The bus serves the rule, and no other stream has it.
use Rattle.std.proofs.Common.{sym, ◌∙◌, subst}
use Rattle.peer_core.specs.{History.streams_of, Refinement.{RouteView, Refines}}
use Rattle.peer_calls.proofs.Index.{open_none}
use Rattle.peer_core.proofs.Leavings.{tell_so}
use Rattle.peer_core.proofs.route.Route.must_tell.Goals as goal

pub returns : goal.returns
returns c h left =
    let was = subst (λ (v : RouteView). Refines v h) (sym c.self.view_is) left in
    tell_so c.args.before c.args.stream c.args.rule.now h c.rule_in_use.result
    (sym was.calls.closing ∙ sym c.closing.ensures ∙ open_none c.closing.result (sym c.is_some.ensures ∙ c.if-is_some.false))
    (sym (c.if-not-serves.ensures h left)) (c.rule_in_use.ensures (streams_of h) was.streams)
