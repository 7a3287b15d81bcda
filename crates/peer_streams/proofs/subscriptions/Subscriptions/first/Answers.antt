-- What is kept of the rule has what its streams hold.
use Rattle.std.proofs.Common.{sym, ap, ◌∙◌, Some, None}
use Rattle.std.specs.Option.{option_map, option_and_then}
use Rattle.peer_lists.specs.Holdings.{held_by}
use Rattle.peer_streams.specs.{Names.Subscription, Subscriptions.first_held}
use Rattle.peer_streams.proofs.{SubscribedSteps.kept_of}
use Rattle.peer_streams.proofs.subscriptions.Subscriptions.first.Goals as goal

pub returns-in_err-get : goal.returns-in_err-get
returns-in_err-get c =
    ap (option_map (λ m. m.now)) c.from_residual.ensures
    ∙ sym (ap first_held (ap (option_and_then (λ (s : Subscription). held_by s.list c.args.stream)) (kept_of c.self.inside.rules.entries c.args.self.now c.self.view_is c.args.rule.now (None) c.in_err-get.ensures.value)))

pub returns : goal.returns
returns c =
    c.first.ensures ∙ sym (ap first_held (ap (option_and_then (λ (s : Subscription). held_by s.list c.args.stream)) (kept_of c.self.inside.rules.entries c.args.self.now c.self.view_is c.args.rule.now (Some c.in_ok-get.field-0.now) c.in_ok-get.ensures.value)))
