-- What is kept of the rule has what its streams hold.
use Rattle.std.proofs.{Common.{sym, ap, ◌∙◌, Some, None}, lemmas.Option.none-some}
use Rattle.std.specs.Option.{option_and_then}
use Rattle.peer_lists.specs.Holdings.{held_by}
use Rattle.peer_streams.specs.{Names.Subscription}
use Rattle.peer_streams.proofs.{SubscribedSteps.kept_of}
use Rattle.peer_streams.proofs.subscriptions.Subscriptions.most.Goals as goal

pub returns-in-Some-clause-within : goal.returns-in-Some-clause-within
returns-in-Some-clause-within c = λ k ms held. c.most.ensures.within k ms (sym (ap (option_and_then (λ (s : Subscription). held_by s.list k)) (kept_of c.self.inside.rules.entries c.args.self.now c.self.view_is c.args.rule.now (Some c.in-Some.found.now) c.in-Some.ensures.value)) ∙ held)

pub returns-in-Some-clause-reached : goal.returns-in-Some-clause-reached
returns-in-Some-clause-reached c = λ some. let h = c.most.ensures.reached some in (h.0, h.1, ap (option_and_then (λ (s : Subscription). held_by s.list h.0)) (kept_of c.self.inside.rules.entries c.args.self.now c.self.view_is c.args.rule.now (Some c.in-Some.found.now) c.in-Some.ensures.value) ∙ h.2, h.3)

pub returns-in-None-clause-within : goal.returns-in-None-clause-within
returns-in-None-clause-within c = λ k ms held. absurd (none-some (Some ms) (sym (ap (option_and_then (λ (s : Subscription). held_by s.list k)) (kept_of c.self.inside.rules.entries c.args.self.now c.self.view_is c.args.rule.now (None) c.in-None.ensures.value)) ∙ held))
