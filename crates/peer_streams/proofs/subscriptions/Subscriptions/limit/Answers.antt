-- What is kept of the rule has its capacity.
use Rattle.std.proofs.Common.{sym, ap, Some, None}
use Rattle.std.specs.Option.{option_map, unwrap_or}
use Rattle.peer_streams.specs.{Names.Subscription}
use Rattle.peer_streams.proofs.{SubscribedSteps.kept_of}
use Rattle.peer_streams.proofs.subscriptions.Subscriptions.limit.Goals as goal

pub returns-in-Some : goal.returns-in-Some
returns-in-Some c = sym (ap (λ o. unwrap_or (option_map (λ (s : Subscription). s.limit) o) 0) (kept_of c.self.inside.rules.entries c.args.self.now c.self.view_is c.args.rule.now (Some c.in-Some.found.now) c.in-Some.ensures.value))

pub returns-in-None : goal.returns-in-None
returns-in-None c = sym (ap (λ o. unwrap_or (option_map (λ (s : Subscription). s.limit) o) 0) (kept_of c.self.inside.rules.entries c.args.self.now c.self.view_is c.args.rule.now (None) c.in-None.ensures.value))
