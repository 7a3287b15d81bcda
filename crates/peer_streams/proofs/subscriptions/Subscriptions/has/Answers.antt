-- A rule is subscribed exactly where something is kept of it; then it has a stream.
use Rattle.std.proofs.Common.{◌∙◌, sym}
use Rattle.peer_streams.proofs.{SubscribedSteps.{is_kept, used_of}}
use Rattle.peer_streams.proofs.subscriptions.Subscriptions.has.Goals as goal

pub returns-clause-has : goal.returns-clause-has
returns-clause-has c = c.contains_key.ensures ∙ is_kept c.self.inside.rules.entries c.args.self.now c.self.view_is c.args.rule.now

pub returns-clause-used : goal.returns-clause-used
returns-clause-used c =
    λ yes. used_of c.self.inside.rules.entries c.args.self.now c.self.inside.full c.self.invariant c.self.view_is c.args.rule.now
    (sym (c.contains_key.ensures ∙ is_kept c.self.inside.rules.entries c.args.self.now c.self.view_is c.args.rule.now) ∙ yes)
