-- What is kept of the rule has its streams.
use Rattle.std.proofs.{Common.{ℕ, List, sym, ap, subst, ◌∙◌, not, ◌||◌, false, is_some, Option, Some, None, IsSome}, lemmas.Bool.false≢true}
use Rattle.std.specs.{List.list_any, Option.{option_map, option_and_then, unwrap_or}}
use Rattle.wire_message.specs.Replying.{is_serial}
use Rattle.peer_lists.specs.Holdings.{held_by}
use Rattle.peer_streams.specs.{Names.{MessageView, Subscription}}
use Rattle.peer_streams.proofs.{SubscribedSteps.kept_of}
use Rattle.peer_streams.proofs.subscriptions.Subscriptions.has_other.Goals as goal

pub returns-in-Some-clause-any : goal.returns-in-Some-clause-any
returns-in-Some-clause-any c =
    c.has_other.ensures.any ∙ sym (ap (λ o. unwrap_or (option_map (λ (s : Subscription). list_any (λ (e : ℕ × Option (List MessageView)). not (is_serial c.args.one e.0 || is_serial c.args.before e.0)) s.list) o) false) (kept_of c.self.inside.rules.entries c.args.self.now c.self.view_is c.args.rule.now (Some c.in-Some.found.now) c.in-Some.ensures.value))

pub returns-in-Some-clause-other : goal.returns-in-Some-clause-other
returns-in-Some-clause-other c = λ yes. let h = c.has_other.ensures.other yes in (h.0, subst IsSome (sym (ap (option_and_then (λ (s : Subscription). held_by s.list h.0)) (kept_of c.self.inside.rules.entries c.args.self.now c.self.view_is c.args.rule.now (Some c.in-Some.found.now) c.in-Some.ensures.value))) h.1, h.2)

pub returns-in-Some-clause-no_other : goal.returns-in-Some-clause-no_other
returns-in-Some-clause-no_other c = λ no k some. c.has_other.ensures.no_other no k (subst IsSome (ap (option_and_then (λ (s : Subscription). held_by s.list k)) (kept_of c.self.inside.rules.entries c.args.self.now c.self.view_is c.args.rule.now (Some c.in-Some.found.now) c.in-Some.ensures.value)) some)

pub returns-in-None-clause-any : goal.returns-in-None-clause-any
returns-in-None-clause-any c =
    sym (ap (λ o. unwrap_or (option_map (λ (s : Subscription). list_any (λ (e : ℕ × Option (List MessageView)). not (is_serial c.args.one e.0 || is_serial c.args.before e.0)) s.list) o) false) (kept_of c.self.inside.rules.entries c.args.self.now c.self.view_is c.args.rule.now (None) c.in-None.ensures.value))

pub returns-in-None-clause-no_other : goal.returns-in-None-clause-no_other
returns-in-None-clause-no_other c = λ no k some. absurd (false≢true (sym (ap is_some (ap (option_and_then (λ (s : Subscription). held_by s.list k)) (kept_of c.self.inside.rules.entries c.args.self.now c.self.view_is c.args.rule.now (None) c.in-None.ensures.value))) ∙ some))
