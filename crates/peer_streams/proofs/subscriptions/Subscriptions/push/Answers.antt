-- What each rule's streams hold has the message where the rule accepts it, or is as before.
use Rattle.std.proofs.{Common.{◌∙◌, ap, if◌then◌else◌, option_map}, lemmas.Result.{on_ok_weaker, on_err_weaker}}
use Rattle.peer_lists.specs.Holdings.{with_message}
use Rattle.peer_streams.specs.{Names.accepts, Subscriptions.{limit_in, held_in}}
use Rattle.peer_streams.proofs.{SubscribedPasses.{taken_held, before_held, pushed_limits, pushed_used}, SubscribedSteps.used_of}
use Rattle.peer_streams.proofs.subscriptions.Subscriptions.push.Goals as goal

pub invariant_of-self : goal.invariant_of-self
invariant_of-self g c = record {
  apart = c.count_full-self-inside.ensures.distinct;
  used = pushed_used c.push_all-pushed.result c.args.message.now c.self.inside.rules.entries c.push_all-pushed.new.rules.entries c.push_all-pushed.ensures.err c.push_all-pushed.ensures.ok c.self.invariant.used;
  told = c.count_full-self-inside.ensures.most;
  counted = c.count_full-self-inside.ensures.count;
}

pub returns-clause-used : goal.returns-clause-used
returns-clause-used g c = used_of c.self.inside.rules.entries c.args.self.now c.self.inside.full c.self.invariant c.self.view_is

pub returns-clause-limits : goal.returns-clause-limits
returns-clause-limits g c =
    λ r. pushed_limits c.push_all-pushed.result c.args.message.now c.self.inside.rules.entries c.push_all-pushed.new.rules.entries c.push_all-pushed.ensures.err c.push_all-pushed.ensures.ok r
    ∙ ap (λ v. limit_in v r) c.self.view_is

pub returns-clause-err : goal.returns-clause-err
returns-clause-err g c =
    on_err_weaker c.push_all-pushed.result (λ z r k. before_held c.self.inside.rules.entries c.push_all-pushed.new.rules.entries z r k ∙ ap (λ v. held_in v r k) c.self.view_is) c.push_all-pushed.ensures.err

pub returns-clause-ok : goal.returns-clause-ok
returns-clause-ok g c =
    on_ok_weaker c.push_all-pushed.result
    (λ z r k. taken_held c.args.message.now c.self.inside.rules.entries c.push_all-pushed.new.rules.entries z r k
    ∙ ap (λ v. if accepts r c.args.message.now then option_map (with_message c.args.message.now) (held_in v r k) else held_in v r k) c.self.view_is)
    c.push_all-pushed.ensures.ok
