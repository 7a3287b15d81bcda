-- What the rule's stream holds loses its first message, where the rule is subscribed.
use Rattle.std.proofs.Common.{refl, sym, ap, ◌∙◌, option_map}
use Rattle.std.specs.Option.{option_and_then}
use Rattle.peer_lists.specs.Holdings.{held_by, without_first}
use Rattle.peer_streams.specs.{Names.Subscription, Subscriptions.first_held}
use Rattle.peer_streams.proofs.{SubscribedLookups.{limits_same, held_changed}, SubscribedSteps.{not_kept, missing_held, changes, count_step, had_stream, kept_step, has_stream, some_mapped}}
use Rattle.peer_streams.proofs.subscriptions.Subscriptions.take.Goals as goal

pub returns-in_err-found-clause-gives : goal.returns-in_err-found-clause-gives
returns-in_err-found-clause-gives c =
    c.from_residual.ensures ∙ sym (ap (λ o. first_held (option_and_then (λ (s : Subscription). held_by s.list c.args.stream) o)) (not_kept c.self.inside.rules c.args.self.now c.args.rule.now c.self.view_is c.in_err-found.ensures.value))

pub returns-in_err-found-clause-held : goal.returns-in_err-found-clause-held
returns-in_err-found-clause-held c = missing_held c.self.inside.rules c.args.self.now c.args.rule.now c.self.view_is c.in_err-found.ensures.value c.get_mut.follows.lender-at-none c.get_mut.follows.holds-at-none c.args.stream (λ r. option_map without_first) (λ r e. refl)

pub recount-self-inside-requires : goal.recount-self-inside-requires
recount-self-inside-requires c =
    let w : Subscription = record { limit = c.in_ok-found.found.now.limit; list = c.take-message.new.self; accepted = c.in_ok-found.found.now.accepted } in
    count_step c.self.inside.rules (c.get_mut.follows.lender w) c.args.self.now c.args.rule.now c.in_ok-found.found.now w c.self.view_is c.in_ok-found.ensures.value (c.get_mut.follows.holds w) c.self.inside.full c.is_full-was_full.result c.is_full-is_full.result c.self.invariant c.is_full-was_full.ensures.full c.is_full-is_full.ensures.full

pub invariant_of-self-2 : goal.invariant_of-self-2
invariant_of-self-2 c =
    let w : Subscription = record { limit = c.in_ok-found.found.now.limit; list = c.take-message.new.self; accepted = c.in_ok-found.found.now.accepted } in
    kept_step c.self.inside.rules (c.get_mut.follows.lender w) c.args.self.now c.args.rule.now c.in_ok-found.found.now w c.self.view_is c.in_ok-found.ensures.value (c.get_mut.follows.holds w)
    c.self.inside.full c.recount-self-inside.result c.self.invariant (has_stream c.args.stream (option_map without_first) (some_mapped without_first) c.in_ok-found.found.now.list c.take-message.new.self c.take-message.ensures.left (had_stream c.self.inside.rules (c.get_mut.follows.lender w) c.args.self.now c.args.rule.now c.in_ok-found.found.now w c.self.view_is c.in_ok-found.ensures.value (c.get_mut.follows.holds w) c.self.inside.full c.self.invariant)) c.is_full-is_full.ensures.most c.recount-self-inside.ensures

pub returns-clause-gives : goal.returns-clause-gives
returns-clause-gives c =
    let w : Subscription = record { limit = c.in_ok-found.found.now.limit; list = c.take-message.new.self; accepted = c.in_ok-found.found.now.accepted } in
    c.take-message.ensures.gives ∙ sym (ap (λ o. first_held (option_and_then (λ (s : Subscription). held_by s.list c.args.stream) o)) (changes c.self.inside.rules (c.get_mut.follows.lender w) c.args.self.now c.args.rule.now c.in_ok-found.found.now w c.self.view_is c.in_ok-found.ensures.value (c.get_mut.follows.holds w)).was)

pub returns-clause-limits : goal.returns-clause-limits
returns-clause-limits c =
    let w : Subscription = record { limit = c.in_ok-found.found.now.limit; list = c.take-message.new.self; accepted = c.in_ok-found.found.now.accepted } in
    limits_same (changes c.self.inside.rules (c.get_mut.follows.lender w) c.args.self.now c.args.rule.now c.in_ok-found.found.now w c.self.view_is c.in_ok-found.ensures.value (c.get_mut.follows.holds w)) refl

pub returns-clause-held : goal.returns-clause-held
returns-clause-held c =
    let w : Subscription = record { limit = c.in_ok-found.found.now.limit; list = c.take-message.new.self; accepted = c.in_ok-found.found.now.accepted } in
    held_changed (changes c.self.inside.rules (c.get_mut.follows.lender w) c.args.self.now c.args.rule.now c.in_ok-found.found.now w c.self.view_is c.in_ok-found.ensures.value (c.get_mut.follows.holds w)) c.args.stream (λ r. option_map without_first) c.take-message.ensures.left
