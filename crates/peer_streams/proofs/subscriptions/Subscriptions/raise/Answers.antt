-- How many messages the rule's streams may hold changes, where the rule is subscribed.
use Rattle.std.proofs.Common.{◌≡◌, refl, ap, ◌∙◌, arith, option_map, max, Some}
use Rattle.peer_streams.specs.{Names.Subscription}
use Rattle.peer_streams.proofs.{SubscribedLookups.{limits_changed, held_same}, SubscribedSteps.{missing_limits, changes, count_step, had_stream, kept_step}}
use Rattle.peer_streams.proofs.subscriptions.Subscriptions.raise.Goals as goal

pub returns-in_default-clause-limits : goal.returns-in_default-clause-limits
returns-in_default-clause-limits c = missing_limits c.self.inside.rules c.args.self.now c.args.rule.now c.self.view_is c.in_default.ensures.value c.get_mut.follows.lender-at-none c.get_mut.follows.holds-at-none (option_map (max c.args.asked)) refl

pub recount-self-inside-requires : goal.recount-self-inside-requires
recount-self-inside-requires c =
    let w : Subscription = record { limit = c.max-found.result; list = c.in-Some.found.now.list; accepted = c.in-Some.found.now.accepted } in
    count_step c.self.inside.rules (c.get_mut.follows.lender w) c.args.self.now c.args.rule.now c.in-Some.found.now w c.self.view_is c.in-Some.ensures.value (c.get_mut.follows.holds w) c.self.inside.full c.is_full-was_full.result c.is_full-is_full.result c.self.invariant c.is_full-was_full.ensures.full c.is_full-is_full.ensures.full

pub invariant_of-self-2 : goal.invariant_of-self-2
invariant_of-self-2 c =
    let w : Subscription = record { limit = c.max-found.result; list = c.in-Some.found.now.list; accepted = c.in-Some.found.now.accepted } in
    kept_step c.self.inside.rules (c.get_mut.follows.lender w) c.args.self.now c.args.rule.now c.in-Some.found.now w c.self.view_is c.in-Some.ensures.value (c.get_mut.follows.holds w)
    c.self.inside.full c.recount-self-inside.result c.self.invariant (had_stream c.self.inside.rules (c.get_mut.follows.lender w) c.args.self.now c.args.rule.now c.in-Some.found.now w c.self.view_is c.in-Some.ensures.value (c.get_mut.follows.holds w) c.self.inside.full c.self.invariant) c.is_full-is_full.ensures.most c.recount-self-inside.ensures

pub returns-clause-limits : goal.returns-clause-limits
returns-clause-limits c =
    let w : Subscription = record { limit = c.max-found.result; list = c.in-Some.found.now.list; accepted = c.in-Some.found.now.accepted } in
    let more : c.max-found.result ≡ max c.args.asked c.in-Some.found.now.limit = c.max-found.ensures ∙ omega arith in
    limits_changed (changes c.self.inside.rules (c.get_mut.follows.lender w) c.args.self.now c.args.rule.now c.in-Some.found.now w c.self.view_is c.in-Some.ensures.value (c.get_mut.follows.holds w)) (option_map (max c.args.asked)) (ap Some more)

pub returns-clause-held : goal.returns-clause-held
returns-clause-held c =
    let w : Subscription = record { limit = c.max-found.result; list = c.in-Some.found.now.list; accepted = c.in-Some.found.now.accepted } in
    held_same (changes c.self.inside.rules (c.get_mut.follows.lender w) c.args.self.now c.args.rule.now c.in-Some.found.now w c.self.view_is c.in-Some.ensures.value (c.get_mut.follows.holds w)) (λ k. refl)
