-- What the rule's streams hold changes, where the rule is subscribed.
use Rattle.std.proofs.Common.{refl, option_map}
use Rattle.peer_lists.specs.Holdings.{begun}
use Rattle.peer_streams.specs.{Names.Subscription}
use Rattle.peer_streams.proofs.{SubscribedLookups.{limits_same, held_changed}, SubscribedSteps.{missing_held, changes, count_step, had_stream, kept_step, has_stream, some_mapped}}
use Rattle.peer_streams.proofs.subscriptions.Subscriptions.begin.Goals as goal

pub returns-in_default-clause-held : goal.returns-in_default-clause-held
returns-in_default-clause-held c = missing_held c.self.inside.rules c.args.self.now c.args.rule.now c.self.view_is c.in_default.ensures.value c.get_mut.follows.lender-at-none c.get_mut.follows.holds-at-none c.args.stream (λ r. option_map begun) (λ r e. refl)

pub recount-self-inside-requires : goal.recount-self-inside-requires
recount-self-inside-requires c =
    let w : Subscription = record { limit = c.in-Some.found.now.limit; list = c.begin.new.self; accepted = c.in-Some.found.now.accepted } in
    count_step c.self.inside.rules (c.get_mut.follows.lender w) c.args.self.now c.args.rule.now c.in-Some.found.now w c.self.view_is c.in-Some.ensures.value (c.get_mut.follows.holds w) c.self.inside.full c.is_full-was_full.result c.is_full-is_full.result c.self.invariant c.is_full-was_full.ensures.full c.is_full-is_full.ensures.full

pub invariant_of-self-2 : goal.invariant_of-self-2
invariant_of-self-2 c =
    let w : Subscription = record { limit = c.in-Some.found.now.limit; list = c.begin.new.self; accepted = c.in-Some.found.now.accepted } in
    kept_step c.self.inside.rules (c.get_mut.follows.lender w) c.args.self.now c.args.rule.now c.in-Some.found.now w c.self.view_is c.in-Some.ensures.value (c.get_mut.follows.holds w)
    c.self.inside.full c.recount-self-inside.result c.self.invariant (has_stream c.args.stream (option_map begun) (some_mapped begun) c.in-Some.found.now.list c.begin.new.self c.begin.ensures (had_stream c.self.inside.rules (c.get_mut.follows.lender w) c.args.self.now c.args.rule.now c.in-Some.found.now w c.self.view_is c.in-Some.ensures.value (c.get_mut.follows.holds w) c.self.inside.full c.self.invariant)) c.is_full-is_full.ensures.most c.recount-self-inside.ensures

pub returns-clause-limits : goal.returns-clause-limits
returns-clause-limits c =
    let w : Subscription = record { limit = c.in-Some.found.now.limit; list = c.begin.new.self; accepted = c.in-Some.found.now.accepted } in
    limits_same (changes c.self.inside.rules (c.get_mut.follows.lender w) c.args.self.now c.args.rule.now c.in-Some.found.now w c.self.view_is c.in-Some.ensures.value (c.get_mut.follows.holds w)) refl

pub returns-clause-held : goal.returns-clause-held
returns-clause-held c =
    let w : Subscription = record { limit = c.in-Some.found.now.limit; list = c.begin.new.self; accepted = c.in-Some.found.now.accepted } in
    held_changed (changes c.self.inside.rules (c.get_mut.follows.lender w) c.args.self.now c.args.rule.now c.in-Some.found.now w c.self.view_is c.in-Some.ensures.value (c.get_mut.follows.holds w)) c.args.stream (λ r. option_map begun) c.begin.ensures
