-- The rule's stream goes, and with its last one the rule.
use Rattle.std.proofs.Common.{refl, sym, ◌∙◌, not, Some, None}
use Rattle.peer_streams.specs.{Names.Subscription, Subscriptions.has_other_in}
use Rattle.peer_streams.proofs.{SubscribedLookups.{updated, has_one, held_changed}, SubscribedSteps.{missing_gone, missing_held, changes, count_step, kept_step, kept_less, other_stays, none_stays, limits_left, limits_gone, held_gone}}
use Rattle.peer_streams.proofs.subscriptions.Subscriptions.close.Goals as goal

pub returns-in_default-clause-limits : goal.returns-in_default-clause-limits
returns-in_default-clause-limits c = missing_gone c.self.inside.rules c.args.self.now c.args.rule.now c.self.view_is c.in_default.ensures.value c.get_mut.follows.lender-at-none c.get_mut.follows.holds-at-none (λ r. not (has_other_in c.args.self.now r (Some c.args.stream) None))

pub returns-in_default-clause-held : goal.returns-in_default-clause-held
returns-in_default-clause-held c = missing_held c.self.inside.rules c.args.self.now c.args.rule.now c.self.view_is c.in_default.ensures.value c.get_mut.follows.lender-at-none c.get_mut.follows.holds-at-none c.args.stream (λ r o. None) (λ r e. refl)

pub recount-self-inside-requires : goal.recount-self-inside-requires
recount-self-inside-requires c =
    let w : Subscription = record { limit = c.in-Some.found.now.limit; list = c.close.new.self; accepted = c.in-Some.found.now.accepted } in
    count_step c.self.inside.rules (c.get_mut.follows.lender w) c.args.self.now c.args.rule.now c.in-Some.found.now w c.self.view_is c.in-Some.ensures.value (c.get_mut.follows.holds w) c.self.inside.full c.is_full-was_full.result c.is_full-is_full.result c.self.invariant c.is_full-was_full.ensures.full c.is_full-is_full.ensures.full

pub invariant_of-self-then-not-has_other : goal.invariant_of-self-then-not-has_other
invariant_of-self-then-not-has_other c =
    let w : Subscription = record { limit = c.in-Some.found.now.limit; list = c.close.new.self; accepted = c.in-Some.found.now.accepted } in
    kept_less c.self.inside.rules (c.get_mut.follows.lender w) c.swap_remove.new.self c.args.rule.now c.in-Some.found.now w c.self.inside.full c.recount-self-inside.result
    c.self.invariant c.in-Some.ensures.value (c.get_mut.follows.holds w) c.swap_remove.ensures.updates c.swap_remove.ensures.entries c.swap_remove.ensures.unique
    (none_stays c.args.stream c.in-Some.found.now.list c.close.new.self c.close.ensures (c.has_other-has_other.ensures.no_other c.if-not-has_other.true)) c.recount-self-inside.ensures

pub invariant_of-self-else-not-has_other : goal.invariant_of-self-else-not-has_other
invariant_of-self-else-not-has_other c =
    let w : Subscription = record { limit = c.in-Some.found.now.limit; list = c.close.new.self; accepted = c.in-Some.found.now.accepted } in
    let x = c.has_other-has_other.ensures.other c.if-not-has_other.false in
    kept_step c.self.inside.rules (c.get_mut.follows.lender w) c.args.self.now c.args.rule.now c.in-Some.found.now w c.self.view_is c.in-Some.ensures.value (c.get_mut.follows.holds w)
    c.self.inside.full c.recount-self-inside.result c.self.invariant (has_one c.close.new.self x.0 (other_stays c.args.stream x.0 c.in-Some.found.now.list c.close.new.self c.close.ensures x.1 x.2)) c.is_full-is_full.ensures.most c.recount-self-inside.ensures

pub returns-then-not-has_other-clause-limits : goal.returns-then-not-has_other-clause-limits
returns-then-not-has_other-clause-limits c =
    let w : Subscription = record { limit = c.in-Some.found.now.limit; list = c.close.new.self; accepted = c.in-Some.found.now.accepted } in
    limits_gone (changes c.self.inside.rules (c.get_mut.follows.lender w) c.args.self.now c.args.rule.now c.in-Some.found.now w c.self.view_is c.in-Some.ensures.value (c.get_mut.follows.holds w)) c.args.stream
    c.swap_remove.new.self.entries (updated (c.get_mut.follows.lender w).entries c.swap_remove.new.self.entries c.args.rule.now None c.swap_remove.ensures.updates.0)
    (sym c.if-not-has_other.true ∙ c.has_other-has_other.ensures.any)

pub returns-then-not-has_other-clause-held : goal.returns-then-not-has_other-clause-held
returns-then-not-has_other-clause-held c =
    let w : Subscription = record { limit = c.in-Some.found.now.limit; list = c.close.new.self; accepted = c.in-Some.found.now.accepted } in
    held_gone (changes c.self.inside.rules (c.get_mut.follows.lender w) c.args.self.now c.args.rule.now c.in-Some.found.now w c.self.view_is c.in-Some.ensures.value (c.get_mut.follows.holds w)) c.args.stream
    c.swap_remove.new.self.entries (updated (c.get_mut.follows.lender w).entries c.swap_remove.new.self.entries c.args.rule.now None c.swap_remove.ensures.updates.0)
    c.close.ensures (none_stays c.args.stream c.in-Some.found.now.list c.close.new.self c.close.ensures (c.has_other-has_other.ensures.no_other c.if-not-has_other.true))

pub returns-else-not-has_other-clause-limits : goal.returns-else-not-has_other-clause-limits
returns-else-not-has_other-clause-limits c =
    let w : Subscription = record { limit = c.in-Some.found.now.limit; list = c.close.new.self; accepted = c.in-Some.found.now.accepted } in
    limits_left (changes c.self.inside.rules (c.get_mut.follows.lender w) c.args.self.now c.args.rule.now c.in-Some.found.now w c.self.view_is c.in-Some.ensures.value (c.get_mut.follows.holds w)) c.args.stream (sym c.if-not-has_other.false ∙ c.has_other-has_other.ensures.any) refl

pub returns-else-not-has_other-clause-held : goal.returns-else-not-has_other-clause-held
returns-else-not-has_other-clause-held c =
    let w : Subscription = record { limit = c.in-Some.found.now.limit; list = c.close.new.self; accepted = c.in-Some.found.now.accepted } in
    held_changed (changes c.self.inside.rules (c.get_mut.follows.lender w) c.args.self.now c.args.rule.now c.in-Some.found.now w c.self.view_is c.in-Some.ensures.value (c.get_mut.follows.holds w)) c.args.stream (λ r o. None) c.close.ensures
