-- The rule's stream holds what the original does, where the rule is subscribed and has another stream.
use Rattle.std.proofs.{Common.{◌≡◌, ◌∙◌, ◌==◌, if◌then◌else◌, refl, sym, ap}, lemmas.Result.{on_ok_weaker, on_err_weaker}}
use Rattle.std.specs.Option.{option_and_then}
use Rattle.peer_lists.specs.Holdings.{held_by}
use Rattle.peer_streams.specs.{Names.Subscription, Subscriptions.held_in}
use Rattle.peer_streams.proofs.{SubscribedLookups.{has_one, limits_same, held_changed, held_same}, SubscribedSteps.{missing_held, changes, count_step, had_stream, kept_step, kept_same, only_stream, other_clones, closed_none, closed_same}}
use Rattle.peer_streams.proofs.subscriptions.Subscriptions.open_clone.Goals as goal

pub returns-in_default-clause-ok : goal.returns-in_default-clause-ok
returns-in_default-clause-ok c =
    λ none. missing_held c.self.inside.rules c.args.self.now c.args.rule.now c.self.view_is c.in_default.ensures.value c.get_mut.follows.lender-at-none c.get_mut.follows.holds-at-none c.args.stream
    (λ r o. held_in c.args.self.now r c.args.original) (λ r e. ap (option_and_then (λ (s : Subscription). held_by s.list c.args.original)) e)

pub invariant_of-self-then-not-has_other : goal.invariant_of-self-then-not-has_other
invariant_of-self-then-not-has_other c =
    let w : Subscription = c.in-Some.found.now in
    kept_same c.self.inside.rules (c.get_mut.follows.lender w) c.args.self.now c.args.rule.now c.in-Some.found.now w c.self.view_is c.in-Some.ensures.value (c.get_mut.follows.holds w) c.self.inside.full c.self.invariant refl

pub returns-then-not-has_other-clause-limits : goal.returns-then-not-has_other-clause-limits
returns-then-not-has_other-clause-limits c =
    let w : Subscription = c.in-Some.found.now in
    limits_same (changes c.self.inside.rules (c.get_mut.follows.lender w) c.args.self.now c.args.rule.now c.in-Some.found.now w c.self.view_is c.in-Some.ensures.value (c.get_mut.follows.holds w)) refl

pub returns-then-not-has_other-clause-ok : goal.returns-then-not-has_other-clause-ok
returns-then-not-has_other-clause-ok c =
    let w : Subscription = c.in-Some.found.now in
    λ none. absurd (only_stream c.args.stream c.in-Some.found.now.list (had_stream c.self.inside.rules (c.get_mut.follows.lender w) c.args.self.now c.args.rule.now c.in-Some.found.now w c.self.view_is c.in-Some.ensures.value (c.get_mut.follows.holds w) c.self.inside.full c.self.invariant)
    (c.has_other.ensures.no_other c.if-not-has_other.true) (sym (ap (option_and_then (λ (s : Subscription). held_by s.list c.args.stream)) (changes c.self.inside.rules (c.get_mut.follows.lender w) c.args.self.now c.args.rule.now c.in-Some.found.now w c.self.view_is c.in-Some.ensures.value (c.get_mut.follows.holds w)).was) ∙ none))

pub recount-self-inside-requires : goal.recount-self-inside-requires
recount-self-inside-requires c =
    let w : Subscription = record { limit = c.in-Some.found.now.limit; list = c.open_clone-cloned.new.self; accepted = c.in-Some.found.now.accepted } in
    count_step c.self.inside.rules (c.get_mut.follows.lender w) c.args.self.now c.args.rule.now c.in-Some.found.now w c.self.view_is c.in-Some.ensures.value (c.get_mut.follows.holds w) c.self.inside.full c.is_full-was_full.result c.is_full-is_full.result c.self.invariant c.is_full-was_full.ensures.full c.is_full-is_full.ensures.full

pub invariant_of-self-2 : goal.invariant_of-self-2
invariant_of-self-2 c =
    let w : Subscription = record { limit = c.in-Some.found.now.limit; list = c.open_clone-cloned.new.self; accepted = c.in-Some.found.now.accepted } in
    let x = c.has_other.ensures.other c.if-not-has_other.false in
    kept_step c.self.inside.rules (c.get_mut.follows.lender w) c.args.self.now c.args.rule.now c.in-Some.found.now w c.self.view_is c.in-Some.ensures.value (c.get_mut.follows.holds w)
    c.self.inside.full c.recount-self-inside.result c.self.invariant (has_one c.open_clone-cloned.new.self x.0 (other_clones c.open_clone-cloned.result c.args.original c.args.stream x.0 c.in-Some.found.now.list c.close.new.self c.open_clone-cloned.new.self c.close.ensures c.open_clone-cloned.ensures.err c.open_clone-cloned.ensures.ok x.1 x.2)) c.is_full-is_full.ensures.most c.recount-self-inside.ensures

pub returns-clause-limits : goal.returns-clause-limits
returns-clause-limits c =
    let w : Subscription = record { limit = c.in-Some.found.now.limit; list = c.open_clone-cloned.new.self; accepted = c.in-Some.found.now.accepted } in
    limits_same (changes c.self.inside.rules (c.get_mut.follows.lender w) c.args.self.now c.args.rule.now c.in-Some.found.now w c.self.view_is c.in-Some.ensures.value (c.get_mut.follows.holds w)) refl

pub returns-clause-err : goal.returns-clause-err
returns-clause-err c =
    let w : Subscription = record { limit = c.in-Some.found.now.limit; list = c.open_clone-cloned.new.self; accepted = c.in-Some.found.now.accepted } in
    let closed = closed_none c.args.stream c.in-Some.found.now.list c.close.new.self c.close.ensures in
    on_err_weaker c.open_clone-cloned.result
    (λ f none. held_same (changes c.self.inside.rules (c.get_mut.follows.lender w) c.args.self.now c.args.rule.now c.in-Some.found.now w c.self.view_is c.in-Some.ensures.value (c.get_mut.follows.holds w))
    (λ k. f closed k ∙ closed_same c.args.stream c.in-Some.found.now.list c.close.new.self c.close.ensures (sym (ap (option_and_then (λ (s : Subscription). held_by s.list c.args.stream)) (changes c.self.inside.rules (c.get_mut.follows.lender w) c.args.self.now c.args.rule.now c.in-Some.found.now w c.self.view_is c.in-Some.ensures.value (c.get_mut.follows.holds w)).was) ∙ none) k))
    c.open_clone-cloned.ensures.err

pub returns-clause-ok : goal.returns-clause-ok
returns-clause-ok c =
    let w : Subscription = record { limit = c.in-Some.found.now.limit; list = c.open_clone-cloned.new.self; accepted = c.in-Some.found.now.accepted } in
    let closed = closed_none c.args.stream c.in-Some.found.now.list c.close.new.self c.close.ensures in
    on_ok_weaker c.open_clone-cloned.result
    (λ f none. let same = closed_same c.args.stream c.in-Some.found.now.list c.close.new.self c.close.ensures (sym (ap (option_and_then (λ (s : Subscription). held_by s.list c.args.stream)) (changes c.self.inside.rules (c.get_mut.follows.lender w) c.args.self.now c.args.rule.now c.in-Some.found.now w c.self.view_is c.in-Some.ensures.value (c.get_mut.follows.holds w)).was) ∙ none) in
    let back : held_by c.in-Some.found.now.list c.args.original ≡ held_in c.args.self.now c.args.rule.now c.args.original = sym (ap (option_and_then (λ (s : Subscription). held_by s.list c.args.original)) (changes c.self.inside.rules (c.get_mut.follows.lender w) c.args.self.now c.args.rule.now c.in-Some.found.now w c.self.view_is c.in-Some.ensures.value (c.get_mut.follows.holds w)).was) in
    held_changed (changes c.self.inside.rules (c.get_mut.follows.lender w) c.args.self.now c.args.rule.now c.in-Some.found.now w c.self.view_is c.in-Some.ensures.value (c.get_mut.follows.holds w)) c.args.stream (λ r o. held_in c.args.self.now r c.args.original)
    (λ k. f closed k ∙ (λ i. if c.args.stream == k then (same c.args.original ∙ back) i else same k i)))
    c.open_clone-cloned.ensures.ok
