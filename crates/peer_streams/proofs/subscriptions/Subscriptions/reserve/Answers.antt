-- A stream more waits, where the rule is subscribed.
use Rattle.std.proofs.{Common.{◌≡◌, ◌∙◌, if◌then◌else◌, sym, ap, OnErr, Result, Ok, Err, Some, None}, lemmas.Result.on_ok_weaker}
use Rattle.std.specs.Option.{option_map, option_and_then}
use Rattle.peer_lists.specs.Holdings.{Holdings, held_by}
use Rattle.peer_streams.specs.{Names.{Subscription}, Rules.is_same, Subscriptions.{limit_in, limit_asked}}
use Rattle.peer_streams.proofs.{SubscribedLookups.{limits_changed, held_changed}, SubscribedSteps.{used_of, not_kept, missing_same, changes, count_step, had_stream, kept_step, kept_same, entries_same, long_list, some_list}}
use Rattle.peer_streams.proofs.subscriptions.Subscriptions.reserve.Goals as goal

on-err : {A E P : Type 0} (r : Result A E) → P → OnErr r P
on-err (Ok x) p = tt
on-err (Err e) p = p

pub subscribe-requires : goal.subscribe-requires
subscribe-requires c =
    missing_same c.self.inside.rules c.args.self.now c.args.rule.now c.self.view_is c.in_default.ensures.value c.get_mut.follows.lender-at-none c.get_mut.follows.holds-at-none c.args.rule.now
    ∙ ap (option_map (λ (s : Subscription). s.limit)) (not_kept c.self.inside.rules c.args.self.now c.args.rule.now c.self.view_is c.in_default.ensures.value)

pub returns-in_default-clause-used : goal.returns-in_default-clause-used
returns-in_default-clause-used c = used_of c.self.inside.rules.entries c.args.self.now c.self.inside.full c.self.invariant c.self.view_is c.args.rule.now

pub returns-in_default-clause-limits : goal.returns-in_default-clause-limits
returns-in_default-clause-limits c =
    let none : limit_in c.args.self.now c.args.rule.now ≡ None = ap (option_map (λ (s : Subscription). s.limit)) (not_kept c.self.inside.rules c.args.self.now c.args.rule.now c.self.view_is c.in_default.ensures.value) in
    on_ok_weaker c.subscribe.result
    (λ f r. f r ∙ (λ i. if is_same c.args.rule.now r then Some (limit_asked (sym none i) c.args.rule.now c.args.asked) else missing_same c.self.inside.rules c.args.self.now c.args.rule.now c.self.view_is c.in_default.ensures.value c.get_mut.follows.lender-at-none c.get_mut.follows.holds-at-none r i))
    c.subscribe.ensures.limits

pub returns-in_err-reserve-clause-used : goal.returns-in_err-reserve-clause-used
returns-in_err-reserve-clause-used c = used_of c.self.inside.rules.entries c.args.self.now c.self.inside.full c.self.invariant c.self.view_is c.args.rule.now

pub invariant_of-self-in_err-reserve : goal.invariant_of-self-in_err-reserve
invariant_of-self-in_err-reserve c =
    let w : Subscription = record { limit = c.in-Some.found.now.limit; list = c.reserve.new.self; accepted = c.in-Some.found.now.accepted } in
    let make : Holdings → Subscription = λ l. record { limit = c.in-Some.found.now.limit; list = l; accepted = c.in-Some.found.now.accepted } in
    kept_same c.self.inside.rules (c.get_mut.follows.lender w) c.args.self.now c.args.rule.now c.in-Some.found.now w c.self.view_is c.in-Some.ensures.value (c.get_mut.follows.holds w) c.self.inside.full c.self.invariant (ap make c.in_err-reserve.ensures.err)

pub returns-in_err-reserve-clause-err : goal.returns-in_err-reserve-clause-err
returns-in_err-reserve-clause-err c =
    let w : Subscription = record { limit = c.in-Some.found.now.limit; list = c.reserve.new.self; accepted = c.in-Some.found.now.accepted } in
    let make : Holdings → Subscription = λ l. record { limit = c.in-Some.found.now.limit; list = l; accepted = c.in-Some.found.now.accepted } in
    on-err c.from_residual.result (entries_same c.self.inside.rules (c.get_mut.follows.lender w) c.args.self.now c.args.rule.now c.in-Some.found.now w c.self.view_is c.in-Some.ensures.value (c.get_mut.follows.holds w) (ap make c.in_err-reserve.ensures.err) ∙ c.self.view_is)

pub recount-self-inside-requires : goal.recount-self-inside-requires
recount-self-inside-requires c =
    let w : Subscription = record { limit = c.raised-found.result; list = c.reserve.new.self; accepted = c.in-Some.found.now.accepted } in
    count_step c.self.inside.rules (c.get_mut.follows.lender w) c.args.self.now c.args.rule.now c.in-Some.found.now w c.self.view_is c.in-Some.ensures.value (c.get_mut.follows.holds w) c.self.inside.full c.is_full-was_full.result c.is_full-is_full.result c.self.invariant c.is_full-was_full.ensures.full c.is_full-is_full.ensures.full

pub invariant_of-self-2 : goal.invariant_of-self-2
invariant_of-self-2 c =
    let w : Subscription = record { limit = c.raised-found.result; list = c.reserve.new.self; accepted = c.in-Some.found.now.accepted } in
    kept_step c.self.inside.rules (c.get_mut.follows.lender w) c.args.self.now c.args.rule.now c.in-Some.found.now w c.self.view_is c.in-Some.ensures.value (c.get_mut.follows.holds w)
    c.self.inside.full c.recount-self-inside.result c.self.invariant (some_list c.reserve.new.self (c.in_ok-reserve.ensures.stay (long_list c.in-Some.found.now.list (had_stream c.self.inside.rules (c.get_mut.follows.lender w) c.args.self.now c.args.rule.now c.in-Some.found.now w c.self.view_is c.in-Some.ensures.value (c.get_mut.follows.holds w) c.self.inside.full c.self.invariant)))) c.is_full-is_full.ensures.most c.recount-self-inside.ensures

pub returns-clause-used : goal.returns-clause-used
returns-clause-used c = used_of c.self.inside.rules.entries c.args.self.now c.self.inside.full c.self.invariant c.self.view_is c.args.rule.now

pub returns-clause-limits : goal.returns-clause-limits
returns-clause-limits c =
    let w : Subscription = record { limit = c.raised-found.result; list = c.reserve.new.self; accepted = c.in-Some.found.now.accepted } in
    let before = ap (option_map (λ (s : Subscription). s.limit)) (changes c.self.inside.rules (c.get_mut.follows.lender w) c.args.self.now c.args.rule.now c.in-Some.found.now w c.self.view_is c.in-Some.ensures.value (c.get_mut.follows.holds w)).was in
    limits_changed (changes c.self.inside.rules (c.get_mut.follows.lender w) c.args.self.now c.args.rule.now c.in-Some.found.now w c.self.view_is c.in-Some.ensures.value (c.get_mut.follows.holds w)) (λ o. Some (limit_asked (limit_in c.args.self.now c.args.rule.now) c.args.rule.now c.args.asked))
    (ap Some (c.raised-found.ensures ∙ ap (λ o. limit_asked o c.args.rule.now c.args.asked) (sym before)))

pub returns-clause-held : goal.returns-clause-held
returns-clause-held c =
    let w : Subscription = record { limit = c.raised-found.result; list = c.reserve.new.self; accepted = c.in-Some.found.now.accepted } in
    λ none. held_changed (changes c.self.inside.rules (c.get_mut.follows.lender w) c.args.self.now c.args.rule.now c.in-Some.found.now w c.self.view_is c.in-Some.ensures.value (c.get_mut.follows.holds w)) c.args.stream (λ r o. Some None)
    (c.in_ok-reserve.ensures.ok (sym (ap (option_and_then (λ (s : Subscription). held_by s.list c.args.stream)) (changes c.self.inside.rules (c.get_mut.follows.lender w) c.args.self.now c.args.rule.now c.in-Some.found.now w c.self.view_is c.in-Some.ensures.value (c.get_mut.follows.holds w)).was) ∙ none))
