-- Each stream that runs has the message, and those that wait are settled then.
use Rattle.std.proofs.Common.{◌≡◌, ◌==◌, ℕ, refl, sym, ◌∙◌, ap, subst, true, List, Result, Ok, Err, OnErr}
use Rattle.std.specs.{Prelude.nat_eq, List.list_any, Map.lookup}
use Rattle.peer_streams.specs.{declared.lists.Lists.Lists, Names.{MessageView, StreamState}, History.{Received, after}, Streams.subscribed_rules, Refinement.{settled, RefinesStreams}, Keeping.{AreKept, views}, Arriving.{parts, IsReady, ChangesEach}}
use Rattle.peer_streams.proofs.{Views.{views_same, view_along}, StepsCounted.rules_few, ArrivingGiven.{AreQuiet, Gives, quiet_kept, quiet_views, given_kept, kept_ungiven, all_ready, arrived, forgotten}, StreamsMade.streams_took}
use Rattle.peer_streams.proofs.streams.Streams.arrive.Goals as goal

on_err : {A E : Type 0} (r : Result A E) (P : Type 0) → P → OnErr r P
on_err (Ok x) P p = tt
on_err (Err e) P p = p

pub invariant_of-self : goal.invariant_of-self
invariant_of-self g c =
    let s = c.self.inside in
    quiet_kept s.made s.states.entries c.prepare_each.new.states.entries s.lists s.waiting.items c.prepare_each.ensures.same c.self.invariant

pub invariant_of-self-in_err-push : goal.invariant_of-self-in_err-push
invariant_of-self-in_err-push g c =
    let s = c.self.inside in
    kept_ungiven s.made c.prepare_each.new.states.entries s.lists c.push.new.self s.waiting.items c.in_err-push.ensures.err
    (quiet_kept s.made s.states.entries c.prepare_each.new.states.entries s.lists s.waiting.items c.prepare_each.ensures.same c.self.invariant)

pub returns-in_err-prepare_each-clause-err : goal.returns-in_err-prepare_each-clause-err
returns-in_err-prepare_each-clause-err g c =
    let s = c.self.inside in
    on_err c.from_residual.result _ (quiet_views s.made s.states.entries c.prepare_each.new.states.entries s.lists c.prepare_each.ensures.same ∙ c.self.view_is)

pub returns-in_err-push-clause-err : goal.returns-in_err-push-clause-err
returns-in_err-push-clause-err g c =
    let s = c.self.inside in
    let was = parts s.made c.prepare_each.new.states.entries s.lists in
    let now = parts s.made c.prepare_each.new.states.entries c.push.new.self in
    on_err c.from_residual-in_err-push.result _
    (views_same was now refl (λ k. view_along was now k refl c.in_err-push.ensures.limits (λ o. c.in_err-push.ensures.err o k))
    ∙ quiet_views s.made s.states.entries c.prepare_each.new.states.entries s.lists c.prepare_each.ensures.same ∙ c.self.view_is)

pub returns-in_err-push-clause-steps : goal.returns-in_err-push-clause-steps
returns-in_err-push-clause-steps g c p left =
    let s = c.self.inside in
    c.in_err-push.ensures.steps (subscribed_rules p)
    (rules_few (parts s.made s.states.entries s.lists) s.waiting.items p c.self.invariant (subst (λ v. RefinesStreams v p) (sym c.self.view_is) left))

pub returns-clause-steps : goal.returns-clause-steps
returns-clause-steps g c p left =
    let s = c.self.inside in
    c.in_ok-push.ensures.steps (subscribed_rules p)
    (rules_few (parts s.made s.states.entries s.lists) s.waiting.items p c.self.invariant (subst (λ v. RefinesStreams v p) (sym c.self.view_is) left))

-- all of it, by what each step leaves
each_settled : (m : MessageView) (made : ℕ) (es fs gs : List (ℕ × StreamState)) (l n r : Lists) (waiting first second : List ℕ) → AreKept (parts made es l) waiting → AreQuiet es fs → Gives m l n
    → first ≡ waiting → ((k : ℕ) → list_any (λ i. i == k) first ≡ true → IsReady m (lookup (nat_eq k) fs))
    → second ≡ waiting → ((made : ℕ) (waiting : List ℕ) → AreKept (parts made fs n) waiting → ((k : ℕ) → IsReady m (lookup (nat_eq k) fs)) → ChangesEach (settled m) second waiting (parts made fs n) (parts made gs r))
    → ChangesEach (settled m) waiting waiting (parts made fs n) (parts made gs r)
each_settled m made es fs gs l n r waiting first second was same g one ready two settles =
    let kept = given_kept m made fs l n waiting g (quiet_kept made es fs l waiting same was) in
    subst (λ ks. ChangesEach (settled m) ks waiting (parts made fs n) (parts made gs r)) two
    (settles made waiting kept (all_ready m (parts made fs n) waiting kept (λ k there. ready k (ap (list_any (λ i. i == k)) one ∙ there))))

pub invariant_of-self-2 : goal.invariant_of-self-2
invariant_of-self-2 g c =
    let s = c.self.inside in
    let each = each_settled c.args.message.now s.made s.states.entries c.prepare_each.new.states.entries c.settle_each.new.states.entries s.lists c.push.new.self c.settle_each.new.lists s.waiting.items c.deref.result.now c.deref-2.result.now
    c.self.invariant c.prepare_each.ensures.same (record { limits = c.in_ok-push.ensures.limits; held = c.in_ok-push.ensures.ok }) c.deref.ensures.value c.in_ok-prepare_each.ensures.ready c.deref-2.ensures.value c.settle_each.ensures in
    forgotten (parts s.made c.settle_each.new.states.entries c.settle_each.new.lists) s.waiting.items c.forget_settled.new.waiting.items c.forget_settled.ensures each.kept

pub returns-clause-ok : goal.returns-clause-ok
returns-clause-ok g c p left =
    let s = c.self.inside in
    let m = c.args.message.now in
    let each = each_settled m s.made s.states.entries c.prepare_each.new.states.entries c.settle_each.new.states.entries s.lists c.push.new.self c.settle_each.new.lists s.waiting.items c.deref.result.now c.deref-2.result.now
    c.self.invariant c.prepare_each.ensures.same (record { limits = c.in_ok-push.ensures.limits; held = c.in_ok-push.ensures.ok }) c.deref.ensures.value c.in_ok-prepare_each.ensures.ready c.deref-2.ensures.value c.settle_each.ensures in
    subst (λ v. RefinesStreams v (after (Received m) p))
    (sym (arrived m s.made s.states.entries c.prepare_each.new.states.entries c.settle_each.new.states.entries s.lists c.push.new.self c.settle_each.new.lists s.waiting.items c.self.invariant c.prepare_each.ensures.same
    (record { limits = c.in_ok-push.ensures.limits; held = c.in_ok-push.ensures.ok }) each))
    (streams_took m (views (parts s.made s.states.entries s.lists)) p (subst (λ v. RefinesStreams v p) (sym c.self.view_is) left))
