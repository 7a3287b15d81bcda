-- Distinct rules that are subscribed are no more than are counted among the streams, so that a test of each is a step for each.
use Rattle.std.proofs.{Common.{◌≡◌, ℕ, ◌+◌, ◌≤◌, suc, zero, refl, sym, ◌∙◌, ap, arith, Bool, true, false, not, cond, if◌then◌else◌, ◌&&◌, ◌||◌, List, [], ◌∷◌, length, Option, Some, None, IsSome, is_some}, lemmas.Bool.{and_parts, and_left, and_right, or_left, or_right, false≢true, false_from_ne_true}, lemmas.Option.{none-some, slice_get-map}, lemmas.List.Sums.sum_by-cons}
use Rattle.std.specs.{List.{list_any, slice_get, count_by, AllByRecursion}, Option.{option_map, option_eq, unwrap_or}}
use Rattle.wire_message.proofs.Edits.{all_weaker}
use Rattle.peer_streams.specs.{Names.{MessageView, Rule, Subscription, StreamState, Progress}, History.{Stream, StreamsPast, is_denied, is_of, phase, subscribes, is_subscribed}, Rules.is_same, Streams.{is_last, rules_among, subscribed_rules}, Subscriptions.{Subscribed, kept_in, limit_in, held_in, AreDistinct}, Refinement.{StreamView, kept, RefinesStreams}, Keeping.{Parts, state_at, shown, shown_by, wants_of, view_at, views, stands_in, begun_by, AreKept}}
use Rattle.peer_streams.proofs.{SameRule.{same_self, same_one}, Views.views_at, StreamsMade.rule_kept, RuledStreams.subscribes_kept}

-- ---- counts

-- what a test adds to a count
abbrev one_if : Bool → ℕ
one_if b = cond b 1 0

count_cons : {X : Type 0} (p : X → Bool) (x : X) (xs : List X) → count_by p (x ∷ xs) ≡ cond (p x) 1 0 + count_by p xs
count_cons p x xs = sum_by-cons (λ y. cond (p y) 1 0) x xs

count_none : {X : Type 0} (p : X → Bool) (xs : List X) → ((x : X) → p x ≡ false) → count_by p xs ≡ 0
count_none p [] e = refl
count_none p (x ∷ xs) e = omega (arith, count_cons p x xs, ap one_if (e x), count_none p xs e)

count_all : {X : Type 0} (p : X → Bool) (xs : List X) → AllByRecursion (λ x. p x ≡ true) xs → count_by p xs ≡ length xs
count_all p [] all = refl
count_all p (x ∷ xs) all = omega (arith, count_cons p x xs, ap one_if all.0, count_all p xs all.1)

le_by : (a b : Bool) → (a ≡ true → b ≡ true) → cond a 1 0 ≤ cond b 1 0
le_by false b e = omega arith
le_by true b e = omega (arith, ap one_if (e refl))

count_le : {X : Type 0} (p q : X → Bool) (xs : List X) → ((x : X) → p x ≡ true → q x ≡ true) → count_by p xs ≤ count_by q xs
count_le p q [] e = omega arith
count_le p q (x ∷ xs) e = omega (arith, count_cons p x xs, count_cons q x xs, le_by (p x) (q x) (e x), count_le p q xs e)

or_by : (a b : Bool) → cond (a || b) 1 0 ≤ cond (a && not b) 1 0 + cond b 1 0
or_by true true = omega arith
or_by true false = omega arith
or_by false b = omega arith

count_or : {X : Type 0} (p q : X → Bool) (xs : List X) → count_by (λ x. p x || q x) xs ≤ count_by (λ x. p x && not (q x)) xs + count_by q xs
count_or p q [] = omega arith
count_or p q (x ∷ xs) =
    omega (arith, count_cons (λ y. p y || q y) x xs, count_cons (λ y. p y && not (q y)) x xs, count_cons q x xs, or_by (p x) (q x), count_or p q xs)

-- ---- among distinct rules one stands once

count_absent : (rule : Rule) (v : Subscribed) → kept_in v rule ≡ None → count_by (λ (e : Rule × Subscription). is_same rule e.0) v ≡ 0
count_absent rule [] none = refl
count_absent rule (e ∷ es) none = by (is_same rule e.0) refl (λ more. count_absent rule es more)
  where
    by : (b : Bool) → is_same rule e.0 ≡ b → (kept_in es rule ≡ None → count_by (λ (e : Rule × Subscription). is_same rule e.0) es ≡ 0) → count_by (λ (e : Rule × Subscription). is_same rule e.0) (e ∷ es) ≡ 0
    by true is absent = absurd (none-some e.1 (sym none ∙ ap (λ b. cond b (Some e.1) (kept_in es rule)) is))
    by false is absent =
        omega (arith, count_cons (λ (e : Rule × Subscription). is_same rule e.0) e es, ap one_if is, absent (sym (ap (λ b. cond b (Some e.1) (kept_in es rule)) is) ∙ none))

count_same : (rule : Rule) (v : Subscribed) → AreDistinct v → count_by (λ (e : Rule × Subscription). is_same rule e.0) v ≤ 1
count_same rule [] d = omega arith
count_same rule (e ∷ es) d = by (is_same rule e.0) refl (count_same rule es d.1)
  where
    by : (b : Bool) → is_same rule e.0 ≡ b → count_by (λ (e : Rule × Subscription). is_same rule e.0) es ≤ 1 → count_by (λ (e : Rule × Subscription). is_same rule e.0) (e ∷ es) ≤ 1
    by true is more =
        omega (arith, count_cons (λ (e : Rule × Subscription). is_same rule e.0) e es, ap one_if is, count_absent rule es (ap (kept_in es) (same_one rule e.0 is) ∙ d.0))
    by false is more = omega (arith, count_cons (λ (e : Rule × Subscription). is_same rule e.0) e es, ap one_if is, more)

-- ---- each stream adds one at most

-- how many of the rules have one of these streams
abbrev counted : List MessageView → List Stream → Subscribed → ℕ
counted ms ss v = count_by (λ (e : Rule × Subscription). is_subscribed ms ss e.0) v

-- the rule is this stream's, and none of these is of it
abbrev only_of : List MessageView → Stream → List Stream → Rule → Bool
only_of ms s ss r = subscribes ms r s && not (is_subscribed ms ss r)

sub_nil : (ms : List MessageView) (r : Rule) → is_subscribed ms [] r ≡ false
unfolding is_subscribed
sub_nil ms r = refl

sub_cons : (ms : List MessageView) (s : Stream) (ss : List Stream) (r : Rule) → is_subscribed ms (s ∷ ss) r ≡ (subscribes ms r s || is_subscribed ms ss r)
unfolding is_subscribed
sub_cons ms s ss r = refl

of_rule : (ms : List MessageView) (s : Stream) (x : Rule) → subscribes ms x s ≡ true → is_of x s.rule ≡ true
of_rule ms s x t = (and_parts (not s.gone && not (is_denied (phase ms s))) (is_of x s.rule) t).1

only_le : (ms : List MessageView) (s : Stream) (ss : List Stream) (v : Subscribed) → AreDistinct v → count_by (λ (e : Rule × Subscription). only_of ms s ss e.0) v ≤ (if is_last ms s ss then 1 else 0)
only_le ms s ss v d = by s.rule refl
  where
    last_is : (o : Option Rule) → s.rule ≡ o → is_last ms s ss ≡ unwrap_or (option_map (λ rule. only_of ms s ss rule) o) false
    last_is o e = ap (λ (o : Option Rule). unwrap_or (option_map (λ rule. only_of ms s ss rule) o) false) e

    none_of : s.rule ≡ None → (x : Rule) → only_of ms s ss x ≡ false
    none_of e x = and_left (subscribes ms x s) (not (is_subscribed ms ss x)) (and_right (not s.gone && not (is_denied (phase ms s))) (is_of x s.rule) (ap (is_of x) e))

    one_of : (r x : Rule) → s.rule ≡ Some r → only_of ms s ss x ≡ true → x ≡ r
    one_of r x e t = same_one x r (sym (ap (is_of x) e) ∙ of_rule ms s x (and_parts (subscribes ms x s) (not (is_subscribed ms ss x)) t).0)

    by_last : (r : Rule) → s.rule ≡ Some r → (b : Bool) → only_of ms s ss r ≡ b → count_by (λ (e : Rule × Subscription). only_of ms s ss e.0) v ≤ (if b then 1 else 0)
    by_last r e true is =
        omega (arith, count_same r v d, count_le (λ (x : Rule × Subscription). only_of ms s ss x.0) (λ (x : Rule × Subscription). is_same r x.0) v (λ x t. ap (is_same r) (one_of r x.0 e t) ∙ same_self r))
    by_last r e false is =
        omega (arith, count_none (λ (x : Rule × Subscription). only_of ms s ss x.0) v (λ x. false_from_ne_true (only_of ms s ss x.0) (λ t. false≢true (sym is ∙ ap (only_of ms s ss) (sym (one_of r x.0 e t)) ∙ t))))

    by : (o : Option Rule) → s.rule ≡ o → count_by (λ (e : Rule × Subscription). only_of ms s ss e.0) v ≤ (if is_last ms s ss then 1 else 0)
    by None e = omega (arith, count_none (λ (x : Rule × Subscription). only_of ms s ss x.0) v (λ x. none_of e x.0))
    by (Some r) e = omega (arith, by_last r e (only_of ms s ss r) refl, ap one_if (last_is (Some r) e))

counted_le : (ms : List MessageView) (ss : List Stream) (v : Subscribed) → AreDistinct v → counted ms ss v ≤ rules_among ms ss
counted_le ms [] v d = omega (arith, count_none (λ (e : Rule × Subscription). is_subscribed ms [] e.0) v (λ e. sub_nil ms e.0))
counted_le ms (s ∷ ss) v d =
    omega (
      arith,
      count_le (λ (e : Rule × Subscription). is_subscribed ms (s ∷ ss) e.0) (λ (e : Rule × Subscription). subscribes ms e.0 s || is_subscribed ms ss e.0) v (λ e t. sym (sub_cons ms s ss e.0) ∙ t),
      count_or (λ (e : Rule × Subscription). subscribes ms e.0 s) (λ (e : Rule × Subscription). is_subscribed ms ss e.0) v,
      only_le ms s ss v d,
      counted_le ms ss v d,
    )

-- Distinct rules, each with a stream, are no more than are subscribed.
rules_le : (h : StreamsPast) (v : Subscribed) → AreDistinct v → AllByRecursion (λ (e : Rule × Subscription). is_subscribed h.read h.streams e.0 ≡ true) v → length v ≤ subscribed_rules h
unfolding subscribed_rules
rules_le h v d all = omega (arith, count_all (λ (e : Rule × Subscription). is_subscribed h.read h.streams e.0) v all, counted_le h.read h.streams v d)

-- ---- each rule of which something is kept has a stream that lives

more_kept : (v : Subscribed) (e : Rule × Subscription) (r : Rule) → IsSome (limit_in v r) → IsSome (limit_in (e ∷ v) r)
more_kept v e r there = by (is_same r e.0) refl
  where
    by : (b : Bool) → is_same r e.0 ≡ b → IsSome (limit_in (e ∷ v) r)
    by true is = ap (λ b. is_some (option_map (λ (s : Subscription). s.limit) (cond b (Some e.1) (kept_in v r)))) is
    by false is = ap (λ b. is_some (option_map (λ (s : Subscription). s.limit) (cond b (Some e.1) (kept_in v r)))) is ∙ there

all_kept : (v : Subscribed) → AllByRecursion (λ (e : Rule × Subscription). IsSome (limit_in v e.0)) v
all_kept [] = tt
all_kept (e ∷ es) = (
  ap (λ b. is_some (option_map (λ (s : Subscription). s.limit) (cond b (Some e.1) (kept_in es e.0)))) (same_self e.0),
  all_weaker (λ (x : Rule × Subscription). IsSome (limit_in es x.0)) (λ (x : Rule × Subscription). IsSome (limit_in (e ∷ es) x.0)) (λ x there. more_kept es e x.0 there) es (all_kept es),
)

-- what stands in a rule's list is known, and what is shown of it has the rule
wants_rule : (p : Parts) (o : Option Rule) → rule_kept (wants_of p o) ≡ o
wants_rule p None = refl
wants_rule p (Some rule) = refl

of_some : (r : Rule) (o : Option Rule) → option_eq is_same (Some r) o ≡ true → is_of r o ≡ true
of_some r None e = e
of_some r (Some x) e = e

shown_rule : (p : Parts) (k : ℕ) (r : Rule) (st : StreamState) (pr : Progress) → option_eq is_same (Some r) st.rule ≡ true → IsSome (begun_by pr) → is_of r (rule_kept (shown_by p k st pr).wants) ≡ true
shown_rule p k r st (Progress.AwaitingReply serial index denial) of begun = ap (is_of r) (wants_rule p st.rule) ∙ of_some r st.rule of
shown_rule p k r st Progress.Active of begun = ap (is_of r) (wants_rule p st.rule) ∙ of_some r st.rule of
shown_rule p k r st (Progress.Denied m) of begun = absurd (false≢true begun)

some_of : {A B : Type 0} (f : A → B) (o : Option A) → is_some o ≡ is_some (option_map f o)
some_of f None = refl
some_of f (Some x) = refl

stands_so : (p : Parts) (k : ℕ) (r : Rule) (o : Option StreamState) → IsSome (stands_in (Some r) o) → IsSome o × (is_of r (rule_kept (shown p k o).wants) ≡ true)
stands_so p k r None there = absurd (false≢true there)
stands_so p k r (Some st) there = (refl, by (option_eq is_same (Some r) st.rule) refl there)
  where
    by : (b : Bool) → option_eq is_same (Some r) st.rule ≡ b → is_some (if b then begun_by st.progress else None) ≡ true → is_of r (rule_kept (shown_by p k st st.progress).wants) ≡ true
    by true is x = shown_rule p k r st st.progress is x
    by false is x = absurd (false≢true x)

found_by : {A B : Type 0} (f : A → B) (o : Option A) (y : B) → option_map f o ≡ Some y → (x : A) × (o ≡ Some x) × (y ≡ f x)
found_by f None y e = cc
found_by f (Some x) y e = (x, refl, cc)

any_at : {A : Type 0} (p : A → Bool) (xs : List A) (k : ℕ) (x : A) → slice_get xs k ≡ Some x → p x ≡ true → list_any p xs ≡ true
any_at p [] k x at e = absurd (none-some x at)
any_at p (y ∷ xs) zero x at e = let same : y ≡ x = cc in or_left (p y) (list_any p xs) (ap p same ∙ e)
any_at p (y ∷ xs) (suc k) x at e = or_right (p y) (list_any p xs) (any_at p xs k x at e)

lives_at : (p : Parts) (waiting : List ℕ) (h : StreamsPast) → AreKept p waiting → RefinesStreams (views p) h → (r : Rule) (k : ℕ) → IsSome (held_in p.lists.rules r k) → is_subscribed h.read h.streams r ≡ true
unfolding is_subscribed
lives_at p waiting h kept_ left r k there =
    let stands : is_some (stands_in (Some r) (state_at p k)) ≡ true = ap is_some (sym (kept_.lists (Some r) k)) ∙ sym (some_of is_some (held_in p.lists.rules r k)) ∙ there in
    let so = stands_so p k r (state_at p k) stands in
    let K = kept h.capacities.rules h.read in
    let at : option_map K (slice_get h.streams k) ≡ Some (view_at p k) = sym (slice_get-map K h.streams k) ∙ ap (λ qs. slice_get qs k) (sym left.shown) ∙ views_at p k (kept_.below k so.0) in
    let s = found_by K (slice_get h.streams k) (view_at p k) at in
    any_at (subscribes h.read r) h.streams k s.0 s.1
    (sym (subscribes_kept h.capacities.rules r h.read s.0) ∙ ap (λ (q : StreamView). is_of r (rule_kept q.wants)) (sym s.2) ∙ so.1)

-- The rules that are asked are no more than are subscribed.
pub rules_few : (p : Parts) (waiting : List ℕ) (h : StreamsPast) → AreKept p waiting → RefinesStreams (views p) h → AreDistinct p.lists.rules
    → ((r : Rule) → IsSome (limit_in p.lists.rules r) → (k : ℕ) × IsSome (held_in p.lists.rules r k)) → length p.lists.rules ≤ subscribed_rules h
rules_few p waiting h kept_ left distinct used =
    rules_le h p.lists.rules distinct
    (all_weaker (λ (e : Rule × Subscription). IsSome (limit_in p.lists.rules e.0)) (λ (e : Rule × Subscription). is_subscribed h.read h.streams e.0 ≡ true)
    (λ e there. let k = used e.0 there in lives_at p waiting h kept_ left e.0 k.0 k.1) p.lists.rules (all_kept p.lists.rules))
