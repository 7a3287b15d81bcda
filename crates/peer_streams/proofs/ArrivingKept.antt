-- What is stored changes at one stream: what is known of it, where it stands, and what it holds. What is kept of the others stays.
use Rattle.std.proofs.{Common.{◌≡◌, ◌≢◌, ℕ, ◌<◌, inl, inr, refl, sym, ◌∙◌, ap, subst, Bool, true, false, if◌then◌else◌, ◌||◌, ◌==◌, List, [], Option, Some, None, IsSome, is_some}, lemmas.Bool.{cases_eq, eq-eqb, ne_eqb, false≢true}}
use Rattle.std.specs.{List.list_any, Option.{option_map, option_eq, unwrap_or}}
use Rattle.peer_streams.specs.{Names.{Rule, StreamState, Progress}, Rules.is_same, Subscriptions.{limit_in, held_in}, Refinement.{StreamView, Wants}, Keeping.{Parts, state_at, held_of, messages_of, shown, shown_by, wants_of, view_at, stands_in, begun_by, is_waiting, AreKept}, Arriving.{Changes, ChangesEach}}
use Rattle.peer_streams.proofs.SameRule.{same_self, same_one}

-- ---- whether two rules, or none, are one

same_back : (r s : Rule) → is_same r s ≡ true → is_same s r ≡ true
same_back r s e = ap (λ x. is_same s x) (same_one r s e) ∙ same_self s

swapped : (r s : Rule) → is_same r s ≡ is_same s r
swapped r s = by (is_same r s) (is_same s r) refl refl
  where
    by : (a b : Bool) → is_same r s ≡ a → is_same s r ≡ b → a ≡ b
    by true true e f = refl
    by false false e f = refl
    by true false e f = sym (same_back r s e) ∙ f
    by false true e f = sym e ∙ same_back s r f

pub alike : (o u : Option Rule) → option_eq is_same o u ≡ option_eq is_same u o
alike None None = refl
alike None (Some s) = refl
alike (Some r) None = refl
alike (Some r) (Some s) = swapped r s

pub alike_one : (o u : Option Rule) → option_eq is_same o u ≡ true → o ≡ u
alike_one None None e = refl
alike_one None (Some s) e = absurd (false≢true e)
alike_one (Some r) None e = absurd (false≢true e)
alike_one (Some r) (Some s) e = ap (λ x. Some x) (same_one r s e)

pub alike_self : (o : Option Rule) → option_eq is_same o o ≡ true
alike_self None = refl
alike_self (Some r) = same_self r

-- ---- one stream changes

-- `now` is known of the stream with this number then. Where another stream stands, its rule keeps its capacity.
pub record Step (k : ℕ) (now : Option StreamState) (p q : Parts) : Type 0 where
  pub made : q.made ≡ p.made
  pub here : state_at q k ≡ now
  pub there : (j : ℕ) → k ≢ j → state_at q j ≡ state_at p j
  pub stands : (o : Option Rule) → option_map is_some (held_of q.lists o k) ≡ stands_in o now
  pub held : (o : Option Rule) (j : ℕ) → k ≢ j → held_of q.lists o j ≡ held_of p.lists o j
  pub limits : (r : Rule) (j : ℕ) → k ≢ j → IsSome (held_in p.lists.rules r j) → limit_in q.lists.rules r ≡ limit_in p.lists.rules r
  pub known : IsSome now → IsSome (state_at p k)
  pub waited : is_waiting now ≡ true → is_waiting (state_at p k) ≡ true

pub step_kept : (k : ℕ) (now : Option StreamState) (p q : Parts) (waiting : List ℕ) → Step k now p q → AreKept p waiting → AreKept q waiting
step_kept k now p q waiting s was = record {
  below = λ j there. elim (cases_eq k j) [
    | inl e ↦ subst (λ n. j < n) (sym s.made) (subst (λ i. i < p.made) e (was.below k (s.known (sym (ap is_some (sym (ap (state_at q) e) ∙ s.here)) ∙ there))))
    | inr ne ↦ subst (λ n. j < n) (sym s.made) (was.below j (sym (ap is_some (s.there j ne)) ∙ there))
  ];
  lists = λ o j. elim (cases_eq k j) as (λ _. option_map is_some (held_of q.lists o j) ≡ stands_in o (state_at q j)) [
    | inl e ↦ ap (λ i. option_map is_some (held_of q.lists o i)) (sym e) ∙ s.stands o ∙ ap (stands_in o) (sym s.here ∙ ap (state_at q) e)
    | inr ne ↦ ap (option_map is_some) (s.held o j ne) ∙ was.lists o j ∙ ap (stands_in o) (sym (s.there j ne))
  ];
  listed = λ j there. elim (cases_eq k j) [
    | inl e ↦ subst (λ i. list_any (λ n. n == i) waiting ≡ true) e (was.listed k (s.waited (sym (ap is_waiting (sym (ap (state_at q) e) ∙ s.here)) ∙ there)))
    | inr ne ↦ was.listed j (sym (ap is_waiting (s.there j ne)) ∙ there)
  ];
}

-- ---- what is shown of the others

pub wants_so : (p q : Parts) (o : Option Rule) → ((r : Rule) → o ≡ Some r → limit_in q.lists.rules r ≡ limit_in p.lists.rules r) → wants_of q o ≡ wants_of p o
wants_so p q None e = refl
wants_so p q (Some r) e = ap (λ (l : Option ℕ). Some (record { rule = r; limit = unwrap_or l 0 })) (e r refl)

-- where a stream stands in a list, its rule is one of that list's
shown_so : (p q : Parts) (j : ℕ) (st : StreamState) (pr : Progress) → (IsSome (begun_by pr) → (r : Rule) → st.rule ≡ Some r → limit_in q.lists.rules r ≡ limit_in p.lists.rules r) → held_of q.lists st.rule j ≡ held_of p.lists st.rule j
    → shown_by q j st pr ≡ shown_by p j st pr
shown_so p q j st (Progress.AwaitingReply serial index denial) limits held =
    ap (λ (w : Option Wants). record (shown_by p j st (Progress.AwaitingReply serial index denial)) { wants = w }) (wants_so p q st.rule (limits refl))
shown_so p q j st (Progress.Denied m) limits held = refl
shown_so p q j st Progress.Active limits held =
    ap (λ (w : Option Wants). record (shown_by q j st Progress.Active) { wants = w }) (wants_so p q st.rule (limits refl))
    ∙ ap (λ h. record (shown_by p j st Progress.Active) { items = messages_of h }) held

pub stands_at : (st : StreamState) → stands_in st.rule (Some st) ≡ begun_by st.progress
stands_at st = ap (λ b. if b then begun_by st.progress else None) (alike_self st.rule)

map_some : {A B : Type 0} (f : A → B) (o : Option A) → is_some (option_map f o) ≡ is_some o
map_some f None = refl
map_some f (Some x) = refl

-- a stream that was denied or is closed apart, each stands in the list of its rule
pub stands_there : (p : Parts) (waiting : List ℕ) (j : ℕ) (st : StreamState) (r : Rule) → AreKept p waiting → state_at p j ≡ Some st → st.rule ≡ Some r → IsSome (begun_by st.progress) → IsSome (held_in p.lists.rules r j)
stands_there p waiting j st r was at rule begun =
    sym (map_some is_some (held_in p.lists.rules r j)) ∙ ap is_some (was.lists (Some r) j ∙ ap (stands_in (Some r)) at ∙ ap (λ o. stands_in o (Some st)) (sym rule) ∙ stands_at st) ∙ begun

pub step_others : (k : ℕ) (now : Option StreamState) (p q : Parts) (waiting : List ℕ) → Step k now p q → AreKept p waiting → (j : ℕ) → k ≢ j → view_at q j ≡ view_at p j
step_others k now p q waiting s was j ne = ap (shown q j) (s.there j ne) ∙ by (state_at p j) refl
  where
    by : (o : Option StreamState) → state_at p j ≡ o → shown q j o ≡ shown p j o
    by None at = refl
    by (Some st) at = shown_so p q j st st.progress (λ begun r rule. s.limits r j ne (stands_there p waiting j st r was at rule begun)) (s.held st.rule j ne)

pub step_changes : (f : StreamView → StreamView) (k : ℕ) (now : Option StreamState) (p q : Parts) (waiting : List ℕ) → Step k now p q → AreKept p waiting → shown q k now ≡ f (view_at p k) → Changes f k waiting p q
step_changes f k now p q waiting s was one = record {
  kept = step_kept k now p q waiting s was;
  one = ap (shown q k) s.here ∙ one;
  others = step_others k now p q waiting s was;
}

-- ---- one after the other

pub each_none : (f : StreamView → StreamView) (p : Parts) (waiting : List ℕ) → AreKept p waiting → ChangesEach f [] waiting p p
each_none f p waiting was = record { kept = was; each = λ j. refl }

or_true : (b : Bool) → (b || true) ≡ true
or_true true = refl
or_true false = refl

or_false : (b : Bool) → (b || false) ≡ b
or_false true = refl
or_false false = refl

pub each_more : (f : StreamView → StreamView) (k : ℕ) (ks waiting : List ℕ) (p q r : Parts) → ((v : StreamView) → f (f v) ≡ f v) → ChangesEach f ks waiting p q → Changes f k waiting q r → (ls : List ℕ)
    → ((j : ℕ) → list_any (λ n. n == j) ls ≡ (list_any (λ n. n == j) ks || (k == j))) → ChangesEach f ls waiting p r
each_more f k ks waiting p q r twice so one ls more = record { kept = one.kept; each = λ j. each_at j }
  where
    here_by : (b : Bool) (v w x : StreamView) → v ≡ (if b then f x else x) → w ≡ f v → w ≡ f x
    here_by true v w x e i = i ∙ ap f e ∙ twice x
    here_by false v w x e i = i ∙ ap f e

    each_at : (j : ℕ) → view_at r j ≡ (if list_any (λ n. n == j) ls then f (view_at p j) else view_at p j)
    each_at j = elim (cases_eq k j) as (λ _. view_at r j ≡ (if list_any (λ n. n == j) ls then f (view_at p j) else view_at p j)) [
      | inl e ↦
          here_by (list_any (λ n. n == j) ks) (view_at q j) (view_at r j) (view_at p j) (so.each j) (subst (λ i. view_at r i ≡ f (view_at q i)) e one.one)
          ∙ ap (λ b. if b then f (view_at p j) else view_at p j) (sym (more j ∙ ap (λ b. list_any (λ n. n == j) ks || b) (eq-eqb k j e) ∙ or_true (list_any (λ n. n == j) ks)))
      | inr ne ↦
          one.others j ne ∙ so.each j
          ∙ ap (λ b. if b then f (view_at p j) else view_at p j) (sym (more j ∙ ap (λ b. list_any (λ n. n == j) ks || b) (ne_eqb k j ne) ∙ or_false (list_any (λ n. n == j) ks)))
    ]
