-- What is kept of streams once there is one more.
use Rattle.std.proofs.{Common.{◌≡◌, ◌≢◌, ℕ, ◌+◌, inl, inr, refl, sym, ◌∙◌, ap, arith, Bool, true, false, ◌&&◌, ◌||◌, ◌==◌, if◌then◌else◌, is_some, List, [], ◌∷◌, ◌++◌, map, Option, Some, None, IsSome, unwrap_or}, lemmas.Bool.{cases_eq, eq-eqb, ne_eqb, and_left, and_right, and_from, or_left, or_right, false≢true}}
use Rattle.std.specs.{List.{list_any}, Option.{option_map, option_and_then, option_eq}}
use Rattle.peer_lists.specs.Holdings.{held_by, begun}
use Rattle.peer_streams.specs.{declared.lists.Lists.Lists, Names.{MessageView, Rule, StreamState, Progress, Subscription}, Rules.is_same, History.raised, Subscriptions.{Subscribed, kept_in, limit_in, held_in, limit_asked}, Refinement.{raise}, Keeping.{Parts, state_at, held_of, messages_of, shown, shown_by, wants_of, view_at, views, begun_by, stands_in, is_waiting, AreKept}}
use Rattle.peer_streams.proofs.{OneRule.{same_back, one_back, one_rule, one_self}, SameRule.{same_self, same_one}, RuledStreams.raise_held, Views.{view_along, wants_along, views_added, views_more}}

-- ---- what is known of no stream

none_since : {A : Type 0} (o : Option A) → (IsSome o → ⊥) → o ≡ None
none_since None without = refl
none_since (Some x) without = absurd (without refl)

none_of : {A : Type 0} (o : Option (Option A)) → option_map is_some o ≡ None → o ≡ None
none_of None e = refl
none_of (Some x) e = cc

-- nothing is known of the next stream
pub absent : {p : Parts} {waiting : List ℕ} → AreKept p waiting → state_at p p.made ≡ None
absent {p} kept = none_since (state_at p p.made) (λ there. let lt = kept.below p.made there in omega arith)

-- a stream of which nothing is known stands in no list
pub nowhere : {p : Parts} {waiting : List ℕ} → AreKept p waiting → (o : Option Rule) (k : ℕ) → state_at p k ≡ None → held_of p.lists o k ≡ None
nowhere {p} kept o k e = none_of (held_of p.lists o k) (kept.lists o k ∙ ap (stands_in o) e)

-- ---- a stream more

-- There is one stream more, of which this is known, and which stands so in its list.
pub record Adds (p q : Parts) (st : StreamState) (h : Option (Option (List MessageView))) : Type 0 where
  pub made : q.made ≡ p.made + 1
  pub states : (k : ℕ) → state_at q k ≡ (if p.made == k then Some st else state_at p k)
  pub held : (o : Option Rule) (k : ℕ) → held_of q.lists o k ≡ (if option_eq is_same st.rule o && p.made == k then h else held_of p.lists o k)

pub adds_here : {p q : Parts} {st : StreamState} {h : Option (Option (List MessageView))} → Adds p q st h → state_at q p.made ≡ Some st
adds_here {p} {q} {st} {h} a = a.states p.made ∙ ap (λ b. if b then Some st else state_at p p.made) (eq-eqb p.made p.made refl)

pub adds_held : {p q : Parts} {st : StreamState} {h : Option (Option (List MessageView))} → Adds p q st h → held_of q.lists st.rule p.made ≡ h
adds_held {p} {q} {st} {h} a =
    a.held st.rule p.made
    ∙ ap (λ b. if b then h else held_of p.lists st.rule p.made) (and_from (option_eq is_same st.rule st.rule) (p.made == p.made) (one_self st.rule) (eq-eqb p.made p.made refl))

pub adds_other : {p q : Parts} {st : StreamState} {h : Option (Option (List MessageView))} → Adds p q st h → (k : ℕ) → p.made ≢ k → state_at q k ≡ state_at p k
adds_other {p} {q} {st} {h} a k ne = a.states k ∙ ap (λ b. if b then Some st else state_at p k) (ne_eqb p.made k ne)

pub adds_held_other : {p q : Parts} {st : StreamState} {h : Option (Option (List MessageView))} → Adds p q st h → (o : Option Rule) (k : ℕ) → p.made ≢ k → held_of q.lists o k ≡ held_of p.lists o k
adds_held_other {p} {q} {st} {h} a o k ne =
    a.held o k ∙ ap (λ b. if b then h else held_of p.lists o k) (and_right (option_eq is_same st.rule o) (p.made == k) (ne_eqb p.made k ne))

-- it stands in its own list alone
stands_new : {p q : Parts} {waiting : List ℕ} {st : StreamState} {h : Option (Option (List MessageView))} → AreKept p waiting → Adds p q st h → option_map is_some h ≡ begun_by st.progress
    → (o : Option Rule) (b : Bool) → option_eq is_same st.rule o ≡ b → option_map is_some (held_of q.lists o p.made) ≡ stands_in o (Some st)
stands_new {p} {q} {waiting} {st} {h} kept a stands o true e =
    ap (option_map is_some) (a.held o p.made ∙ ap (λ b. if b then h else held_of p.lists o p.made) (and_from (option_eq is_same st.rule o) (p.made == p.made) e (eq-eqb p.made p.made refl)))
    ∙ stands ∙ sym (ap (λ b. if b then begun_by st.progress else None) (one_back o st.rule ∙ e))
stands_new {p} {q} {waiting} {st} {h} kept a stands o false e =
    ap (option_map is_some) (a.held o p.made ∙ ap (λ b. if b then h else held_of p.lists o p.made) (and_left (option_eq is_same st.rule o) (p.made == p.made) e) ∙ nowhere kept o p.made (absent kept))
    ∙ sym (ap (λ b. if b then begun_by st.progress else None) (one_back o st.rule ∙ e))

pub kept_more : {p q : Parts} {waiting : List ℕ} {st : StreamState} {h : Option (Option (List MessageView))} → AreKept p waiting → Adds p q st h → option_map is_some h ≡ begun_by st.progress
    → (more : List ℕ) → ((k : ℕ) → is_waiting (state_at q k) ≡ true → list_any (λ n. n == k) more ≡ true) → AreKept q more
kept_more {p} {q} {waiting} {st} {h} kept a stands more listed = record {
  below = λ k there. elim (cases_eq p.made k) [
    | inl e ↦ (let made = a.made in omega arith)
    | inr ne ↦ (let made = a.made in let lt = kept.below k (sym (ap is_some (adds_other a k ne)) ∙ there) in omega arith)
  ];
  lists = λ o k. elim (cases_eq p.made k) as (λ _. option_map is_some (held_of q.lists o k) ≡ stands_in o (state_at q k)) [
    | inl e ↦
        ap (λ j. option_map is_some (held_of q.lists o j)) (sym e) ∙ stands_new kept a stands o (option_eq is_same st.rule o) refl
        ∙ ap (stands_in o) (sym (adds_here a)) ∙ ap (λ j. stands_in o (state_at q j)) e
    | inr ne ↦ ap (option_map is_some) (adds_held_other a o k ne) ∙ kept.lists o k ∙ ap (stands_in o) (sym (adds_other a k ne))
  ];
  listed = listed;
}

-- one that doesn't wait: the numbers stay
pub listed_more : {p q : Parts} {waiting : List ℕ} {st : StreamState} {h : Option (Option (List MessageView))} → AreKept p waiting → Adds p q st h → is_waiting (Some st) ≡ false
    → (k : ℕ) → is_waiting (state_at q k) ≡ true → list_any (λ n. n == k) waiting ≡ true
listed_more {p} {q} kept a idle k is = elim (cases_eq p.made k) [
  | inl e ↦ absurd (false≢true (sym idle ∙ ap is_waiting (sym (adds_here a)) ∙ ap (λ j. is_waiting (state_at q j)) e ∙ is))
  | inr ne ↦ kept.listed k (ap is_waiting (sym (adds_other a k ne)) ∙ is)
]

any_front : (p : ℕ → Bool) (xs ys : List ℕ) → list_any p xs ≡ true → list_any p (xs ++ ys) ≡ true
any_front p [] ys e = absurd (false≢true e)
any_front p (x ∷ xs) ys e = by (p x) refl (any_front p xs ys)
  where
    by : (b : Bool) → p x ≡ b → (list_any p xs ≡ true → list_any p (xs ++ ys) ≡ true) → (p x || list_any p (xs ++ ys)) ≡ true
    by true is rest = or_left (p x) (list_any p (xs ++ ys)) is
    by false is rest = or_right (p x) (list_any p (xs ++ ys)) (rest (sym (ap (λ b. b || list_any p xs) is) ∙ e))

any_last : (p : ℕ → Bool) (xs : List ℕ) (y : ℕ) → p y ≡ true → list_any p (xs ++ y ∷ []) ≡ true
any_last p [] y e = or_left (p y) false e
any_last p (x ∷ xs) y e = or_right (p x) (list_any p (xs ++ y ∷ [])) (any_last p xs y e)

-- one that waits: its number is one more
pub listed_waits : {p q : Parts} {waiting : List ℕ} {st : StreamState} {h : Option (Option (List MessageView))} → AreKept p waiting → Adds p q st h
    → (k : ℕ) → is_waiting (state_at q k) ≡ true → list_any (λ n. n == k) (waiting ++ p.made ∷ []) ≡ true
listed_waits {p} {q} {waiting} kept a k is = elim (cases_eq p.made k) [
  | inl e ↦ any_last (λ n. n == k) waiting p.made (eq-eqb p.made k e)
  | inr ne ↦ any_front (λ n. n == k) waiting (p.made ∷ []) (kept.listed k (ap is_waiting (sym (adds_other a k ne)) ∙ is))
]

-- ---- how the list of them changes

pub added_plain : {p q : Parts} {st : StreamState} {h : Option (Option (List MessageView))} → Adds p q st h → ((r : Rule) → limit_in q.lists.rules r ≡ limit_in p.lists.rules r)
    → views q ≡ views p ++ shown q p.made (Some st) ∷ []
added_plain {p} {q} a limits =
    views_more p q a.made (λ k lt. let ne : p.made ≢ k = λ e. omega (arith, e) in view_along p q k (adds_other a k ne) limits (λ o. adds_held_other a o k ne))
    ∙ ap (λ o. views p ++ shown q p.made o ∷ []) (adds_here a)

-- what a rule's streams may hold, once a stream asks for more
pub record Raises (p q : Parts) (rule : Rule) (asked : Option ℕ) : Type 0 where
  pub limits : (r : Rule) → limit_in q.lists.rules r ≡ (if is_same rule r then Some (limit_asked (limit_in p.lists.rules rule) rule asked) else limit_in p.lists.rules r)

raised_by : (o : Option ℕ) (rule : Rule) (asked : Option ℕ) → IsSome o → limit_asked o rule asked ≡ raised asked (unwrap_or o 0)
raised_by None rule asked there = absurd (false≢true there)
raised_by (Some limit) rule asked there = refl

raised_limit : (p q : Parts) (rule : Rule) (asked : Option ℕ) (r : Rule) → Raises p q rule asked → IsSome (limit_in p.lists.rules r)
    → unwrap_or (limit_in q.lists.rules r) 0 ≡ (if is_same r rule then raised asked (unwrap_or (limit_in p.lists.rules r) 0) else unwrap_or (limit_in p.lists.rules r) 0)
raised_limit p q rule asked r raises there = by (is_same rule r) refl
  where
    by : (b : Bool) → is_same rule r ≡ b → unwrap_or (limit_in q.lists.rules r) 0 ≡ (if is_same r rule then raised asked (unwrap_or (limit_in p.lists.rules r) 0) else unwrap_or (limit_in p.lists.rules r) 0)
    by true e =
        ap (λ o. unwrap_or o 0) (raises.limits r ∙ ap (λ b. if b then Some (limit_asked (limit_in p.lists.rules rule) rule asked) else limit_in p.lists.rules r) e)
        ∙ ap (λ s. limit_asked (limit_in p.lists.rules s) s asked) (same_one rule r e) ∙ raised_by (limit_in p.lists.rules r) r asked there
        ∙ sym (ap (λ b. if b then raised asked (unwrap_or (limit_in p.lists.rules r) 0) else unwrap_or (limit_in p.lists.rules r) 0) (same_back r rule ∙ e))
    by false e =
        ap (λ o. unwrap_or o 0) (raises.limits r ∙ ap (λ b. if b then Some (limit_asked (limit_in p.lists.rules rule) rule asked) else limit_in p.lists.rules r) e)
        ∙ sym (ap (λ b. if b then raised asked (unwrap_or (limit_in p.lists.rules r) 0) else unwrap_or (limit_in p.lists.rules r) 0) (same_back r rule ∙ e))

raised_wants : (p q : Parts) (rule : Rule) (asked : Option ℕ) (o : Option Rule) → Raises p q rule asked → ((r : Rule) → o ≡ Some r → IsSome (limit_in p.lists.rules r))
    → wants_of q o ≡ option_map (raise rule asked) (wants_of p o)
raised_wants p q rule asked None limits there = refl
raised_wants p q rule asked (Some r) limits there = ap (λ n. Some (record { rule = r; limit = n })) (raised_limit p q rule asked r limits (there r refl))

-- the rule of a stream that stands in its list is subscribed
limit_there : (o : Option Subscription) (k : ℕ) → IsSome (option_and_then (λ (s : Subscription). held_by s.list k) o) → IsSome (option_map (λ (s : Subscription). s.limit) o)
limit_there None k there = absurd (false≢true there)
limit_there (Some s) k there = refl

pub limit_held : (v : Subscribed) (r : Rule) (k : ℕ) → IsSome (held_in v r k) → IsSome (limit_in v r)
limit_held v r k there = limit_there (kept_in v r) k there

some_map : {A : Type 0} (o : Option (Option A)) (b : Bool) → option_map is_some o ≡ Some b → IsSome o
some_map None b e = cc
some_map (Some x) b e = refl

-- a stream that takes messages, or waits to, stands in the list of its rule
pub stands_there : {p : Parts} {waiting : List ℕ} → AreKept p waiting → (k : ℕ) (st : StreamState) (b : Bool) → state_at p k ≡ Some st → begun_by st.progress ≡ Some b → IsSome (held_of p.lists st.rule k)
stands_there {p} kept k st b at begun =
    some_map (held_of p.lists st.rule k) b (kept.lists st.rule k ∙ ap (stands_in st.rule) at ∙ ap (λ c. if c then begun_by st.progress else None) (one_self st.rule) ∙ begun)

pub capacity_there : {p : Parts} {waiting : List ℕ} → AreKept p waiting → (k : ℕ) (st : StreamState) (b : Bool) (r : Rule) → state_at p k ≡ Some st → begun_by st.progress ≡ Some b → st.rule ≡ Some r → IsSome (limit_in p.lists.rules r)
capacity_there {p} kept k st b r at begun is =
    limit_held p.lists.rules r k (sym (ap (λ o. is_some (held_of p.lists o k)) is) ∙ stands_there kept k st b at begun)

raised_shown : (p q : Parts) (rule : Rule) (asked : Option ℕ) (k : ℕ) (st : StreamState) (pr : Progress) → ((b : Bool) → begun_by pr ≡ Some b → wants_of q st.rule ≡ option_map (raise rule asked) (wants_of p st.rule))
    → held_of q.lists st.rule k ≡ held_of p.lists st.rule k → shown_by q k st pr ≡ raise_held rule asked (shown_by p k st pr)
raised_shown p q rule asked k st (Progress.AwaitingReply serial index denial) wants held =
    ap (λ w. record (shown_by p k st (Progress.AwaitingReply serial index denial)) { wants = w }) (wants false refl)
raised_shown p q rule asked k st (Progress.Denied m) wants held = refl
raised_shown p q rule asked k st Progress.Active wants held =
    ap (λ w. record (shown_by q k st Progress.Active) { wants = w }) (wants true refl)
    ∙ ap (λ h. record (raise_held rule asked (shown_by p k st Progress.Active)) { items = messages_of h }) held

raised_view : {p q : Parts} {waiting : List ℕ} → AreKept p waiting → (rule : Rule) (asked : Option ℕ) (k : ℕ) → Raises p q rule asked → state_at q k ≡ state_at p k → ((o : Option Rule) → held_of q.lists o k ≡ held_of p.lists o k)
    → view_at q k ≡ raise_held rule asked (view_at p k)
raised_view {p} {q} kept rule asked k limits same held = ap (shown q k) same ∙ by (state_at p k) refl
  where
    by : (o : Option StreamState) → state_at p k ≡ o → shown q k o ≡ raise_held rule asked (shown p k o)
    by None at = refl
    by (Some st) at =
        raised_shown p q rule asked k st st.progress (λ b begun. raised_wants p q rule asked st.rule limits (λ r is. capacity_there kept k st b r at begun is)) (held st.rule)

pub added_ruled : {p q : Parts} {waiting : List ℕ} {st : StreamState} {h : Option (Option (List MessageView))} → AreKept p waiting → Adds p q st h → (rule : Rule) (asked : Option ℕ) → Raises p q rule asked
    → views q ≡ map (raise_held rule asked) (views p) ++ shown q p.made (Some st) ∷ []
added_ruled {p} {q} kept a rule asked limits =
    views_added (raise_held rule asked) p q a.made (λ k lt. let ne : p.made ≢ k = λ e. omega (arith, e) in raised_view kept rule asked k limits (adds_other a k ne) (λ o. adds_held_other a o k ne))
    ∙ ap (λ o. map (raise_held rule asked) (views p) ++ shown q p.made o ∷ []) (adds_here a)

-- the capacity of the rule then
pub raised_own : {p q : Parts} (rule : Rule) (asked : Option ℕ) → Raises p q rule asked → unwrap_or (limit_in q.lists.rules rule) 0 ≡ limit_asked (limit_in p.lists.rules rule) rule asked
raised_own {p} {q} rule asked raises =
    ap (λ o. unwrap_or o 0) (raises.limits rule ∙ ap (λ b. if b then Some (limit_asked (limit_in p.lists.rules rule) rule asked) else limit_in p.lists.rules rule) (same_self rule))

-- ---- a stream that holds what another holds

clone_held : (l : Lists) (rule o : Option Rule) (k made j : ℕ)
    → (if option_eq is_same rule o && made == j then held_of l o k else held_of l o j) ≡ (if option_eq is_same rule o && made == j then held_of l rule k else held_of l o j)
clone_held l rule o k made j = by (option_eq is_same rule o) refl
  where
    by : (b : Bool) → option_eq is_same rule o ≡ b → (if option_eq is_same rule o && made == j then held_of l o k else held_of l o j) ≡ (if option_eq is_same rule o && made == j then held_of l rule k else held_of l o j)
    by true e = ap (λ x. if option_eq is_same rule o && made == j then held_of l x k else held_of l o j) (sym (one_rule rule o e))
    by false e =
        ap (λ c. if c then held_of l o k else held_of l o j) (and_left (option_eq is_same rule o) (made == j) e)
        ∙ sym (ap (λ c. if c then held_of l rule k else held_of l o j) (and_left (option_eq is_same rule o) (made == j) e))

-- a copy of what is known of a stream stands where the original does
pub adds_clone : (p q : Parts) (st copy : StreamState) (k : ℕ) → q.made ≡ p.made + 1 → ((j : ℕ) → state_at q j ≡ (if p.made == j then Some copy else state_at p j)) → copy ≡ st
    → ((o : Option Rule) (j : ℕ) → held_of q.lists o j ≡ (if option_eq is_same copy.rule o && p.made == j then held_of p.lists o k else held_of p.lists o j)) → Adds p q st (held_of p.lists st.rule k)
adds_clone p q st copy k made states is held = record {
  made = made;
  states = λ j. states j ∙ ap (λ x. if p.made == j then Some x else state_at p j) is;
  held = λ o j.
      held o j ∙ ap (λ (x : StreamState). if option_eq is_same x.rule o && p.made == j then held_of p.lists o k else held_of p.lists o j) is
      ∙ clone_held p.lists st.rule o k p.made j;
}

-- it takes messages
pub stands_active : {p : Parts} {waiting : List ℕ} → AreKept p waiting → (k : ℕ) (st : StreamState) → state_at p k ≡ Some st → st.progress ≡ Progress.Active → option_map is_some (held_of p.lists st.rule k) ≡ Some true
stands_active {p} kept k st at active = kept.lists st.rule k ∙ ap (stands_in st.rule) at ∙ ap (λ c. if c then begun_by st.progress else None) (one_self st.rule) ∙ ap begun_by active

pub clone_shown : {p q : Parts} {st : StreamState} {h : Option (Option (List MessageView))} → Adds p q st h → (k : ℕ) → h ≡ held_of p.lists st.rule k → ((r : Rule) → limit_in q.lists.rules r ≡ limit_in p.lists.rules r)
    → shown_by q p.made st Progress.Active ≡ shown_by p k st Progress.Active
clone_shown {p} {q} {st} a k is limits =
    ap (λ w. record (shown_by q p.made st Progress.Active) { wants = w }) (wants_along p q st.rule (λ r own. limits r))
    ∙ ap (λ o. record (shown_by p k st Progress.Active) { items = messages_of o }) (adds_held a ∙ is)

-- ---- a stream that waited begins

pub begins : (b : Bool) (o : Option (Option (List MessageView))) → (if b then option_map begun (if b then Some None else o) else (if b then Some None else o)) ≡ (if b then Some (Some []) else o)
begins true o = refl
begins false o = refl
