-- How many rules have a stream that holds more than it may, and what holds of each, before and after a change.
use Rattle.std.proofs.{Common.{◌≡◌, ℕ, ◌+◌, ◌<◌, ◌≤◌, refl, sym, ◌∙◌, ap, subst, arith, Bool, true, false, cond, is_some, List, [], ◌∷◌, ◌++◌, length, get_or, take, Option, Some, None, unwrap_or}, lemmas.Bool.{false≢true, ltb-true, ltb-false}, lemmas.Option.{none-some, same_Some, slice_get_within, slice_get-get_or, slice_get-map, get_or_from_slice_get}, lemmas.List.{take_all, take_more}, lemmas.List.Sums.{sum_by-cons, sum_by_push, sum_by_more, sum_by-swap_remove}, lemmas.List.Elements.{All-push, recursion_from_All}, lemmas.Map.Entries.{sum_by-set_value, length-values_of}}
use Rattle.std.specs.{Int.from_bool, List.{AllByRecursion, All, count_by, sum_by, slice_get, position, swap_remove}, Map.{lookup, set_value, values_of, keys_of}, Ordering.nat_cmp, BTreeMap.is_at, Option.{option_map, option_and_then}}
use Rattle.indexmap.specs.IndexMap.{swap_remove_entry}
use Rattle.indexmap.proofs.MapLemmas.{Found-position, some_index, swap_remove_entry-found}
use Rattle.peer_lists.specs.Holdings.{Holdings, held_by, most_of, count_of}
use Rattle.peer_streams.specs.{Names.{MessageView, Rule, Subscription}, Rules.is_same, Subscriptions.{Subscribed, kept_in, limit_in, held_in, is_full_one, AreDistinct, MostIsHeld}}
use Rattle.peer_streams.proofs.SameRule.{same_one, same_self}

-- ---- what holds of each

module _ (P : Subscription → Type 0) where
  pub each_found : (t : Rule → Bool) (es : Subscribed) (s : Subscription) → AllByRecursion (λ (e : Rule × Subscription). P e.1) es → lookup t es ≡ Some s → P s
  each_found t [] s h e = absurd (none-some s e)
  each_found t (x ∷ es) s h e = by (t x.0) e (each_found t es s h.1)
    where
      by : (b : Bool) → cond b (Some x.1) (lookup t es) ≡ Some s → (lookup t es ≡ Some s → P s) → P s
      by true i rest = subst P (same_Some x.1 s i) h.0
      by false i rest = rest i

  pub each_set : (t : Rule → Bool) (es : Subscribed) (w : Subscription) → P w → AllByRecursion (λ (e : Rule × Subscription). P e.1) es → AllByRecursion (λ (e : Rule × Subscription). P e.1) (set_value t es w)
  each_set t [] w p h = h
  each_set t (x ∷ es) w p h = by (t x.0) (each_set t es w p h.1)
    where
      by : (b : Bool) → AllByRecursion (λ (e : Rule × Subscription). P e.1) (set_value t es w) → AllByRecursion (λ (e : Rule × Subscription). P e.1) (cond b ((x.0, w) ∷ es) (x ∷ set_value t es w))
      by true rest = (p, h.1)
      by false rest = (h.0, rest)

  pub each_push : (es : Subscribed) (x : Rule × Subscription) → P x.1 → AllByRecursion (λ (e : Rule × Subscription). P e.1) es → AllByRecursion (λ (e : Rule × Subscription). P e.1) (es ++ x ∷ [])
  each_push [] x p h = (p, h)
  each_push (y ∷ es) x p h = (h.0, each_push es x p h.1)

-- ---- the count

abbrev pub one : Subscription → ℕ
one s = cond (is_full_one s) 1 0

abbrev pub counted : Subscribed → ℕ
counted v = count_by (λ (e : Rule × Subscription). is_full_one e.1) v

number : (b : Bool) → cond b 1 0 ≡ from_bool b
number true = refl
number false = refl

values_count : (es : Subscribed) → sum_by one (values_of es) ≡ counted es
values_count [] = refl
values_count (e ∷ es) = sum_by-cons one e.1 (values_of es) ∙ ap (λ n. one e.1 + n) (values_count es) ∙ sym (sum_by-cons (λ (x : Rule × Subscription). one x.1) e es)

-- one rule changes
pub count_set : (t : Rule → Bool) (v u : Subscribed) (s w : Subscription) (full : ℕ) (was is : Bool) → full ≡ counted v → lookup t v ≡ Some s → u ≡ set_value t v w → was ≡ is_full_one s → is ≡ is_full_one w
    → full + from_bool is ≡ counted u + from_bool was
count_set t v u s w full was is f at e a b =
    let changed = sum_by-set_value one t v s w at in
    let new : counted u ≡ sum_by one (values_of (set_value t v w)) = ap counted e ∙ sym (values_count (set_value t v w)) in
    let before : from_bool was ≡ one s = ap from_bool a ∙ sym (number (is_full_one s)) in
    let after : from_bool is ≡ one w = ap from_bool b ∙ sym (number (is_full_one w)) in
    omega (arith, f, changed, new, before, after, values_count v)

-- a rule comes
pub count_push : (v : Subscribed) (x : Rule × Subscription) (full : ℕ) (is : Bool) → full ≡ counted v → is ≡ is_full_one x.1 → full + from_bool is ≡ counted (v ++ x ∷ []) + from_bool false
count_push v x full is f b =
    let after : from_bool is ≡ one x.1 = ap from_bool b ∙ sym (number (is_full_one x.1)) in
    let none : from_bool false ≡ 0 = refl in
    omega (arith, f, after, none, sum_by_push (λ (e : Rule × Subscription). one e.1) v x)

-- a rule goes: the last takes its place
pub swapped : (t : Rule → Bool) (es : Subscribed) (w : Subscription) (d : Rule × Subscription) → lookup t es ≡ Some w
    → (i : ℕ) × (i < length es) × ((get_or es i d).1 ≡ w) × (swap_remove_entry t es ≡ swap_remove es i d)
swapped t es w d at = by (position t (keys_of es)) refl
  where
    by : (o : Option ℕ) → position t (keys_of es) ≡ o → (i : ℕ) × (i < length es) × ((get_or es i d).1 ≡ w) × (swap_remove_entry t es ≡ swap_remove es i d)
    by None p = absurd (false≢true (sym (ap is_some p) ∙ some_index t es ∙ ap is_some at))
    by (Some i) p =
        let found = Found-position t es i p in
        let there : Some (get_or es i d).1 ≡ Some w =
        ap (option_map (λ (e : Rule × Subscription). e.1)) (sym (slice_get-get_or es i d found.within)) ∙ sym (slice_get-map (λ (e : Rule × Subscription). e.1) es i) ∙ sym found.value ∙ at in
        (i, found.within, same_Some (get_or es i d).1 w there, swap_remove_entry-found t es i d p)

pub count_swap : (t : Rule → Bool) (es : Subscribed) (w : Subscription) (d : Rule × Subscription) → lookup t es ≡ Some w → is_full_one w ≡ false → counted (swap_remove_entry t es) ≡ counted es
count_swap t es w d at empty =
    let x = swapped t es w d at in
    let none : one (get_or es x.0 d).1 ≡ 0 = ap one x.2 ∙ ap (λ b. cond b 1 0) empty in
    ap counted x.3 ∙ omega (arith, sum_by-swap_remove (λ (e : Rule × Subscription). one e.1) es x.0 d x.1, none)

-- one more is counted
pub count_next : (xs : List Subscription) (i n : ℕ) (x : Subscription) (b : Bool) → slice_get xs i ≡ Some x → n ≡ count_by is_full_one (take i xs) → b ≡ is_full_one x → n + from_bool b ≡ count_by is_full_one (take (i + 1) xs)
count_next xs i n x b at e is =
    let here : one (get_or xs i x) ≡ from_bool b = ap one (get_or_from_slice_get xs i x x at) ∙ number (is_full_one x) ∙ ap from_bool (sym is) in
    omega (arith, e, here, sum_by_more one xs i x (slice_get_within xs i x at))

pub told_next : (P : Subscription → Type 0) (xs : List Subscription) (i : ℕ) (x : Subscription) → slice_get xs i ≡ Some x → P x → All P (take i xs) → All P (take (i + 1) xs)
told_next P xs i x at p h =
    subst (All P) (sym (take_more xs i x (slice_get_within xs i x at) ∙ ap (λ y. take i xs ++ y ∷ []) (get_or_from_slice_get xs i x x at))) (All-push P (take i xs) x h p)

each_value : (P : Subscription → Type 0) (es : Subscribed) → AllByRecursion P (values_of es) → AllByRecursion (λ (e : Rule × Subscription). P e.1) es
each_value P [] h = tt
each_value P (e ∷ es) h = (h.0, each_value P es h.1)

pub told_all : (P : Subscription → Type 0) (es : Subscribed) (i : ℕ) → length es ≤ i → All P (take i (values_of es)) → AllByRecursion (λ (e : Rule × Subscription). P e.1) es
told_all P es i le h =
    let whole : take i (values_of es) ≡ values_of es = take_all i (values_of es) (omega (arith, length-values_of es)) in
    each_value P es (recursion_from_All P (values_of es) (subst (All P) whole h))

pub counted_all : (es : Subscribed) (i n : ℕ) → length es ≤ i → n ≡ count_by is_full_one (take i (values_of es)) → n ≡ counted es
counted_all es i n le e =
    e ∙ ap (count_by is_full_one) (take_all i (values_of es) (omega (arith, length-values_of es))) ∙ values_count es

-- ---- the most that streams hold

held_le : (l : Holdings) (k : ℕ) (ms : List MessageView) → held_by l k ≡ Some (Some ms) → length ms ≤ most_of l
held_le [] k ms e = absurd (none-some (Some ms) e)
held_le (x ∷ l) k ms e = by (is_at (nat_cmp k) x.0) e (held_le l k ms)
  where
    by : (b : Bool) → cond b (Some x.1) (held_by l k) ≡ Some (Some ms) → (held_by l k ≡ Some (Some ms) → length ms ≤ most_of l) → length ms ≤ most_of (x ∷ l)
    by true i rest = (let n : count_of x.1 ≡ length ms = ap count_of (same_Some x.1 (Some ms) i) in omega arith)
    by false i rest = (let n : length ms ≤ most_of l = rest i in omega arith)

-- where some rule is counted, a stream of it holds more than it may
pub over_one : (v : Subscribed) → AreDistinct v → AllByRecursion (λ (e : Rule × Subscription). MostIsHeld e.1.list) v → 0 < counted v
    → (r : Rule) × (k : ℕ) × (ms : List MessageView) × (held_in v r k ≡ Some (Some ms)) × (unwrap_or (limit_in v r) 0 < length ms)
over_one [] apart told lt = absurd (omega arith)
over_one (e ∷ es) apart told lt = by (is_full_one e.1) refl (over_one es apart.1 told.1)
  where
    head : kept_in (e ∷ es) e.0 ≡ Some e.1
    head = ap (λ b. cond b (Some e.1) (kept_in es e.0)) (same_self e.0)

    later : (r : Rule) (k : ℕ) (ms : List MessageView) (b : Bool) → is_same r e.0 ≡ b → held_in es r k ≡ Some (Some ms) → unwrap_or (limit_in es r) 0 < length ms
        → (held_in (e ∷ es) r k ≡ Some (Some ms)) × (unwrap_or (limit_in (e ∷ es) r) 0 < length ms)
    later r k ms true same held over = absurd (none-some (Some ms) (sym (ap (option_and_then (λ (x : Subscription). held_by x.list k)) (ap (kept_in es) (same_one r e.0 same) ∙ apart.0)) ∙ held))
    later r k ms false same held over =
        let step : kept_in (e ∷ es) r ≡ kept_in es r = ap (λ b. cond b (Some e.1) (kept_in es r)) same in (
          ap (option_and_then (λ (x : Subscription). held_by x.list k)) step ∙ held,
          subst (λ (n : ℕ). n < length ms) (sym (ap (λ o. unwrap_or (option_map (λ (x : Subscription). x.limit) o) 0) step)) over,
        )

    by : (b : Bool) → is_full_one e.1 ≡ b
        → (0 < counted es → (r : Rule) × (k : ℕ) × (ms : List MessageView) × (held_in es r k ≡ Some (Some ms)) × (unwrap_or (limit_in es r) 0 < length ms))
        → (r : Rule) × (k : ℕ) × (ms : List MessageView) × (held_in (e ∷ es) r k ≡ Some (Some ms)) × (unwrap_or (limit_in (e ∷ es) r) 0 < length ms)
    by true full rest =
        let over : e.1.limit < most_of e.1.list = ltb-true e.1.limit (most_of e.1.list) full in
        let h = told.0 (omega arith) in (
          e.0,
          h.0,
          h.1,
          ap (option_and_then (λ (x : Subscription). held_by x.list h.0)) head ∙ h.2,
          subst (λ (n : ℕ). n < length h.1) (sym (ap (λ o. unwrap_or (option_map (λ (x : Subscription). x.limit) o) 0) head)) (omega (arith, over, h.3)),
        )
    by false full rest =
        let none : one e.1 ≡ 0 = ap (λ b. cond b 1 0) full in
        let x = rest (omega (arith, lt, none, sum_by-cons (λ (y : Rule × Subscription). one y.1) e es)) in
        let y = later x.0 x.1 x.2 (is_same x.0 e.0) refl x.3 x.4 in
        (x.0, x.1, x.2, y.0, y.1)

-- where none is counted, no stream holds more than it may
pub within_each : (v : Subscribed) → counted v ≡ 0 → (r : Rule) (k : ℕ) (ms : List MessageView) → held_in v r k ≡ Some (Some ms) → length ms ≤ unwrap_or (limit_in v r) 0
within_each [] none r k ms held = absurd (none-some (Some ms) held)
within_each (e ∷ es) none r k ms held = by (is_same r e.0) held (λ n. within_each es n r k ms)
  where
    split : one e.1 + counted es ≡ 0
    split = sym (sum_by-cons (λ (x : Rule × Subscription). one x.1) e es) ∙ none

    fits : (b : Bool) → is_full_one e.1 ≡ b → most_of e.1.list ≤ e.1.limit
    fits true full = (let n : one e.1 ≡ 1 = ap (λ b. cond b 1 0) full in absurd (omega (arith, n, split)))
    fits false full = ltb-false e.1.limit (most_of e.1.list) full

    by : (b : Bool) → option_and_then (λ (x : Subscription). held_by x.list k) (cond b (Some e.1) (kept_in es r)) ≡ Some (Some ms)
        → (counted es ≡ 0 → held_in es r k ≡ Some (Some ms) → length ms ≤ unwrap_or (limit_in es r) 0)
        → length ms ≤ unwrap_or (option_map (λ (x : Subscription). x.limit) (cond b (Some e.1) (kept_in es r))) 0
    by true h rest = (let le = held_le e.1.list k ms h in let fit = fits (is_full_one e.1) refl in omega arith)
    by false h rest = rest (omega (arith, split)) h
