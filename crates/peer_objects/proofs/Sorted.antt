-- Entries that ascend by their keys stay so where one is put in, changed or taken out; and what is found then.
use Rattle.std.proofs.Common.{◌≡◌, refl, sym, ◌∙◌, ap, subst, ℕ, List, [], ◌∷◌, Bool, true, false, cond, Some, None}
use Rattle.std.specs.List.{AllByRecursion}
use Rattle.std.specs.List.Sorted.{IsStrictlySortedBy}
use Rattle.std.specs.Cmp.Lexicographic.{nat_list_cmp_total}
use Rattle.std.specs.Ordering.{is_eq, match_ordering, ordering_reverse}
use Rattle.std.specs.declared.cmp.Ordering.{Ordering}
use Rattle.std.specs.declared.cmp.Ordering.TheVariants.{Less, Equal, Greater}
use Rattle.std.specs.Map.{lookup, remove_entry, set_value, keys_of}
use Rattle.std.specs.BTreeMap.{insert_entry, is_at}
use Rattle.std.proofs.lemmas.Bool.{cond-true, cond-false}
use Rattle.std.proofs.lemmas.Cmp.{eq_by_cmp_equiv}
use Rattle.std.proofs.lemmas.Map.{lookup-remove_entry, keys-set_value}
use Rattle.std.proofs.lemmas.Map.Keys.{IsDistinct-from_sorted}
use Rattle.std.proofs.lemmas.Option.{same_Some, none-some}
use Rattle.object_tree.specs.Objects.{text_cmp}
use Rattle.object_tree.proofs.Entries.{at_itself, same_at}

-- keys that ascend by their bytes
abbrev pub Ascend : List (List ℕ) → Type 0
Ascend keys = IsStrictlySortedBy text_cmp keys

pub none_ascend : Ascend []
unfolding IsStrictlySortedBy
none_ascend = tt

pub one_ascends : (k : List ℕ) → Ascend (k ∷ [])
unfolding IsStrictlySortedBy
one_ascends k = (tt, tt)

front_ascends : (k : List ℕ) (keys : List (List ℕ)) → AllByRecursion (λ y. text_cmp k y ≡ Less) keys → Ascend keys → Ascend (k ∷ keys)
unfolding IsStrictlySortedBy
front_ascends k keys below s = (below, s)

pub first_below : (k : List ℕ) (keys : List (List ℕ)) → Ascend (k ∷ keys) → AllByRecursion (λ y. text_cmp k y ≡ Less) keys
unfolding IsStrictlySortedBy
first_below k keys s = s.0

pub rest_ascend : (k : List ℕ) (keys : List (List ℕ)) → Ascend (k ∷ keys) → Ascend keys
unfolding IsStrictlySortedBy
rest_ascend k keys s = s.1

all_above : (k e : List ℕ) (keys : List (List ℕ)) → text_cmp k e ≡ Less → AllByRecursion (λ y. text_cmp e y ≡ Less) keys → AllByRecursion (λ y. text_cmp k y ≡ Less) keys
all_above k e [] h all = tt
all_above k e (y ∷ keys) h all = (nat_list_cmp_total.trans k e y h all.0, all_above k e keys h all.1)

module _ {X : Type 0} where
  -- ---- keys

  keys_insert : (P : List ℕ → Type 0) (es : List (List ℕ × X)) (k : List ℕ) (v : X) → AllByRecursion P (keys_of es) → P k → AllByRecursion P (keys_of (insert_entry text_cmp es k v))
  keys_insert P [] k v all one = (one, tt)
  keys_insert P (e ∷ es) k v all one = by (text_cmp k e.0) (keys_insert P es k v all.1 one)
    where
      by : (o : Ordering) → AllByRecursion P (keys_of (insert_entry text_cmp es k v)) → AllByRecursion P (keys_of (match_ordering o ((k, v) ∷ e ∷ es) ((e.0, v) ∷ es) (e ∷ insert_entry text_cmp es k v)))
      by Less later = (one, all)
      by Equal later = all
      by Greater later = (all.0, later)

  pub insert_ascends : (es : List (List ℕ × X)) (k : List ℕ) (v : X) → Ascend (keys_of es) → Ascend (keys_of (insert_entry text_cmp es k v))
  insert_ascends [] k v s = one_ascends k
  insert_ascends (e ∷ es) k v s = by (text_cmp k e.0) refl (insert_ascends es k v (rest_ascend e.0 (keys_of es) s))
    where
      by : (o : Ordering) → text_cmp k e.0 ≡ o → Ascend (keys_of (insert_entry text_cmp es k v)) → Ascend (keys_of (match_ordering o ((k, v) ∷ e ∷ es) ((e.0, v) ∷ es) (e ∷ insert_entry text_cmp es k v)))
      by Less h later = front_ascends k (e.0 ∷ keys_of es) (h, all_above k e.0 (keys_of es) h (first_below e.0 (keys_of es) s)) s
      by Equal h later = s
      by Greater h later = front_ascends e.0 (keys_of (insert_entry text_cmp es k v)) (keys_insert (λ y. text_cmp e.0 y ≡ Less) es k v (first_below e.0 (keys_of es) s) (nat_list_cmp_total.antisymm e.0 k ∙ ap ordering_reverse h)) later

  keys_remove : (P : List ℕ → Type 0) (t : List ℕ → Bool) (es : List (List ℕ × X)) → AllByRecursion P (keys_of es) → AllByRecursion P (keys_of (remove_entry t es))
  keys_remove P t [] all = tt
  keys_remove P t (e ∷ es) all = by (t e.0) (keys_remove P t es all.1)
    where
      by : (b : Bool) → AllByRecursion P (keys_of (remove_entry t es)) → AllByRecursion P (keys_of (cond b es (e ∷ remove_entry t es)))
      by true later = all.1
      by false later = (all.0, later)

  pub remove_ascends : (t : List ℕ → Bool) (es : List (List ℕ × X)) → Ascend (keys_of es) → Ascend (keys_of (remove_entry t es))
  remove_ascends t [] s = s
  remove_ascends t (e ∷ es) s = by (t e.0) (remove_ascends t es (rest_ascend e.0 (keys_of es) s))
    where
      by : (b : Bool) → Ascend (keys_of (remove_entry t es)) → Ascend (keys_of (cond b es (e ∷ remove_entry t es)))
      by true later = rest_ascend e.0 (keys_of es) s
      by false later = front_ascends e.0 (keys_of (remove_entry t es)) (keys_remove (λ y. text_cmp e.0 y ≡ Less) t es (first_below e.0 (keys_of es) s)) later

  pub set_ascends : (t : List ℕ → Bool) (es : List (List ℕ × X)) (w : X) → Ascend (keys_of es) → Ascend (keys_of (set_value t es w))
  set_ascends t es w s = subst (λ (keys : List (List ℕ)). Ascend keys) (sym (keys-set_value t es w)) s

  -- ---- values

  pub values_insert : (P : X → Type 0) (es : List (List ℕ × X)) (k : List ℕ) (v : X) → AllByRecursion (λ e. P e.1) es → P v → AllByRecursion (λ e. P e.1) (insert_entry text_cmp es k v)
  values_insert P [] k v all one = (one, tt)
  values_insert P (e ∷ es) k v all one = by (text_cmp k e.0) (values_insert P es k v all.1 one)
    where
      by : (o : Ordering) → AllByRecursion (λ e. P e.1) (insert_entry text_cmp es k v) → AllByRecursion (λ e. P e.1) (match_ordering o ((k, v) ∷ e ∷ es) ((e.0, v) ∷ es) (e ∷ insert_entry text_cmp es k v))
      by Less later = (one, all)
      by Equal later = (one, all.1)
      by Greater later = (all.0, later)

  pub values_remove : (P : X → Type 0) (t : List ℕ → Bool) (es : List (List ℕ × X)) → AllByRecursion (λ e. P e.1) es → AllByRecursion (λ e. P e.1) (remove_entry t es)
  values_remove P t [] all = tt
  values_remove P t (e ∷ es) all = by (t e.0) (values_remove P t es all.1)
    where
      by : (b : Bool) → AllByRecursion (λ e. P e.1) (remove_entry t es) → AllByRecursion (λ e. P e.1) (cond b es (e ∷ remove_entry t es))
      by true later = all.1
      by false later = (all.0, later)

  pub values_set : (P : X → Type 0) (t : List ℕ → Bool) (es : List (List ℕ × X)) (w : X) → AllByRecursion (λ e. P e.1) es → P w → AllByRecursion (λ e. P e.1) (set_value t es w)
  values_set P t [] w all one = tt
  values_set P t (e ∷ es) w all one = by (t e.0) (values_set P t es w all.1 one)
    where
      by : (b : Bool) → AllByRecursion (λ e. P e.1) (set_value t es w) → AllByRecursion (λ e. P e.1) (cond b ((e.0, w) ∷ es) (e ∷ set_value t es w))
      by true later = (one, all.1)
      by false later = (all.0, later)

  pub value_found : (P : X → Type 0) (t : List ℕ → Bool) (es : List (List ℕ × X)) (v : X) → AllByRecursion (λ e. P e.1) es → lookup t es ≡ Some v → P v
  value_found P t [] v all h = absurd (none-some v h)
  value_found P t (e ∷ es) v all h = by (t e.0) h (value_found P t es v all.1)
    where
      by : (b : Bool) → cond b (Some e.1) (lookup t es) ≡ Some v → (lookup t es ≡ Some v → P v) → P v
      by true g later = subst P (same_Some e.1 v g) all.0
      by false g later = later g

  -- ---- look-ups

  pub insert_found : (k : List ℕ) (v : X) (es : List (List ℕ × X)) → lookup (is_at (text_cmp k)) (insert_entry text_cmp es k v) ≡ Some v
  insert_found k v [] = cond-true (is_at (text_cmp k) k) (Some v) None (at_itself k)
  insert_found k v (e ∷ es) = by (text_cmp k e.0) refl (insert_found k v es)
    where
      by : (o : Ordering) → text_cmp k e.0 ≡ o → lookup (is_at (text_cmp k)) (insert_entry text_cmp es k v) ≡ Some v → lookup (is_at (text_cmp k)) (match_ordering o ((k, v) ∷ e ∷ es) ((e.0, v) ∷ es) (e ∷ insert_entry text_cmp es k v)) ≡ Some v
      by Less h later = cond-true (is_at (text_cmp k) k) (Some v) (lookup (is_at (text_cmp k)) (e ∷ es)) (at_itself k)
      by Equal h later = cond-true (is_at (text_cmp k) e.0) (Some v) (lookup (is_at (text_cmp k)) es) (ap is_eq h)
      by Greater h later = cond-false (is_at (text_cmp k) e.0) (Some e.1) (lookup (is_at (text_cmp k)) (insert_entry text_cmp es k v)) (ap is_eq h) ∙ later

  pub remove_found : (k : List ℕ) (es : List (List ℕ × X)) → Ascend (keys_of es) → lookup (is_at (text_cmp k)) (remove_entry (is_at (text_cmp k)) es) ≡ None
  remove_found k es s =
      lookup-remove_entry (eq_by_cmp_equiv nat_list_cmp_total) (is_at (text_cmp k)) (λ x y h. ap (λ (z : List ℕ). is_at (text_cmp z) y) (same_at k x h)) k es (IsDistinct-from_sorted text_cmp (keys_of es) s)
      ∙ cond-true (is_at (text_cmp k) k) None (lookup (is_at (text_cmp k)) es) (at_itself k)

  pub set_other : (p q : List ℕ) → is_at (text_cmp q) p ≡ false → (es : List (List ℕ × X)) (w : X) → lookup (is_at (text_cmp q)) (set_value (is_at (text_cmp p)) es w) ≡ lookup (is_at (text_cmp q)) es
  set_other p q ne [] w = refl
  set_other p q ne (e ∷ es) w = by (is_at (text_cmp p) e.0) refl (set_other p q ne es w)
    where
      by : (b : Bool) → is_at (text_cmp p) e.0 ≡ b → lookup (is_at (text_cmp q)) (set_value (is_at (text_cmp p)) es w) ≡ lookup (is_at (text_cmp q)) es → lookup (is_at (text_cmp q)) (cond b ((e.0, w) ∷ es) (e ∷ set_value (is_at (text_cmp p)) es w)) ≡ lookup (is_at (text_cmp q)) (e ∷ es)
      by true h later =
          let apart : is_at (text_cmp q) e.0 ≡ false = subst (λ (x : List ℕ). is_at (text_cmp q) x ≡ false) (same_at p e.0 h) ne in
          cond-false (is_at (text_cmp q) e.0) (Some w) (lookup (is_at (text_cmp q)) es) apart ∙ sym (cond-false (is_at (text_cmp q) e.0) (Some e.1) (lookup (is_at (text_cmp q)) es) apart)
      by false h later = ap (cond (is_at (text_cmp q) e.0) (Some e.1)) later
