-- A tree that is given by the paths that were put in, where one is put in or taken out.
use Rattle.std.proofs.Common.{◌≡◌, refl, sym, ◌∙◌, ap, subst, ℕ, zero, suc, ◌-◌, ◌≤◌, nat_le, List, [], ◌∷◌, length, take, Bool, true, false, cond, ◌||◌, ◌&&◌, Option, Some, None, is_some, arith, filter, ⊎_elim, length-take-le}
use Rattle.std.specs.List.{AllByRecursion}
use Rattle.std.specs.List.Sorted.{IsStrictlySortedBy}
use Rattle.std.specs.Cmp.Lexicographic.{nat_list_cmp_total}
use Rattle.std.specs.Map.{keys_of, set_value}
use Rattle.std.specs.BTreeMap.{is_at, insert_entry}
use Rattle.std.specs.Ordering.{is_eq, match_ordering}
use Rattle.std.specs.declared.cmp.Ordering.{Ordering}
use Rattle.std.specs.declared.cmp.Ordering.TheVariants.{Less, Equal, Greater}
use Rattle.std.proofs.lemmas.Bool.{cond-true, cond-false, both_ways, cases_order, leb-true}
use Rattle.std.proofs.lemmas.Bool.Decides.{nat_tests}
use Rattle.object_tree.specs.Objects.{Objects, Rows, text_cmp, is_below, rows_at, fronts, ancestors, with_path, with_paths, with_rows}
use Rattle.object_tree.proofs.Entries.{at_itself, same_at, insert_other, lookup_set}
use Rattle.object_tree.proofs.Closed.{has, or_bare, front_of_path, all_less}

-- ---- entries put in or changed

insert_value : (k : List ℕ) (v : Rows) (es : Objects) → rows_at (insert_entry text_cmp es k v) k ≡ Some v
insert_value k v [] = cond-true (is_at (text_cmp k) k) (Some v) None (at_itself k)
insert_value k v (e ∷ es) = by (text_cmp k e.0) refl (insert_value k v es)
  where
    by : (o : Ordering) → text_cmp k e.0 ≡ o → rows_at (insert_entry text_cmp es k v) k ≡ Some v → rows_at (match_ordering o ((k, v) ∷ e ∷ es) ((e.0, v) ∷ es) (e ∷ insert_entry text_cmp es k v)) k ≡ Some v
    by Less h later = cond-true (is_at (text_cmp k) k) (Some v) (rows_at (e ∷ es) k) (at_itself k)
    by Equal h later = cond-true (is_at (text_cmp k) e.0) (Some v) (rows_at es k) (ap is_eq h)
    by Greater h later = cond-false (is_at (text_cmp k) e.0) (Some e.1) (rows_at (insert_entry text_cmp es k v) k) (ap is_eq h) ∙ later

-- what is found, by whether it is that path
pub by_same : (p k : List ℕ) (r x y : Option Rows) → (p ≡ k → r ≡ x) → (is_at (text_cmp p) k ≡ false → r ≡ y) → r ≡ cond (is_at (text_cmp p) k) x y
by_same p k r x y f g = by (is_at (text_cmp p) k) refl
  where
    by : (b : Bool) → is_at (text_cmp p) k ≡ b → r ≡ cond b x y
    by true e = f (same_at p k e)
    by false e = g e

pub rows_insert : (objects : Objects) (k p : List ℕ) (v : Rows) → rows_at (insert_entry text_cmp objects k v) p ≡ cond (is_at (text_cmp p) k) (Some v) (rows_at objects p)
rows_insert objects k p v = by_same p k (rows_at (insert_entry text_cmp objects k v) p) (Some v) (rows_at objects p)
    (λ e. subst (λ (x : List ℕ). rows_at (insert_entry text_cmp objects k v) x ≡ Some v) (sym e) (insert_value k v objects))
    (λ ne. insert_other k p v ne objects)

set_other : (k p : List ℕ) (v : Rows) → is_at (text_cmp p) k ≡ false → (es : Objects) → rows_at (set_value (is_at (text_cmp k)) es v) p ≡ rows_at es p
set_other k p v ne [] = refl
set_other k p v ne (e ∷ es) = by (is_at (text_cmp k) e.0) refl (set_other k p v ne es)
  where
    by : (b : Bool) → is_at (text_cmp k) e.0 ≡ b → rows_at (set_value (is_at (text_cmp k)) es v) p ≡ rows_at es p → rows_at (cond b ((e.0, v) ∷ es) (e ∷ set_value (is_at (text_cmp k)) es v)) p ≡ rows_at (e ∷ es) p
    by true h later =
        let apart : is_at (text_cmp p) e.0 ≡ false = subst (λ (x : List ℕ). is_at (text_cmp p) x ≡ false) (same_at k e.0 h) ne in
        cond-false (is_at (text_cmp p) e.0) (Some v) (rows_at es p) apart ∙ sym (cond-false (is_at (text_cmp p) e.0) (Some e.1) (rows_at es p) apart)
    by false h later = ap (cond (is_at (text_cmp p) e.0) (Some e.1)) later

pub rows_set : (objects : Objects) (k p : List ℕ) (v : Rows) → is_some (rows_at objects k) ≡ true → rows_at (set_value (is_at (text_cmp k)) objects v) p ≡ cond (is_at (text_cmp p) k) (Some v) (rows_at objects p)
rows_set objects k p v there = by_same p k (rows_at (set_value (is_at (text_cmp k)) objects v) p) (Some v) (rows_at objects p)
    (λ e. subst (λ (x : List ℕ). rows_at (set_value (is_at (text_cmp k)) objects v) x ≡ Some v) (sym e) (lookup_set (is_at (text_cmp k)) objects v there))
    (λ ne. set_other k p v ne objects)

pub rows_with_rows : (objects : Objects) (k p : List ℕ) (v : Rows) → rows_at (with_rows objects k v) p ≡ cond (is_at (text_cmp p) k) (Some v) (rows_at objects p)
rows_with_rows objects k p v = by (is_some (rows_at objects k)) refl
  where
    by : (b : Bool) → is_some (rows_at objects k) ≡ b → rows_at (cond b (set_value (is_at (text_cmp k)) objects v) (insert_entry text_cmp objects k v)) p ≡ cond (is_at (text_cmp p) k) (Some v) (rows_at objects p)
    by true e = rows_set objects k p v e
    by false e = rows_insert objects k p v

rows_with_path : (objects : Objects) (k p : List ℕ) → rows_at (with_path objects k) p ≡ or_bare (rows_at objects p) (is_at (text_cmp p) k)
rows_with_path objects k p = by (is_some (rows_at objects k)) refl
  where
    kept : (r : Option Rows) (b : Bool) → (b ≡ true → is_some r ≡ true) → r ≡ or_bare r b
    kept (Some x) b f = refl
    kept None true f = let q = f refl in grind arith
    kept None false f = refl

    put : (r : Option Rows) (b : Bool) → (b ≡ true → is_some r ≡ false) → cond b (Some []) r ≡ or_bare r b
    put (Some x) true f = let q = f refl in grind arith
    put (Some x) false f = refl
    put None true f = refl
    put None false f = refl

    by : (b : Bool) → is_some (rows_at objects k) ≡ b → rows_at (cond b objects (insert_entry text_cmp objects k [])) p ≡ or_bare (rows_at objects p) (is_at (text_cmp p) k)
    by true e = kept (rows_at objects p) (is_at (text_cmp p) k) (λ h. subst (λ (x : List ℕ). is_some (rows_at objects x) ≡ true) (sym (same_at p k h)) e)
    by false e = rows_insert objects k p [] ∙ put (rows_at objects p) (is_at (text_cmp p) k) (λ h. subst (λ (x : List ℕ). is_some (rows_at objects x) ≡ false) (sym (same_at p k h)) e)

pub rows_with_paths : (objects : Objects) (paths : List (List ℕ)) (p : List ℕ) → rows_at (with_paths objects paths) p ≡ or_bare (rows_at objects p) (has paths p)
rows_with_paths objects [] p = by (rows_at objects p)
  where
    by : (r : Option Rows) → r ≡ or_bare r false
    by None = refl
    by (Some x) = refl
rows_with_paths objects (k ∷ paths) p = rows_with_paths (with_path objects k) paths p ∙ ap (λ r. or_bare r (has paths p)) (rows_with_path objects k p) ∙ by (rows_at objects p) (is_at (text_cmp p) k) (has paths p)
  where
    by : (r : Option Rows) (a b : Bool) → or_bare (or_bare r a) b ≡ or_bare r (a || b)
    by None true b = refl
    by None false b = refl
    by (Some x) a b = refl

-- ---- in order

insert_all : (P : List ℕ → Type 0) (es : Objects) (k : List ℕ) (v : Rows) → P k → AllByRecursion P (keys_of es) → AllByRecursion P (keys_of (insert_entry text_cmp es k v))
insert_all P [] k v one h = (one, tt)
insert_all P (e ∷ es) k v one h = by (text_cmp k e.0) (insert_all P es k v one h.1)
  where
    by : (o : Ordering) → AllByRecursion P (keys_of (insert_entry text_cmp es k v)) → AllByRecursion P (keys_of (match_ordering o ((k, v) ∷ e ∷ es) ((e.0, v) ∷ es) (e ∷ insert_entry text_cmp es k v)))
    by Less later = (one, h)
    by Equal later = h
    by Greater later = (h.0, later)

pub insert_sorted : (es : Objects) (k : List ℕ) (v : Rows) → IsStrictlySortedBy text_cmp (keys_of es) → IsStrictlySortedBy text_cmp (keys_of (insert_entry text_cmp es k v))
unfolding IsStrictlySortedBy
insert_sorted [] k v s = (tt, tt)
insert_sorted (e ∷ es) k v s = by (text_cmp k e.0) refl (insert_sorted es k v s.1)
  where
    by : (o : Ordering) → text_cmp k e.0 ≡ o → IsStrictlySortedBy text_cmp (keys_of (insert_entry text_cmp es k v)) → IsStrictlySortedBy text_cmp (keys_of (match_ordering o ((k, v) ∷ e ∷ es) ((e.0, v) ∷ es) (e ∷ insert_entry text_cmp es k v)))
    by Less is later = ((is, all_less k e.0 (keys_of es) is s.0), s)
    by Equal is later = s
    by Greater is later = (insert_all (λ y. text_cmp e.0 y ≡ Less) es k v (let back = nat_list_cmp_total.antisymm e.0 k in grind arith) s.0, later)

pub set_keys : (t : List ℕ → Bool) (es : Objects) (v : Rows) → keys_of (set_value t es v) ≡ keys_of es
set_keys t [] v = refl
set_keys t (e ∷ es) v = by (t e.0) (set_keys t es v)
  where
    by : (b : Bool) → keys_of (set_value t es v) ≡ keys_of es → keys_of (cond b ((e.0, v) ∷ es) (e ∷ set_value t es v)) ≡ e.0 ∷ keys_of es
    by true h = refl
    by false h = ap (λ r. e.0 ∷ r) h

pub with_rows_sorted : (es : Objects) (k : List ℕ) (v : Rows) → IsStrictlySortedBy text_cmp (keys_of es) → IsStrictlySortedBy text_cmp (keys_of (with_rows es k v))
with_rows_sorted es k v s = by (is_some (rows_at es k))
  where
    by : (b : Bool) → IsStrictlySortedBy text_cmp (keys_of (cond b (set_value (is_at (text_cmp k)) es v) (insert_entry text_cmp es k v)))
    by true = subst (λ l. IsStrictlySortedBy text_cmp l) (sym (set_keys (is_at (text_cmp k)) es v)) s
    by false = insert_sorted es k v s

pub with_paths_sorted : (es : Objects) (paths : List (List ℕ)) → IsStrictlySortedBy text_cmp (keys_of es) → IsStrictlySortedBy text_cmp (keys_of (with_paths es paths))
with_paths_sorted es [] s = s
with_paths_sorted es (k ∷ paths) s = with_paths_sorted (with_path es k) paths (by (is_some (rows_at es k)))
  where
    by : (b : Bool) → IsStrictlySortedBy text_cmp (keys_of (cond b es (insert_entry text_cmp es k [])))
    by true = s
    by false = insert_sorted es k [] s

-- ---- the paths on the way to one

module _ (q p : List ℕ) where
  abbrev way : ℕ → List (List ℕ)
  way n = filter (λ front. is_below front q) (fronts n q)

  way_yes : (n : ℕ) → 1 ≤ length p → length p ≤ n → is_below p q ≡ true → has (way n) p ≡ true
  way_yes zero one most under = absurd (omega arith)
  way_yes (suc n) one most under = by (is_below (take (suc n) q) q) refl (λ l. way_yes n one l under)
    where
      front : take (length p) q ≡ p
      front = (front_of_path [] q p under).0

      this : length p ≡ suc n → p ≡ take (suc n) q
      this e = sym front ∙ ap (λ k. take k q) e

      or : (b : Bool) → b ≡ true → (a : Bool) → (a || b) ≡ true
      or b h true = refl
      or b h false = h

      by : (b : Bool) → is_below (take (suc n) q) q ≡ b → (length p ≤ n → has (way n) p ≡ true) → has (cond b (take (suc n) q ∷ way n) (way n)) p ≡ true
      by true e later = ⊎_elim
          (λ (k : length p ≡ suc n). ap (λ b. b || has (way n) p) (subst (λ (x : List ℕ). is_at (text_cmp p) x ≡ true) (this k) (at_itself p)))
          (λ o. or (has (way n) p) (later (⊎_elim (λ l. omega arith) (λ l. omega arith) o)) (is_at (text_cmp p) (take (suc n) q)))
          (cases_order (length p) (suc n))
      by false e later = ⊎_elim
          (λ (k : length p ≡ suc n). absurd (both_ways (is_below (take (suc n) q) q) e (subst (λ (x : List ℕ). is_below x q ≡ true) (this k) under)))
          (λ o. later (⊎_elim (λ l. omega arith) (λ l. omega arith) o))
          (cases_order (length p) (suc n))

  way_only : (n : ℕ) → n ≤ length q → has (way n) p ≡ true → (1 ≤ length p) × (is_below p q ≡ true)
  way_only zero most h = grind arith
  way_only (suc n) most h = by (is_below (take (suc n) q) q) refl h (λ k. way_only n (omega arith) k)
    where
      count : length (take (suc n) q) ≡ suc n
      count = length-take-le (suc n) q most

      pick : (a : Bool) → is_at (text_cmp p) (take (suc n) q) ≡ a → is_below (take (suc n) q) q ≡ true → (a || has (way n) p) ≡ true → (has (way n) p ≡ true → (1 ≤ length p) × (is_below p q ≡ true)) → (1 ≤ length p) × (is_below p q ≡ true)
      pick true e under k later = let same = same_at p (take (suc n) q) e in (omega (arith, ap length same, count), subst (λ (x : List ℕ). is_below x q ≡ true) (sym same) under)
      pick false e under k later = later k

      by : (b : Bool) → is_below (take (suc n) q) q ≡ b → has (cond b (take (suc n) q ∷ way n) (way n)) p ≡ true → (has (way n) p ≡ true → (1 ≤ length p) × (is_below p q ≡ true)) → (1 ≤ length p) × (is_below p q ≡ true)
      by true e k later = pick (is_at (text_cmp p) (take (suc n) q)) refl e k later
      by false e k later = later k

  pub has_ancestors : has (ancestors q) p ≡ (nat_le 1 (length p) && is_below p q)
  has_ancestors = by (has (ancestors q) p) refl (nat_le 1 (length p)) refl (is_below p q) refl
    where
      only : has (ancestors q) p ≡ true → (nat_le 1 (length p) && is_below p q) ≡ true
      only h = let k = way_only (length q - 1) (omega arith) h in grind (arith, nat_tests)

      by : (a : Bool) → has (ancestors q) p ≡ a → (n : Bool) → nat_le 1 (length p) ≡ n → (w : Bool) → is_below p q ≡ w → a ≡ (n && w)
      by true h n i w j = sym (sym (ap (λ b. b && is_below p q) i ∙ ap (λ b. n && b) j) ∙ only h)
      by false h true i true j = sym h ∙ way_yes (length q - 1) (leb-true 1 (length p) i) (let f = front_of_path [] q p j in omega (arith, f.1)) j
      by false h true i false j = refl
      by false h false i w j = refl
