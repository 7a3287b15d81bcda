-- A path of a list taken out, with the path above it in its place where that would be lost.
use Rattle.std.proofs.Common.{◌≡◌, refl, sym, ◌∙◌, ap, ap₂, subst, ℕ, zero, suc, ◌+◌, ◌-◌, ◌≤◌, nat_lt, List, [], ◌∷◌, Bool, true, false, cond, ◌||◌, ◌&&◌, Option, Some, is_some, option_map, unwrap_or, arith, slice_set, add-one}
use Rattle.std.specs.List.{AllByRecursion, slice_get}
use Rattle.std.specs.List.Sorted.{IsStrictlySortedBy}
use Rattle.std.specs.Cmp.Lexicographic.{nat_list_cmp_total}
use Rattle.std.specs.Map.{keys_of, remove_entry}
use Rattle.std.specs.BTreeMap.{is_at, insert_entry}
use Rattle.std.specs.Ordering.{is_eq, is_gt, match_ordering}
use Rattle.std.specs.declared.cmp.Ordering.{Ordering}
use Rattle.std.specs.declared.cmp.Ordering.TheVariants.{Less, Equal, Greater}
use Rattle.std.proofs.lemmas.Bool.{both_ways, or_left}
use Rattle.std.proofs.lemmas.Bool.Decides.{nat_tests}
use Rattle.object_tree.specs.Objects.{Objects, Rows, IsObject, text_cmp, is_same, is_below, has_below, rows_at}
use Rattle.object_tree.specs.Closed.{place, is_from, is_without}
use Rattle.object_tree.proofs.Entries.{at_swap, same_at}
use Rattle.object_tree.proofs.Below.{is_below-Decides, below_less, between_below}
use Rattle.object_tree.proofs.Closed.{none_before, all_less, less_self, turned, at_same, is_upto, upto_less}
use Rattle.object_tree.proofs.Placed.{after_all}
use Rattle.object_tree.proofs.Valid.{low_path}

pub at_suc : (objects : Objects) (n : ℕ) (q : List ℕ) → is_without objects (suc n) q ≡ (is_from objects n q || is_from objects (suc (suc n)) q)
at_suc objects n q =
    let some : nat_lt 0 (suc n) ≡ true = grind (arith, nat_tests) in
    let less : suc n - 1 ≡ n = omega arith in
    ap (λ b. b && is_from objects (suc n - 1) q || is_from objects (suc n + 1) q) some
    ∙ ap₂ (λ a b. is_from objects a q || is_from objects b q) less (add-one (suc n))

module _ (k q : List ℕ) (above : is_below q k ≡ true) where
  first : text_cmp q k ≡ Less
  first = below_less q k ((is_below-Decides q k).0 above)

  abbrev out : Objects → Objects
  out objects = remove_entry (is_at (text_cmp k)) objects

  -- what stands between the two is below the upper one
  inside : (n : List ℕ) → text_cmp q n ≡ Less → text_cmp n k ≡ Less → AllByRecursion (λ b. 47 ≤ b) n → is_below q n ≡ true
  inside n a b low = (is_below-Decides q n).1 (between_below q k n ((is_below-Decides q k).0 above) a (ap is_gt b) low)

  -- it is there by the first of those after the lower one, or not at all
  by_first : (objects : Objects) → AllByRecursion (λ y. text_cmp q y ≡ Less) (keys_of objects) → IsStrictlySortedBy text_cmp (keys_of objects) → AllByRecursion IsObject objects → is_from objects 0 q ≡ (is_some (rows_at objects q) || has_below objects q)
  by_first objects all s v =
      head objects all
      ∙ sym (after_all q objects all s v)
      ∙ ap (λ r. is_some r || has_below objects q) (sym (none_before q q objects all (less_self q)))
    where
      head : (objects : Objects) → AllByRecursion (λ y. text_cmp q y ≡ Less) (keys_of objects) → is_from objects 0 q ≡ unwrap_or (option_map (λ o. is_below q o.0) (slice_get objects 0)) false
      head [] all = refl
      head (o ∷ objects) all = ap (λ b. b || is_below q o.0) (sym (at_same o.0 q) ∙ at_swap o.0 q ∙ is_eq_less (text_cmp q o.0) all.0)
        where
          is_eq_less : (c : Ordering) → c ≡ Less → is_eq c ≡ false
          is_eq_less c e = ap is_eq e

  next_in : (x : List ℕ × Rows) (rest : Objects) (j : ℕ) → IsStrictlySortedBy text_cmp (keys_of (x ∷ rest)) → AllByRecursion IsObject rest → place rest k ≡ suc j → is_upto q x.0 ≡ true → has_below (out rest) q ≡ true
  unfolding IsStrictlySortedBy
  next_in x [] j s v is upto = grind arith
  next_in x (y ∷ rest) j s v is upto = by (text_cmp k y.0) refl is
    where
      after : text_cmp q y.0 ≡ Less
      after = upto_less q x.0 upto y.0 s.0.0

      by : (c : Ordering) → text_cmp k y.0 ≡ c → cond (is_gt c) (suc (place rest k)) 0 ≡ suc j → has_below (cond (is_eq c) rest (y ∷ out rest)) q ≡ true
      by Less e h = grind arith
      by Equal e h = grind arith
      by Greater e h = or_left (is_below q y.0) (has_below (out rest) q) (inside y.0 after (let back = nat_list_cmp_total.antisymm y.0 k in grind arith) (low_path y.0 v.0.path))

  combine : (s b f r h : Bool) → f ≡ (r || h) → ((s || b) || f) ≡ ((s || r) || (b || h))
  combine s b f r h e = grind arith

  held : (s b r h f : Bool) → f ≡ (r || h) → ((s || b) ≡ true → h ≡ true) → f ≡ ((s || r) || (b || h))
  held true b r h f e g = let x = g refl in grind arith
  held false true r h f e g = let x = g refl in grind arith
  held false false r h f e g = e

  some_cond : (e : Bool) (x : Rows) (r : Option Rows) → is_some (cond e (Some x) r) ≡ (e || is_some r)
  some_cond true x r = refl
  some_cond false x r = refl

  pub without_is : (objects : Objects) → IsStrictlySortedBy text_cmp (keys_of objects) → AllByRecursion IsObject objects → is_some (rows_at objects k) ≡ true → is_without objects (place objects k) q ≡ (is_some (rows_at (out objects) q) || has_below (out objects) q)
  unfolding IsStrictlySortedBy
  without_is [] s v there = grind arith
  without_is (x ∷ rest) s v there = by (text_cmp k x.0) refl there (λ t. without_is rest s.1 v.1 t)
    where
      same : is_same x.0 q ≡ is_at (text_cmp q) x.0
      same = sym (at_same x.0 q) ∙ at_swap x.0 q

      deeper : (j : ℕ) → place rest k ≡ j → is_without rest j q ≡ (is_some (rows_at (out rest) q) || has_below (out rest) q) → is_without (x ∷ rest) (suc j) q ≡ (is_some (cond (is_at (text_cmp q) x.0) (Some x.1) (rows_at (out rest) q)) || (is_below q x.0 || has_below (out rest) q))
      deeper zero p ih =
          at_suc (x ∷ rest) 0 q ∙ ap (λ b. (b || is_below q x.0) || is_from rest 1 q) same
          ∙ combine (is_at (text_cmp q) x.0) (is_below q x.0) (is_from rest 1 q) (is_some (rows_at (out rest) q)) (has_below (out rest) q) ih
          ∙ ap (λ b. b || (is_below q x.0 || has_below (out rest) q)) (sym (some_cond (is_at (text_cmp q) x.0) x.1 (rows_at (out rest) q)))
      deeper (suc j) p ih =
          at_suc (x ∷ rest) (suc j) q ∙ sym (at_suc rest j q) ∙ held (is_at (text_cmp q) x.0) (is_below q x.0) (is_some (rows_at (out rest) q)) (has_below (out rest) q) (is_without rest (suc j) q) ih
          (λ u. next_in x rest j s v.1 p (ap (λ b. b || is_below q x.0) (sym (at_same q x.0)) ∙ u))
          ∙ ap (λ b. b || (is_below q x.0 || has_below (out rest) q)) (sym (some_cond (is_at (text_cmp q) x.0) x.1 (rows_at (out rest) q)))

      by : (c : Ordering) → text_cmp k x.0 ≡ c → is_some (cond (is_eq c) (Some x.1) (rows_at rest k)) ≡ true → (is_some (rows_at rest k) ≡ true → is_without rest (place rest k) q ≡ (is_some (rows_at (out rest) q) || has_below (out rest) q))
          → is_without (x ∷ rest) (cond (is_gt c) (suc (place rest k)) 0) q ≡ (is_some (rows_at (cond (is_eq c) rest (x ∷ out rest)) q) || has_below (cond (is_eq c) rest (x ∷ out rest)) q)
      by Less e t ih = absurd (both_ways true (sym t ∙ ap is_some (none_before k x.0 rest s.0 (λ l. turned k x.0 e l))) refl)
      by Equal e t ih = by_first rest (all_less q x.0 (keys_of rest) (subst (λ (z : List ℕ). text_cmp q z ≡ Less) (same_at k x.0 (ap is_eq e)) first) s.0) s.1 v.1
      by Greater e t ih = deeper (place rest k) refl (ih t)

  -- the upper path in the lower one's place
  pub replaced_is : (objects : Objects) → IsStrictlySortedBy text_cmp (keys_of objects) → AllByRecursion IsObject objects → is_some (rows_at objects k) ≡ true → (is_some (rows_at (out objects) q) || has_below (out objects) q) ≡ false → slice_set objects (place objects k) (q, []) ≡ insert_entry text_cmp (out objects) q []
  unfolding IsStrictlySortedBy
  replaced_is [] s v there gone = grind arith
  replaced_is (x ∷ rest) s v there gone = by (text_cmp k x.0) refl there gone (λ t g. replaced_is rest s.1 v.1 t g)
    where
      front : (objects : Objects) → AllByRecursion (λ y. text_cmp q y ≡ Less) (keys_of objects) → (q, []) ∷ objects ≡ insert_entry text_cmp objects q []
      front [] all = refl
      front (o ∷ objects) all = ap (λ c. match_ordering c ((q, []) ∷ o ∷ objects) ((o.0, []) ∷ objects) (o ∷ insert_entry text_cmp objects q [])) (sym all.0)

      later : (c : Ordering) → text_cmp q x.0 ≡ c → text_cmp k x.0 ≡ Greater → (is_some (cond (is_eq c) (Some x.1) (rows_at (out rest) q)) || (is_below q x.0 || has_below (out rest) q)) ≡ false → text_cmp q x.0 ≡ Greater
      later Greater e h g = e
      later Equal e h g = grind arith
      later Less e h g = let under = inside x.0 e (let back = nat_list_cmp_total.antisymm x.0 k in grind arith) (low_path x.0 v.0.path) in grind arith

      rest_gone : (e b r h : Bool) → ((e || r) || (b || h)) ≡ false → (r || h) ≡ false
      rest_gone e b r h g = grind arith

      by : (c : Ordering) → text_cmp k x.0 ≡ c → is_some (cond (is_eq c) (Some x.1) (rows_at rest k)) ≡ true → (is_some (rows_at (cond (is_eq c) rest (x ∷ out rest)) q) || has_below (cond (is_eq c) rest (x ∷ out rest)) q) ≡ false
          → (is_some (rows_at rest k) ≡ true → (is_some (rows_at (out rest) q) || has_below (out rest) q) ≡ false → slice_set rest (place rest k) (q, []) ≡ insert_entry text_cmp (out rest) q [])
          → slice_set (x ∷ rest) (cond (is_gt c) (suc (place rest k)) 0) (q, []) ≡ insert_entry text_cmp (cond (is_eq c) rest (x ∷ out rest)) q []
      by Less e t g ih = absurd (both_ways true (sym t ∙ ap is_some (none_before k x.0 rest s.0 (λ l. turned k x.0 e l))) refl)
      by Equal e t g ih = front rest (all_less q x.0 (keys_of rest) (subst (λ (z : List ℕ). text_cmp q z ≡ Less) (same_at k x.0 (ap is_eq e)) first) s.0)
      by Greater e t g ih =
          let parts = sym (ap (λ b. b || (is_below q x.0 || has_below (out rest) q)) (some_cond (is_at (text_cmp q) x.0) x.1 (rows_at (out rest) q))) ∙ g in
          ap (λ r. x ∷ r) (ih t (rest_gone (is_at (text_cmp q) x.0) (is_below q x.0) (is_some (rows_at (out rest) q)) (has_below (out rest) q) parts))
          ∙ ap (λ c. match_ordering c ((q, []) ∷ x ∷ out rest) ((x.0, []) ∷ out rest) (x ∷ insert_entry text_cmp (out rest) q [])) (sym (later (text_cmp q x.0) refl e g))
