-- What is found among entries with texts as their keys, after one was taken out or changed.
use Rattle.std.proofs.Common.{◌≡◌, refl, sym, ◌∙◌, ap, subst, ℕ, List, [], ◌∷◌, Bool, true, false, cond, Option, Some, None, is_some, arith}
use Rattle.std.proofs.lemmas.Bool.{cond-true, cond-false}
use Rattle.std.proofs.lemmas.Cmp.{eq_by_cmp_equiv}
use Rattle.std.proofs.lemmas.Map.Lookups.{exact_bytes}
use Rattle.std.proofs.lemmas.Map.Views.{tells_apart}
use Rattle.std.specs.Cmp.Lexicographic.{nat_list_cmp_total}
use Rattle.std.specs.Map.{lookup, remove_entry, set_value}
use Rattle.std.specs.Ordering.{is_eq, match_ordering}
use Rattle.std.specs.declared.cmp.Ordering.{Ordering}
use Rattle.std.specs.declared.cmp.Ordering.TheVariants.{Less, Equal, Greater}
use Rattle.std.specs.BTreeMap.{is_at, insert_entry}
use Rattle.object_tree.specs.Objects.{text_cmp}

-- a text compares as equal to itself
pub at_itself : (p : List ℕ) → is_at (text_cmp p) p ≡ true
at_itself p = (eq_by_cmp_equiv nat_list_cmp_total).refl p

pub at_swap : (p q : List ℕ) → is_at (text_cmp p) q ≡ is_at (text_cmp q) p
at_swap p q = (eq_by_cmp_equiv nat_list_cmp_total).symm p q

-- and to no other
pub same_at : (p q : List ℕ) → is_at (text_cmp p) q ≡ true → p ≡ q
same_at p q h = tells_apart exact_bytes p q h

module _ {X : Type 0} where
  -- another key is found as before
  pub remove_other : (p q : List ℕ) → is_at (text_cmp q) p ≡ false → (es : List (List ℕ × X)) → lookup (is_at (text_cmp q)) (remove_entry (is_at (text_cmp p)) es) ≡ lookup (is_at (text_cmp q)) es
  remove_other p q ne [] = refl
  remove_other p q ne (e ∷ es) = by (is_at (text_cmp p) e.0) refl (remove_other p q ne es)
    where
      by : (b : Bool) → is_at (text_cmp p) e.0 ≡ b → lookup (is_at (text_cmp q)) (remove_entry (is_at (text_cmp p)) es) ≡ lookup (is_at (text_cmp q)) es → lookup (is_at (text_cmp q)) (cond b es (e ∷ remove_entry (is_at (text_cmp p)) es)) ≡ cond (is_at (text_cmp q) e.0) (Some e.1) (lookup (is_at (text_cmp q)) es)
      by true h later = sym (cond-false (is_at (text_cmp q) e.0) (Some e.1) (lookup (is_at (text_cmp q)) es) (subst (λ x. is_at (text_cmp q) x ≡ false) (same_at p e.0 h) ne))
      by false h later = ap (cond (is_at (text_cmp q) e.0) (Some e.1)) later

  -- what is found after one was taken out was there before
  pub was_there : (p q : List ℕ) (es : List (List ℕ × X)) → is_some (lookup (is_at (text_cmp q)) (remove_entry (is_at (text_cmp p)) es)) ≡ true → is_some (lookup (is_at (text_cmp q)) es) ≡ true
  was_there p q [] h = h
  was_there p q (e ∷ es) h = by (is_at (text_cmp p) e.0) (is_at (text_cmp q) e.0) refl h (was_there p q es)
    where
      by : (b c : Bool) → is_at (text_cmp q) e.0 ≡ c → is_some (lookup (is_at (text_cmp q)) (cond b es (e ∷ remove_entry (is_at (text_cmp p)) es))) ≡ true → (is_some (lookup (is_at (text_cmp q)) (remove_entry (is_at (text_cmp p)) es)) ≡ true → is_some (lookup (is_at (text_cmp q)) es) ≡ true) → is_some (cond c (Some e.1) (lookup (is_at (text_cmp q)) es)) ≡ true
      by b true at g later = refl
      by true false at g later = g
      by false false at g later = later (sym (ap is_some (cond-false (is_at (text_cmp q) e.0) (Some e.1) (lookup (is_at (text_cmp q)) (remove_entry (is_at (text_cmp p)) es)) at)) ∙ g)

  -- the same keys are there after a value was changed
  pub there_set : (t u : List ℕ → Bool) (es : List (List ℕ × X)) (w : X) → is_some (lookup t (set_value u es w)) ≡ is_some (lookup t es)
  there_set t u [] w = refl
  there_set t u (e ∷ es) w = by (u e.0) (there_set t u es w)
    where
      found : (c : Bool) (x y : X) (o r : Option X) → is_some o ≡ is_some r → is_some (cond c (Some x) o) ≡ is_some (cond c (Some y) r)
      found true x y o r h = refl
      found false x y o r h = h

      by : (b : Bool) → is_some (lookup t (set_value u es w)) ≡ is_some (lookup t es) → is_some (lookup t (cond b ((e.0, w) ∷ es) (e ∷ set_value u es w))) ≡ is_some (cond (t e.0) (Some e.1) (lookup t es))
      by true later = found (t e.0) w e.1 (lookup t es) (lookup t es) refl
      by false later = found (t e.0) e.1 e.1 (lookup t (set_value u es w)) (lookup t es) later

  -- a value that is changed and then taken out
  pub remove_set : (t : List ℕ → Bool) (es : List (List ℕ × X)) (w : X) → remove_entry t (set_value t es w) ≡ remove_entry t es
  remove_set t [] w = refl
  remove_set t (e ∷ es) w = by (t e.0) refl (remove_set t es w)
    where
      by : (b : Bool) → t e.0 ≡ b → remove_entry t (set_value t es w) ≡ remove_entry t es → remove_entry t (cond b ((e.0, w) ∷ es) (e ∷ set_value t es w)) ≡ cond b es (e ∷ remove_entry t es)
      by true h later = cond-true (t e.0) es ((e.0, w) ∷ remove_entry t es) h
      by false h later = cond-false (t e.0) (set_value t es w) (e ∷ remove_entry t (set_value t es w)) h ∙ ap (λ r. e ∷ r) later

  -- nothing is taken out where the key isn't there
  pub remove_absent : (t : List ℕ → Bool) (es : List (List ℕ × X)) → lookup t es ≡ None → remove_entry t es ≡ es
  remove_absent t [] h = refl
  remove_absent t (e ∷ es) h = by (t e.0) h (remove_absent t es)
    where
      by : (b : Bool) → cond b (Some e.1) (lookup t es) ≡ None → (lookup t es ≡ None → remove_entry t es ≡ es) → cond b es (e ∷ remove_entry t es) ≡ e ∷ es
      by true k later = grind arith
      by false k later = ap (λ r. e ∷ r) (later k)

  -- a value that was changed is found
  pub lookup_set : (t : List ℕ → Bool) (es : List (List ℕ × X)) (w : X) → is_some (lookup t es) ≡ true → lookup t (set_value t es w) ≡ Some w
  lookup_set t [] w h = grind arith
  lookup_set t (e ∷ es) w h = by (t e.0) refl h (lookup_set t es w)
    where
      by : (b : Bool) → t e.0 ≡ b → is_some (cond b (Some e.1) (lookup t es)) ≡ true → (is_some (lookup t es) ≡ true → lookup t (set_value t es w) ≡ Some w) → lookup t (cond b ((e.0, w) ∷ es) (e ∷ set_value t es w)) ≡ Some w
      by true k at later = cond-true (t e.0) (Some w) (lookup t es) k
      by false k at later = cond-false (t e.0) (Some e.1) (lookup t (set_value t es w)) k ∙ later at

  -- what is found after an entry was put in
  pub insert_here : (k : List ℕ) (v : X) (es : List (List ℕ × X)) → is_some (lookup (is_at (text_cmp k)) (insert_entry text_cmp es k v)) ≡ true
  insert_here k v [] = ap is_some (cond-true (is_at (text_cmp k) k) (Some v) None (at_itself k))
  insert_here k v (e ∷ es) = by (text_cmp k e.0) refl (insert_here k v es)
    where
      by : (o : Ordering) → text_cmp k e.0 ≡ o → is_some (lookup (is_at (text_cmp k)) (insert_entry text_cmp es k v)) ≡ true → is_some (lookup (is_at (text_cmp k)) (match_ordering o ((k, v) ∷ e ∷ es) ((e.0, v) ∷ es) (e ∷ insert_entry text_cmp es k v))) ≡ true
      by Less h later = ap is_some (cond-true (is_at (text_cmp k) k) (Some v) (lookup (is_at (text_cmp k)) (e ∷ es)) (at_itself k))
      by Equal h later = ap is_some (cond-true (is_at (text_cmp k) e.0) (Some v) (lookup (is_at (text_cmp k)) es) (ap is_eq h))
      by Greater h later = ap is_some (cond-false (is_at (text_cmp k) e.0) (Some e.1) (lookup (is_at (text_cmp k)) (insert_entry text_cmp es k v)) (ap is_eq h)) ∙ later

  pub insert_other : (k q : List ℕ) (v : X) → is_at (text_cmp q) k ≡ false → (es : List (List ℕ × X)) → lookup (is_at (text_cmp q)) (insert_entry text_cmp es k v) ≡ lookup (is_at (text_cmp q)) es
  insert_other k q v ne [] = cond-false (is_at (text_cmp q) k) (Some v) None ne
  insert_other k q v ne (e ∷ es) = by (text_cmp k e.0) refl (insert_other k q v ne es)
    where
      by : (o : Ordering) → text_cmp k e.0 ≡ o → lookup (is_at (text_cmp q)) (insert_entry text_cmp es k v) ≡ lookup (is_at (text_cmp q)) es → lookup (is_at (text_cmp q)) (match_ordering o ((k, v) ∷ e ∷ es) ((e.0, v) ∷ es) (e ∷ insert_entry text_cmp es k v)) ≡ lookup (is_at (text_cmp q)) (e ∷ es)
      by Less h later = cond-false (is_at (text_cmp q) k) (Some v) (lookup (is_at (text_cmp q)) (e ∷ es)) ne
      by Equal h later =
          let apart : is_at (text_cmp q) e.0 ≡ false = subst (λ (x : List ℕ). is_at (text_cmp q) x ≡ false) (same_at k e.0 (ap is_eq h)) ne in
          cond-false (is_at (text_cmp q) e.0) (Some v) (lookup (is_at (text_cmp q)) es) apart ∙ sym (cond-false (is_at (text_cmp q) e.0) (Some e.1) (lookup (is_at (text_cmp q)) es) apart)
      by Greater h later = ap (cond (is_at (text_cmp q) e.0) (Some e.1)) later

  -- an entry that is put in and taken out again
  pub undone : (k : List ℕ) (v : X) (es : List (List ℕ × X)) → is_some (lookup (is_at (text_cmp k)) es) ≡ false → remove_entry (is_at (text_cmp k)) (insert_entry text_cmp es k v) ≡ es
  undone k v [] h = cond-true (is_at (text_cmp k) k) [] ((k, v) ∷ []) (at_itself k)
  undone k v (e ∷ es) h = by (text_cmp k e.0) refl h (undone k v es)
    where
      by : (o : Ordering) → text_cmp k e.0 ≡ o → is_some (cond (is_eq o) (Some e.1) (lookup (is_at (text_cmp k)) es)) ≡ false → (is_some (lookup (is_at (text_cmp k)) es) ≡ false → remove_entry (is_at (text_cmp k)) (insert_entry text_cmp es k v) ≡ es) → remove_entry (is_at (text_cmp k)) (match_ordering o ((k, v) ∷ e ∷ es) ((e.0, v) ∷ es) (e ∷ insert_entry text_cmp es k v)) ≡ e ∷ es
      by Less o g later = cond-true (is_at (text_cmp k) k) (e ∷ es) ((k, v) ∷ remove_entry (is_at (text_cmp k)) (e ∷ es)) (at_itself k)
      by Equal o g later = grind arith
      by Greater o g later = cond-false (is_at (text_cmp k) e.0) (insert_entry text_cmp es k v) (e ∷ remove_entry (is_at (text_cmp k)) (insert_entry text_cmp es k v)) (ap is_eq o) ∙ ap (λ r. e ∷ r) (later g)

-- two different keys put in, either first
module _ {X : Type 0} (k a : List ℕ) (v w : X) where
  by_three : (e : List ℕ × X) (es : List (List ℕ × X)) (x y z : Ordering) → text_cmp k e.0 ≡ x → text_cmp a e.0 ≡ y → text_cmp k a ≡ z → is_eq z ≡ false
      → insert_entry text_cmp (insert_entry text_cmp es k v) a w ≡ insert_entry text_cmp (insert_entry text_cmp es a w) k v
      → insert_entry text_cmp (match_ordering x ((k, v) ∷ e ∷ es) ((e.0, v) ∷ es) (e ∷ insert_entry text_cmp es k v)) a w
      ≡ insert_entry text_cmp (match_ordering y ((a, w) ∷ e ∷ es) ((e.0, w) ∷ es) (e ∷ insert_entry text_cmp es a w)) k v
  by_three e es x y z p q r ne later =
      let total = nat_list_cmp_total in
      let back = total.antisymm a k in
      let t1 = total.trans k a e.0 in
      let t2 = total.trans a k e.0 in
      let t3 = total.congr k e.0 a in
      let t4 = total.congr a e.0 k in
      grind (arith, total.antisymm a e.0, total.antisymm k e.0, total.antisymm e.0 a, total.antisymm e.0 k)

  by_two : (x y : Ordering) → text_cmp a k ≡ x → text_cmp k a ≡ y → is_eq y ≡ false
      → match_ordering {X = List (List ℕ × X)} x ((a, w) ∷ (k, v) ∷ []) ((k, w) ∷ []) ((k, v) ∷ (a, w) ∷ []) ≡ match_ordering {X = List (List ℕ × X)} y ((k, v) ∷ (a, w) ∷ []) ((a, v) ∷ []) ((a, w) ∷ (k, v) ∷ [])
  by_two x y p q ne = let back = nat_list_cmp_total.antisymm a k in grind arith

  pub insert_swap : (es : List (List ℕ × X)) → is_at (text_cmp k) a ≡ false → insert_entry text_cmp (insert_entry text_cmp es k v) a w ≡ insert_entry text_cmp (insert_entry text_cmp es a w) k v
  insert_swap [] ne = by_two (text_cmp a k) (text_cmp k a) refl refl ne
  insert_swap (e ∷ es) ne = by_three e es (text_cmp k e.0) (text_cmp a e.0) (text_cmp k a) refl refl refl ne (insert_swap es ne)
