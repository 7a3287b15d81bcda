-- A tree that is given by the paths that were put in: what is found in it, and which paths are below.
use Rattle.std.proofs.Common.{◌≡◌, refl, sym, ◌∙◌, ap, ap₂, subst, ℕ, ◌≤◌, nat_le, List, [], ◌∷◌, length, Bool, true, false, cond, not, ◌||◌, ◌&&◌, Option, Some, None, is_some, unwrap_or, arith, Less, ⊎_elim}
use Rattle.std.specs.List.{AllByRecursion}
use Rattle.std.specs.List.Sorted.{IsStrictlySortedBy}
use Rattle.std.specs.Cmp.Lexicographic.{nat_list_cmp_total}
use Rattle.std.specs.Map.{keys_of}
use Rattle.std.specs.BTreeMap.{is_at}
use Rattle.std.specs.Ordering.{is_eq}
use Rattle.std.specs.declared.cmp.Ordering.{Ordering}
use Rattle.std.specs.declared.cmp.Ordering.TheVariants.{Equal, Greater}
use Rattle.std.proofs.lemmas.Bool.{cond-true, cond-false, false_from_ne_true, both_ways, cases_Bool, and_parts, or_left, leb-true}
use Rattle.std.proofs.lemmas.Slice.Eq.{bytes_eq-Decides}
use Rattle.object_tree.specs.Objects.{Objects, Rows, IsObject, text_cmp, is_same, is_below, has_below, rows_at, root}
use Rattle.object_tree.specs.Closed.{AreNodes, closed}
use Rattle.object_tree.proofs.Entries.{at_itself, same_at}
use Rattle.object_tree.proofs.Below.{has_below_true}
use Rattle.object_tree.proofs.Closed.{none_before, all_less, less_self, or_bare, is_upto, is_by, rows_from, from_ascends, front_of_path}
use Rattle.object_tree.proofs.Removing.{has_byte}
use Rattle.object_tree.proofs.Valid.{root_valid}
use Rattle.object_tree.proofs.Ways.{same_below}

-- ---- the same look-ups, the same entries

at_head : (x : List ℕ × Rows) (xs : Objects) → rows_at (x ∷ xs) x.0 ≡ Some x.1
at_head x xs = cond-true (is_at (text_cmp x.0) x.0) (Some x.1) (rows_at xs x.0) (at_itself x.0)

not_less : (x y : List ℕ × Rows) (xs ys : Objects) → IsStrictlySortedBy text_cmp (keys_of (y ∷ ys)) → ((q : List ℕ) → rows_at (x ∷ xs) q ≡ rows_at (y ∷ ys) q) → text_cmp x.0 y.0 ≡ Less → ⊥
unfolding IsStrictlySortedBy
not_less x y xs ys t h less =
    let none = none_before x.0 x.0 (y ∷ ys) (less, all_less x.0 y.0 (keys_of ys) less t.0) (less_self x.0) in
    let some : Some x.1 ≡ None = sym (at_head x xs) ∙ h x.0 ∙ none in cc

some_in : (r s : Rows) → Some r ≡ Some s → r ≡ s
some_in r s h = ap (λ (o : Option Rows). unwrap_or o r) h

pub same_lists : (xs ys : Objects) → IsStrictlySortedBy text_cmp (keys_of xs) → IsStrictlySortedBy text_cmp (keys_of ys) → ((q : List ℕ) → rows_at xs q ≡ rows_at ys q) → xs ≡ ys
unfolding IsStrictlySortedBy
same_lists [] [] s t h = refl
same_lists [] (y ∷ ys) s t h = let q : None ≡ Some y.1 = h y.0 ∙ at_head y ys in cc
same_lists (x ∷ xs) [] s t h = let q : None ≡ Some x.1 = sym (h x.0) ∙ at_head x xs in cc
same_lists (x ∷ xs) (y ∷ ys) s t h = by (text_cmp x.0 y.0) refl (λ k. same_lists xs ys s.1 t.1 k)
  where
    heads : x.0 ≡ y.0 → x.1 ≡ y.1
    heads e = some_in x.1 y.1 (sym (at_head x xs) ∙ h x.0 ∙ ap (rows_at (y ∷ ys)) e ∙ at_head y ys)

    tails : x.0 ≡ y.0 → (q : List ℕ) → rows_at xs q ≡ rows_at ys q
    tails e q = ⊎_elim
        (λ (k : is_at (text_cmp q) x.0 ≡ true). let same = same_at q x.0 k in
        none_before q x.0 xs s.0 (λ l. less_self x.0 (subst (λ (z : List ℕ). text_cmp x.0 z ≡ Less) same l))
        ∙ sym (none_before q y.0 ys t.0 (λ l. less_self y.0 (subst (λ (z : List ℕ). text_cmp y.0 z ≡ Less) (same ∙ e) l))))
        (λ (k : is_at (text_cmp q) x.0 ≡ false).
        sym (cond-false (is_at (text_cmp q) x.0) (Some x.1) (rows_at xs q) k) ∙ h q ∙ cond-false (is_at (text_cmp q) y.0) (Some y.1) (rows_at ys q) (subst (λ (z : List ℕ). is_at (text_cmp q) z ≡ false) e k))
        (cases_Bool (is_at (text_cmp q) x.0))

    by : (c : Ordering) → text_cmp x.0 y.0 ≡ c → (((q : List ℕ) → rows_at xs q ≡ rows_at ys q) → xs ≡ ys) → x ∷ xs ≡ y ∷ ys
    by Less is rest = absurd (not_less x y xs ys t h is)
    by Greater is rest = absurd (not_less y x ys xs s (λ q. sym (h q)) (let back = nat_list_cmp_total.antisymm y.0 x.0 in grind arith))
    by Equal is rest =
        let e = same_at x.0 y.0 (ap is_eq is) in
        ap₂ (λ (a : List ℕ × Rows) (b : Objects). a ∷ b) (ap₂ (λ (a : List ℕ) (b : Rows). (a, b)) e (heads e)) (rest (tails e))

-- ---- in the whole tree

after_nil : (objects : Objects) → AllByRecursion IsObject objects → AllByRecursion (λ y. text_cmp [] y ≡ Less) (keys_of objects)
after_nil [] h = tt
after_nil (o ∷ objects) h = (by o.0 (has_byte o.0 h.0.path), after_nil objects h.1)
  where
    by : (p : List ℕ) → 1 ≤ length p → text_cmp [] p ≡ Less
    by [] l = grind arith
    by (x ∷ p) l = refl

-- some path is below, and this one isn't empty
abbrev pub is_on_way : Objects → List ℕ → Bool
is_on_way objects p = nat_le 1 (length p) && has_below objects p

not_upto_nil : (p : List ℕ) → 1 ≤ length p → is_upto p [] ≡ false
not_upto_nil p l = false_from_ne_true (is_upto p []) (λ h. ⊎_elim (λ (s : is_same p [] ≡ true). let e = ap length ((bytes_eq-Decides p []).0 s) in omega arith)
    (λ (s : is_same p [] ≡ false). let f = front_of_path [] [] p (later (is_same p []) (is_below p []) s h) in omega (arith, f.1)) (cases_Bool (is_same p [])))
  where
    later : (a b : Bool) → a ≡ false → (a || b) ≡ true → b ≡ true
    later true b e h = absurd (both_ways true e refl)
    later false b e h = h

by_on_way : (objects : Objects) (p : List ℕ) → is_by [] objects p ≡ is_on_way objects p
by_on_way objects p = by (nat_le 1 (length p)) refl
  where
    pick : (h u : Bool) → u ≡ false → (h && not u) ≡ h
    pick true u e = ap not e
    pick false u e = refl

    by : (n : Bool) → nat_le 1 (length p) ≡ n → (n && (has_below objects p && not (is_upto p []))) ≡ (n && has_below objects p)
    by true e = pick (has_below objects p) (is_upto p []) (not_upto_nil p (leb-true 1 (length p) e))
    by false e = refl

pub rows_closed : (objects : Objects) → AreNodes objects → (p : List ℕ) → rows_at (closed objects) p ≡ or_bare (rows_at objects p) (is_on_way objects p)
unfolding closed
rows_closed objects nodes p = rows_from [] objects (after_nil objects nodes.valid) nodes.sorted nodes.valid p ∙ ap (or_bare (rows_at objects p)) (by_on_way objects p)

pub closed_sorted : (objects : Objects) → AreNodes objects → IsStrictlySortedBy text_cmp (keys_of (closed objects))
unfolding closed
closed_sorted objects nodes = (from_ascends [] objects tt (after_nil objects nodes.valid) nodes.sorted nodes.valid).1

-- ---- paths below one another

-- a path above one that is above a third is above that
pub above_above : (a b c : List ℕ) → is_below a b ≡ true → is_below b c ≡ true → is_below a c ≡ true
above_above a b c ab bc =
    let first = front_of_path [] b a ab in
    let second = front_of_path [] c b bc in
    same_below a c (length b) first.1 (omega (arith, second.1)) ∙ subst (λ (x : List ℕ). is_below a x ≡ true) (sym second.0) ab

pub below_by : (objects : Objects) (p : List ℕ) → has_below objects p ≡ true → (q : List ℕ) × (is_some (rows_at objects q) ≡ true) × (is_below p q ≡ true)
below_by [] p h = grind arith
below_by (o ∷ objects) p h = by (is_below p o.0) refl h (below_by objects p)
  where
    found : (c : Bool) (q : List ℕ) → is_some (rows_at objects q) ≡ true → is_some (cond c (Some o.1) (rows_at objects q)) ≡ true
    found true q t = refl
    found false q t = t

    here : (c : Bool) → c ≡ true → is_some (cond c (Some o.1) (rows_at objects o.0)) ≡ true
    here true t = refl
    here false t = absurd (both_ways false refl t)

    by : (b : Bool) → is_below p o.0 ≡ b → (b || has_below objects p) ≡ true → (has_below objects p ≡ true → (q : List ℕ) × (is_some (rows_at objects q) ≡ true) × (is_below p q ≡ true))
        → (q : List ℕ) × (is_some (rows_at (o ∷ objects) q) ≡ true) × (is_below p q ≡ true)
    by true e k later = (o.0, here (is_at (text_cmp o.0) o.0) (at_itself o.0), e)
    by false e k later = let l = later k in (l.0, found (is_at (text_cmp l.0) o.0) l.0 l.1, l.2)

pub some_bare : (r : Option Rows) (b : Bool) → is_some (or_bare r b) ≡ (is_some r || b)
some_bare None true = refl
some_bare None false = refl
some_bare (Some x) b = refl

pub has_below_closed : (objects : Objects) (p : List ℕ) → AreNodes objects → has_below (closed objects) p ≡ has_below objects p
has_below_closed objects p nodes = by (has_below (closed objects) p) refl (has_below objects p) refl
  where
    there : (q : List ℕ) → is_some (rows_at (closed objects) q) ≡ (is_some (rows_at objects q) || is_on_way objects q)
    there q = ap is_some (rows_closed objects nodes q) ∙ some_bare (rows_at objects q) (is_on_way objects q)

    down : has_below (closed objects) p ≡ true → has_below objects p ≡ true
    down h =
        let found = below_by (closed objects) p h in
        inner found.0 found.2 (is_some (rows_at objects found.0)) refl (sym (there found.0) ∙ found.1)
      where
        inner : (q : List ℕ) → is_below p q ≡ true → (b : Bool) → is_some (rows_at objects q) ≡ b → (b || is_on_way objects q) ≡ true → has_below objects p ≡ true
        inner q under true e k = has_below_true objects p q e under
        inner q under false e k =
            let low = below_by objects q (and_parts (nat_le 1 (length q)) (has_below objects q) k).1 in
            has_below_true objects p low.0 low.1 (above_above p q low.0 under low.2)

    up : has_below objects p ≡ true → has_below (closed objects) p ≡ true
    up h = let found = below_by objects p h in has_below_true (closed objects) p found.0 (there found.0 ∙ or_left (is_some (rows_at objects found.0)) (is_on_way objects found.0) found.1) found.2

    by : (a : Bool) → has_below (closed objects) p ≡ a → (b : Bool) → has_below objects p ≡ b → a ≡ b
    by true i true j = refl
    by false i false j = refl
    by true i false j = absurd (both_ways (has_below objects p) j (down i))
    by false i true j = absurd (both_ways (has_below (closed objects) p) i (up j))

-- ---- the root alone

one_sorted : (o : List ℕ × Rows) → IsStrictlySortedBy text_cmp (keys_of (o ∷ []))
unfolding IsStrictlySortedBy
one_sorted o = (tt, tt)

pub first_nodes : AreNodes ((root, []) ∷ [])
first_nodes = record { sorted = one_sorted (root, []); valid = (record { path = root_valid; names = tt }, tt) }

pub first_closed : closed ((root, []) ∷ []) ≡ (root, []) ∷ []
unfolding closed
first_closed = refl
