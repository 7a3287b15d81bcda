-- What a walk over the list gives, with the paths on the way.
use Rattle.std.proofs.Common.{◌≡◌, refl, sym, ◌∙◌, ap, subst, ℕ, ◌≤◌, ◌<◌, nat_le, List, [], ◌∷◌, length, take, Bool, true, false, cond, not, ◌||◌, ◌&&◌, Option, Some, None, is_some, IsTrue, zero, suc, ◌+◌, ◌++◌, add-one, drop, arith, ⊎_elim, Less}
use Rattle.std.specs.List.{AllByRecursion, slice_get}
use Rattle.std.specs.List.Sorted.{IsStrictlySortedBy}
use Rattle.std.specs.Map.{keys_of}
use Rattle.std.specs.BTreeMap.{is_at}
use Rattle.std.specs.Ordering.{is_eq, is_gt}
use Rattle.std.specs.declared.cmp.Ordering.{Ordering}
use Rattle.std.specs.declared.cmp.Ordering.TheVariants.{Equal, Greater}
use Rattle.std.proofs.lemmas.Bool.{cond-true, cond-false, false_from_ne_true, both_ways, cases_order}
use Rattle.std.proofs.lemmas.Slice.Eq.{bytes_eq-Decides}
use Rattle.wire_names.specs.Names.{is_object_path}
use Rattle.object_tree.specs.Objects.{Objects, Rows, IsObject, text_cmp, is_same, is_below, has_below, rows_at, below}
use Rattle.object_tree.specs.Closed.{AreNodes, closed, closed_from, place, run, bare_at, ways, walked}
use Rattle.object_tree.proofs.Entries.{same_at}
use Rattle.object_tree.proofs.Below.{is_below-Decides, below_less}
use Rattle.object_tree.proofs.Closed.{or_bare, is_upto, is_by, rows_from, from_ascends, front_of_path, none_before, all_less, less_self, turned}
use Rattle.object_tree.proofs.Found.{same_lists, is_on_way, rows_closed, closed_sorted, above_above}
use Rattle.object_tree.proofs.Placed.{behind, none_next, not_below}
use Rattle.object_tree.proofs.Valid.{low_path}
use Rattle.object_tree.proofs.Ways.{same_below}

-- two paths above a third: one is the other or above it
pub comparable : (a b c : List ℕ) → is_below a c ≡ true → is_below b c ≡ true → (is_upto a b || is_below b a) ≡ true
comparable a b c ac bc =
    let fa = front_of_path [] c a ac in
    let fb = front_of_path [] c b bc in
    ⊎_elim
    (λ (e : length a ≡ length b). let same : a ≡ b = sym fa.0 ∙ ap (λ n. take n c) e ∙ fb.0 in
    (let s = (bytes_eq-Decides a b).1 same in grind arith))
    (λ o. ⊎_elim
    (λ (l : length a < length b). let u : is_below a b ≡ true = ap (is_below a) (sym fb.0) ∙ sym (same_below a c (length b) l (omega (arith, fb.1))) ∙ ac in grind arith)
    (λ (l : length b < length a). let u : is_below b a ≡ true = ap (is_below b) (sym fa.0) ∙ sym (same_below b c (length a) l (omega (arith, fa.1))) ∙ bc in grind arith) o)
    (cases_order (length a) (length b))

-- what is found among those that are below
rows_filter : (objects : Objects) (path p : List ℕ) → rows_at (below objects path) p ≡ cond (is_below path p) (rows_at objects p) None
rows_filter [] path p = by (is_below path p)
  where
    by : (b : Bool) → (let r : Option Rows = None in r) ≡ cond b None None
    by true = refl
    by false = refl
rows_filter (o ∷ objects) path p = by (is_at (text_cmp p) o.0) refl (is_below path o.0) refl (rows_filter objects path p)
  where
    by : (a : Bool) → is_at (text_cmp p) o.0 ≡ a → (b : Bool) → is_below path o.0 ≡ b → rows_at (below objects path) p ≡ cond (is_below path p) (rows_at objects p) None
        → rows_at (cond b (o ∷ below objects path) (below objects path)) p ≡ cond (is_below path p) (cond a (Some o.1) (rows_at objects p)) None
    by true e true f h = cond-true (is_at (text_cmp p) o.0) (Some o.1) (rows_at (below objects path) p) e ∙ sym (cond-true (is_below path p) (Some o.1) None (ap (is_below path) (same_at p o.0 e) ∙ f))
    by true e false f h =
        let no = ap (is_below path) (same_at p o.0 e) ∙ f in
        h ∙ cond-false (is_below path p) (rows_at objects p) None no ∙ sym (cond-false (is_below path p) (Some o.1) None no)
    by false e true f h = cond-false (is_at (text_cmp p) o.0) (Some o.1) (rows_at (below objects path) p) e ∙ h
    by false e false f h = h

below_filter : (objects : Objects) (path p : List ℕ) → is_below path p ≡ true → has_below (below objects path) p ≡ has_below objects p
below_filter [] path p under = refl
below_filter (o ∷ objects) path p under = by (is_below path o.0) refl (below_filter objects path p under)
  where
    by : (b : Bool) → is_below path o.0 ≡ b → has_below (below objects path) p ≡ has_below objects p → has_below (cond b (o ∷ below objects path) (below objects path)) p ≡ (is_below p o.0 || has_below objects p)
    by true e h = ap (λ b. is_below p o.0 || b) h
    by false e h = h ∙ ap (λ b. b || has_below objects p) (sym (false_from_ne_true (is_below p o.0) (λ u. both_ways (is_below path o.0) e (above_above path p o.0 under u))))

-- a path above one that is below is upto the first or below that
off_way : (objects : Objects) (path p : List ℕ) → has_below (below objects path) p ≡ true → is_upto p path ≡ false → is_below path p ≡ true
off_way [] path p h u = grind arith
off_way (o ∷ objects) path p h u = by (is_below path o.0) refl h (λ k. off_way objects path p k u)
  where
    pick : (a b : Bool) → (a || b) ≡ true → a ≡ false → b ≡ true
    pick true b h e = absurd (both_ways false refl (sym e))
    pick false b h e = h

    inner : (b : Bool) → is_below p o.0 ≡ b → is_below path o.0 ≡ true → (b || has_below (below objects path) p) ≡ true → (has_below (below objects path) p ≡ true → is_below path p ≡ true) → is_below path p ≡ true
    inner true e f k later = pick (is_upto p path) (is_below path p) (comparable p path o.0 e f) u
    inner false e f k later = later k

    by : (b : Bool) → is_below path o.0 ≡ b → has_below (cond b (o ∷ below objects path) (below objects path)) p ≡ true → (has_below (below objects path) p ≡ true → is_below path p ≡ true) → is_below path p ≡ true
    by true e k later = inner (is_below p o.0) refl e k later
    by false e k later = later k

all_below : (objects : Objects) (path : List ℕ) → AllByRecursion (λ y. text_cmp path y ≡ Less) (keys_of (below objects path))
all_below [] path = tt
all_below (o ∷ objects) path = by (is_below path o.0) refl (all_below objects path)
  where
    by : (b : Bool) → is_below path o.0 ≡ b → AllByRecursion (λ y. text_cmp path y ≡ Less) (keys_of (below objects path)) → AllByRecursion (λ y. text_cmp path y ≡ Less) (keys_of (cond b (o ∷ below objects path) (below objects path)))
    by true e h = (below_less path o.0 ((is_below-Decides path o.0).0 e), h)
    by false e h = h

keep_all : (P : List ℕ → Type 0) (objects : Objects) (path : List ℕ) → AllByRecursion P (keys_of objects) → AllByRecursion P (keys_of (below objects path))
keep_all P [] path h = tt
keep_all P (o ∷ objects) path h = by (is_below path o.0) (keep_all P objects path h.1)
  where
    by : (b : Bool) → AllByRecursion P (keys_of (below objects path)) → AllByRecursion P (keys_of (cond b (o ∷ below objects path) (below objects path)))
    by true k = (h.0, k)
    by false k = k

keep_sorted : (objects : Objects) (path : List ℕ) → IsStrictlySortedBy text_cmp (keys_of objects) → IsStrictlySortedBy text_cmp (keys_of (below objects path))
unfolding IsStrictlySortedBy
keep_sorted [] path s = tt
keep_sorted (o ∷ objects) path s = by (is_below path o.0) (keep_sorted objects path s.1)
  where
    by : (b : Bool) → IsStrictlySortedBy text_cmp (keys_of (below objects path)) → IsStrictlySortedBy text_cmp (keys_of (cond b (o ∷ below objects path) (below objects path)))
    by true k = (keep_all (λ y. text_cmp o.0 y ≡ Less) objects path s.0, k)
    by false k = k

keep_valid : (objects : Objects) (path : List ℕ) → AllByRecursion IsObject objects → AllByRecursion IsObject (below objects path)
keep_valid [] path v = tt
keep_valid (o ∷ objects) path v = by (is_below path o.0) (keep_valid objects path v.1)
  where
    by : (b : Bool) → AllByRecursion IsObject (below objects path) → AllByRecursion IsObject (cond b (o ∷ below objects path) (below objects path))
    by true k = (v.0, k)
    by false k = k

-- the objects below a path, with those on the way from it, are those of the whole tree
pub below_whole : (objects : Objects) (path : List ℕ) → AreNodes objects → AllByRecursion (λ b. 47 ≤ b) path → closed_from path (below objects path) ≡ below (closed objects) path
below_whole objects path are low =
    same_lists (closed_from path (below objects path)) (below (closed objects) path)
    (from_ascends path (below objects path) low (all_below objects path) (keep_sorted objects path are.sorted) (keep_valid objects path are.valid)).1
    (keep_sorted (closed objects) path (closed_sorted objects are))
    (λ p. rows_from path (below objects path) (all_below objects path) (keep_sorted objects path are.sorted) (keep_valid objects path are.valid) p
    ∙ ap (λ r. or_bare r (is_by path (below objects path) p)) (rows_filter objects path p)
    ∙ by p (is_below path p) refl
    ∙ ap (λ r. cond (is_below path p) r None) (sym (rows_closed objects are p))
    ∙ sym (rows_filter (closed objects) path p))
  where
    not_upto : (p : List ℕ) → is_below path p ≡ true → is_upto p path ≡ false
    not_upto p under = false_from_ne_true (is_upto p path) (λ h. go (is_same p path) refl h)
      where
        longer : length path < length p
        longer = (front_of_path [] p path under).1

        go : (b : Bool) → is_same p path ≡ b → (b || is_below p path) ≡ true → ⊥
        go true e h = let l = ap length ((bytes_eq-Decides p path).0 e) in omega (arith, l, longer)
        go false e h = let l = (front_of_path [] path p h).1 in omega (arith, l, longer)

    pick : (h u : Bool) → u ≡ false → (h && not u) ≡ h
    pick true u e = ap not e
    pick false u e = refl

    none : (n h u : Bool) → (h ≡ true → u ≡ false → ⊥) → (n && (h && not u)) ≡ false
    none false h u f = refl
    none true false u f = refl
    none true true true f = refl
    none true true false f = absurd (f refl refl)

    by : (p : List ℕ) (b : Bool) → is_below path p ≡ b → or_bare (cond b (rows_at objects p) None) (is_by path (below objects path) p) ≡ cond b (or_bare (rows_at objects p) (is_on_way objects p)) None
    by p true under = ap (λ b. or_bare (rows_at objects p) (nat_le 1 (length p) && b)) (pick (has_below (below objects path) p) (is_upto p path) (not_upto p under) ∙ below_filter objects path p under)
    by p false apart = ap (λ b. cond b (Some []) None) (none (nat_le 1 (length p)) (has_below (below objects path) p) (is_upto p path) (λ h u. both_ways (is_below path p) apart (off_way objects path p h u)))

pub below_nothing : (path : List ℕ) (objects : Objects) → has_below objects path ≡ false → below objects path ≡ []
below_nothing path [] h = refl
below_nothing path (o ∷ objects) h = by (is_below path o.0) h (λ k. below_nothing path objects k)
  where
    by : (b : Bool) → (b || has_below objects path) ≡ false → (has_below objects path ≡ false → below objects path ≡ []) → cond b (o ∷ below objects path) (below objects path) ≡ []
    by true k later = absurd (both_ways false refl (sym k))
    by false k later = later k

run_after : (path : List ℕ) (objects : Objects) → AllByRecursion (λ y. text_cmp path y ≡ Less) (keys_of objects) → IsStrictlySortedBy text_cmp (keys_of objects) → AllByRecursion IsObject objects → run path objects ≡ below objects path
unfolding IsStrictlySortedBy
run_after path [] all s v = refl
run_after path (o ∷ objects) all s v = by (is_below path o.0) refl (run_after path objects all.1 s.1 v.1)
  where
    by : (b : Bool) → is_below path o.0 ≡ b → run path objects ≡ below objects path → cond b (o ∷ run path objects) [] ≡ cond b (o ∷ below objects path) (below objects path)
    by true e h = ap (λ r. o ∷ r) h
    by false e h = sym (below_nothing path objects (none_next path o.0 objects s.0 all.0 (low_path o.0 v.0.path) e))

-- those that follow the path's place
pub run_behind : (path : List ℕ) (objects : Objects) → IsStrictlySortedBy text_cmp (keys_of objects) → AllByRecursion IsObject objects → run path (drop (behind objects path) objects) ≡ below objects path
unfolding IsStrictlySortedBy
run_behind path [] s v = by (behind [] path)
  where
    by : (n : ℕ) → run path (drop n (let l : Objects = [] in l)) ≡ []
    by zero = refl
    by (suc n) = refl
run_behind path (x ∷ objects) s v = by (text_cmp path x.0) refl (run_behind path objects s.1 v.1)
  where
    pass : is_below path x.0 ≡ false → below objects path ≡ below (x ∷ objects) path
    pass e = sym (cond-false (is_below path x.0) (x ∷ below objects path) (below objects path) e)

    pick : (b : Bool) → drop (cond b (suc (place objects path)) (place objects path)) objects ≡ drop (cond b (suc (suc (place objects path))) (suc (place objects path))) (x ∷ objects)
    pick true = refl
    pick false = refl

    by : (c : Ordering) → text_cmp path x.0 ≡ c → run path (drop (behind objects path) objects) ≡ below objects path
        → run path (drop (cond (is_some (cond (is_eq c) (Some x.1) (rows_at objects path))) (suc (cond (is_gt c) (suc (place objects path)) 0)) (cond (is_gt c) (suc (place objects path)) 0)) (x ∷ objects)) ≡ below (x ∷ objects) path
    by Less e h =
        ap (λ b. run path (drop (cond b 1 0) (x ∷ objects))) (ap is_some (none_before path x.0 objects s.0 (λ l. turned path x.0 e l)))
        ∙ run_after path (x ∷ objects) (e, all_less path x.0 (keys_of objects) e s.0) s v
    by Equal e h =
        let same = same_at path x.0 (ap is_eq e) in
        run_after path objects (subst (λ (z : List ℕ). AllByRecursion (λ y. text_cmp z y ≡ Less) (keys_of objects)) (sym same) s.0) s.1 v.1
        ∙ pass (not_below path x.0 (λ l. less_self path (subst (λ (z : List ℕ). text_cmp path z ≡ Less) (sym same) l)))
    by Greater e h = ap (run path) (sym (pick (is_some (rows_at objects path)))) ∙ h ∙ pass (not_below path x.0 (λ l. grind arith))

-- ---- one step of the walk

none_left : (n : ℕ) (m : Objects) → slice_get m n ≡ None → drop n m ≡ []
none_left zero [] h = refl
none_left (suc n) [] h = refl
none_left zero (o ∷ m) h = grind arith
none_left (suc n) (o ∷ m) h = none_left n m h

one_left : (n : ℕ) (m : Objects) (o : List ℕ × Rows) → slice_get m n ≡ Some o → drop n m ≡ o ∷ drop (suc n) m
one_left n [] o h = grind arith
one_left zero (x ∷ m) o h = ap (λ y. y ∷ m) (let e : x ≡ o = grind arith in e)
one_left (suc n) (x ∷ m) o h = one_left n m o h

append_nil : (xs : Objects) → xs ++ [] ≡ xs
append_nil [] = refl
append_nil (x ∷ xs) = ap (λ r. x ∷ r) (append_nil xs)

assoc : (xs ys zs : Objects) → (xs ++ ys) ++ zs ≡ xs ++ (ys ++ zs)
assoc [] ys zs = refl
assoc (x ∷ xs) ys zs = ap (λ r. x ∷ r) (assoc xs ys zs)

-- the list so far, and what is to come
abbrev pub so_far : List ℕ → Objects → Objects → List ℕ → ℕ → Objects
so_far path m items last at = items ++ closed_from last (run path (drop at m))

pub walk_end : (path : List ℕ) (m items : Objects) (last : List ℕ) (at : ℕ) → slice_get m at ≡ None → so_far path m items last at ≡ items
walk_end path m items last at h = ap (λ d. items ++ closed_from last (run path d)) (none_left at m h) ∙ append_nil items

pub walk_stop : (path : List ℕ) (m items : Objects) (last : List ℕ) (at : ℕ) (o : List ℕ × Rows) → slice_get m at ≡ Some o → is_below path o.0 ≡ false → so_far path m items last at ≡ items
walk_stop path m items last at o h e =
    ap (λ d. items ++ closed_from last (run path d)) (one_left at m o h)
    ∙ ap (λ b. items ++ closed_from last (cond b (o ∷ run path (drop (suc at) m)) [])) e ∙ append_nil items

pub walk_step : (path : List ℕ) (m items : Objects) (last : List ℕ) (at : ℕ) (o : List ℕ × Rows) → slice_get m at ≡ Some o → is_below path o.0 ≡ true → so_far path m ((items ++ bare_at (ways last o.0)) ++ o ∷ []) o.0 (at + 1) ≡ so_far path m items last at
walk_step path m items last at o h e =
    assoc (items ++ bare_at (ways last o.0)) (o ∷ []) (closed_from o.0 (run path (drop (at + 1) m)))
    ∙ assoc items (bare_at (ways last o.0)) (o ∷ closed_from o.0 (run path (drop (at + 1) m)))
    ∙ ap (λ n. items ++ (bare_at (ways last o.0) ++ o ∷ closed_from o.0 (run path (drop n m)))) (add-one at)
    ∙ sym (ap (λ d. items ++ closed_from last (run path d)) (one_left at m o h)
    ∙ ap (λ b. items ++ closed_from last (cond b (o ∷ run path (drop (suc at) m)) [])) e)

pub valid_at : (m : Objects) (n : ℕ) (o : List ℕ × Rows) → AllByRecursion IsObject m → slice_get m n ≡ Some o → IsObject o
valid_at [] n o v h = grind arith
valid_at (x ∷ m) zero o v h = subst (λ (y : List ℕ × Rows). IsObject y) (let e : x ≡ o = grind arith in e) v.0
valid_at (x ∷ m) (suc n) o v h = valid_at m n o v.1 h

-- what the walk gives from the place after the path on
pub walked_is : (path : List ℕ) (m : Objects) (at : ℕ) → AreNodes m → IsTrue (is_object_path path) → at ≡ behind m path → walked path m at ≡ below (closed m) path
walked_is path m at are valid is =
    ap (λ n. closed_from path (run path (drop n m))) is ∙ ap (closed_from path) (run_behind path m are.sorted are.valid) ∙ below_whole m path are (low_path path valid)
