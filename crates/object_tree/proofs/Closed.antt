-- What is found in a tree that is given by the paths that were put in.
use Rattle.std.proofs.Common.{◌≡◌, refl, sym, ◌∙◌, ap, subst, ℕ, zero, suc, ◌-◌, ◌≤◌, ◌<◌, nat_le, List, [], ◌∷◌, ◌++◌, length, take, Bool, true, false, cond, not, ◌||◌, ◌&&◌, Option, Some, None, is_some, arith, filter, nat_cmp, is_gt, Less, ⊎_elim, length-take-le, take-take}
use Rattle.std.specs.List.{AllByRecursion}
use Rattle.std.specs.List.Sorted.{IsStrictlySortedBy}
use Rattle.std.specs.Cmp.Lexicographic.{slice_cmp, nat_list_cmp_total}
use Rattle.std.specs.Map.{keys_of}
use Rattle.std.specs.BTreeMap.{is_at}
use Rattle.std.specs.Ordering.{is_eq}
use Rattle.std.specs.declared.cmp.Ordering.{Ordering}
use Rattle.std.specs.declared.cmp.Ordering.TheVariants.{Equal, Greater}
use Rattle.std.proofs.lemmas.Bool.{cond-false, false_from_ne_true, both_ways, cases_order, and_parts, or_right, leb-true}
use Rattle.std.proofs.lemmas.Bool.Decides.{nat_tests}
use Rattle.std.proofs.lemmas.List.Elements.{filter-append}
use Rattle.std.proofs.lemmas.Slice.Eq.{bytes_eq-Decides}
use Rattle.object_tree.specs.Objects.{Objects, Rows, IsObject, text_cmp, is_same, is_below, has_below, rows_at}
use Rattle.object_tree.specs.Closed.{rising, is_new_way, ways, bare_at, closed_from}
use Rattle.object_tree.proofs.Entries.{at_itself, same_at}
use Rattle.object_tree.proofs.Below.{Below, is_below-Decides, below_less, between_below, front_begins}
use Rattle.object_tree.proofs.Valid.{low_path}
use Rattle.object_tree.proofs.Whole.{all_then}

-- one of the paths is that one
abbrev pub has : List (List ℕ) → List ℕ → Bool
has [] p = false
has (x ∷ xs) p = is_at (text_cmp p) x || has xs p

has_append : (xs ys : List (List ℕ)) (p : List ℕ) → has (xs ++ ys) p ≡ (has xs p || has ys p)
has_append [] ys p = refl
has_append (x ∷ xs) ys p = grind (arith, has_append xs ys p)

has_one : (p x : List ℕ) → has (x ∷ []) p ≡ true → p ≡ x
has_one p x h = same_at p x (by (is_at (text_cmp p) x) h)
  where
    by : (b : Bool) → (b || false) ≡ true → b ≡ true
    by true h = refl
    by false h = h

-- ---- the paths on the way

module _ (f : List ℕ → Bool) (q : List ℕ) where
  pub last_one : (n : ℕ) → filter f (rising (suc n) q) ≡ filter f (rising n q) ++ cond (f (take (suc n) q)) (take (suc n) q ∷ []) []
  last_one n = filter-append f (rising n q) (take (suc n) q ∷ [])

  pub has_front : (n k : ℕ) → 1 ≤ k → k ≤ n → f (take k q) ≡ true → has (filter f (rising n q)) (take k q) ≡ true
  has_front zero k one most pass = grind arith
  has_front (suc n) k one most pass =
      ap (λ l. has l (take k q)) (last_one n) ∙ has_append (filter f (rising n q)) (cond (f (take (suc n) q)) (take (suc n) q ∷ []) []) (take k q)
      ∙ ⊎_elim
      (λ (e : k ≡ suc n). later (has (filter f (rising n q)) (take k q)) (ap (λ b. has (cond b (take (suc n) q ∷ []) []) (take k q)) (subst (λ (j : ℕ). f (take j q) ≡ true) e pass) ∙ here (take k q) (take (suc n) q) (ap (λ j. take j q) e)))
      (λ o. sooner (has (filter f (rising n q)) (take k q)) (has (cond (f (take (suc n) q)) (take (suc n) q ∷ []) []) (take k q)) (has_front n k one (⊎_elim (λ l. omega arith) (λ l. omega arith) o) pass))
      (cases_order k (suc n))
    where
      later : (a : Bool) {b : Bool} → b ≡ true → (a || b) ≡ true
      later true h = refl
      later false h = h

      sooner : (a b : Bool) → a ≡ true → (a || b) ≡ true
      sooner true b h = refl
      sooner false b h = grind arith

      here : (p x : List ℕ) → p ≡ x → (is_at (text_cmp p) x || false) ≡ true
      here p x e = ap (λ b. b || false) (subst (λ (y : List ℕ). is_at (text_cmp p) y ≡ true) e (at_itself p))

  pub has_only : (n : ℕ) (p : List ℕ) → has (filter f (rising n q)) p ≡ true → (f p ≡ true) × (k : ℕ) × (1 ≤ k) × (k ≤ n) × (p ≡ take k q)
  has_only zero p h = grind arith
  has_only (suc n) p h =
      by (has_only n p) (has (filter f (rising n q)) p) refl (f (take (suc n) q)) refl (sym (ap (λ l. has l p) (last_one n) ∙ has_append (filter f (rising n q)) (cond (f (take (suc n) q)) (take (suc n) q ∷ []) []) p) ∙ h)
    where
      by : (has (filter f (rising n q)) p ≡ true → (f p ≡ true) × (k : ℕ) × (1 ≤ k) × (k ≤ n) × (p ≡ take k q))
          → (a : Bool) → has (filter f (rising n q)) p ≡ a → (b : Bool) → f (take (suc n) q) ≡ b → (a || has (cond b (take (suc n) q ∷ []) []) p) ≡ true → (f p ≡ true) × (k : ℕ) × (1 ≤ k) × (k ≤ suc n) × (p ≡ take k q)
      by rec true e b g h = let found = rec e in (found.0, found.1, found.2, omega (arith, found.3), found.4)
      by rec false e true g h = let same = has_one p (take (suc n) q) h in (subst (λ (x : List ℕ). f x ≡ true) (sym same) g, suc n, omega arith, omega arith, same)
      by rec false e false g h = absurd (both_ways false refl h)

-- ---- what is found

rows_bare : (paths : List (List ℕ)) (rest : Objects) (p : List ℕ) → rows_at (bare_at paths ++ rest) p ≡ cond (has paths p) (Some []) (rows_at rest p)
rows_bare [] rest p = refl
rows_bare (x ∷ paths) rest p = by (is_at (text_cmp p) x) (rows_bare paths rest p)
  where
    by : (b : Bool) → rows_at (bare_at paths ++ rest) p ≡ cond (has paths p) (Some []) (rows_at rest p) → cond b (Some []) (rows_at (bare_at paths ++ rest) p) ≡ cond (b || has paths p) (Some []) (rows_at rest p)
    by true h = refl
    by false h = h

-- these, or else none, where the path is there by another
abbrev pub or_bare : Option Rows → Bool → Option Rows
or_bare r b = cond (is_some r) r (cond b (Some []) None)

-- one of the paths is the other, or below it
abbrev pub is_upto : List ℕ → List ℕ → Bool
is_upto front path = is_same front path || is_below front path

-- what stands before another in order
pub all_less : (a b : List ℕ) (ks : List (List ℕ)) → text_cmp a b ≡ Less → AllByRecursion (λ y. text_cmp b y ≡ Less) ks → AllByRecursion (λ y. text_cmp a y ≡ Less) ks
all_less a b [] h all = tt
all_less a b (k ∷ ks) h all = (nat_list_cmp_total.trans a b k (grind arith) all.0, all_less a b ks h all.1)

-- a path that is above another is a front of it
module _ (last q : List ℕ) (p : List ℕ) where
  pub front_of_path : is_below p q ≡ true → (take (length p) q ≡ p) × (length p < length q)
  front_of_path b = front_begins p q ((is_below-Decides p q).0 b)

  ways_yes : 1 ≤ length p → is_new_way last q p ≡ true → has (ways last q) p ≡ true
  ways_yes one new =
      let under = (and_parts (is_below p q) (not (is_upto p last)) new).0 in
      let front = front_of_path under in
      subst (λ (x : List ℕ). has (ways last q) x ≡ true) front.0
      (has_front (is_new_way last q) q (length q - 1) (length p) one (omega (arith, front.1)) (subst (λ (x : List ℕ). is_new_way last q x ≡ true) (sym front.0) new))

  ways_only : has (ways last q) p ≡ true → (nat_le 1 (length p) && is_new_way last q p) ≡ true
  ways_only h =
      let found = has_only (is_new_way last q) q (length q - 1) p h in
      let new = found.0 in
      let count : length p ≡ found.1 = ap length found.4 ∙ length-take-le found.1 q (omega (arith, found.3)) in
      let one : 1 ≤ length p = omega (arith, count, found.2) in
      grind (arith, nat_tests)

  pub has_ways : has (ways last q) p ≡ (nat_le 1 (length p) && is_new_way last q p)
  has_ways = by (has (ways last q) p) refl (nat_le 1 (length p)) refl (is_new_way last q p) refl
    where
      by : (a : Bool) → has (ways last q) p ≡ a → (n : Bool) → nat_le 1 (length p) ≡ n → (w : Bool) → is_new_way last q p ≡ w → a ≡ (n && w)
      by true h n i w j = sym (sym (ap (λ b. b && is_new_way last q p) i ∙ ap (λ b. n && b) j) ∙ ways_only h)
      by false h true i true j = sym h ∙ ways_yes (leb-true 1 (length p) i) j
      by false h true i false j = refl
      by false h false i w j = refl

-- ---- the entries

step : (n b l e h : Bool) (x : Rows) (r : Option Rows) → (e ≡ true → b ≡ false) → (b ≡ true → r ≡ None) → (n ≡ true → h ≡ true → l ≡ true → e ≡ false → b ≡ false → ⊥)
    → cond (n && (b && not l)) (Some []) (cond e (Some x) (or_bare r (n && (h && not (e || b))))) ≡ or_bare (cond e (Some x) r) (n && ((b || h) && not l))
step n b l true h x r f g k = let apart = f refl in grind arith
step n true l false h x r f g k = let gone = g refl in grind arith
step false false l false h x r f g k = refl
step true false l false false x r f g k = refl
step true false false false true x r f g k = refl
step true false true false true x r f g k = absurd (k refl refl refl refl refl)

-- nothing is found before the first
pub none_before : (p first : List ℕ) (objects : Objects) → AllByRecursion (λ y. text_cmp first y ≡ Less) (keys_of objects) → (text_cmp first p ≡ Less → ⊥) → rows_at objects p ≡ None
none_before p first [] all f = refl
none_before p first (o ∷ objects) all f =
    cond-false (is_at (text_cmp p) o.0) (Some o.1) (rows_at objects p)
    (false_from_ne_true (is_at (text_cmp p) o.0) (λ h. f (subst (λ (x : List ℕ). text_cmp first x ≡ Less) (sym (same_at p o.0 h)) all.0)))
    ∙ none_before p first objects all.1 f

pub turned : (p q : List ℕ) → text_cmp p q ≡ Less → text_cmp q p ≡ Less → ⊥
turned p q a b = let back = nat_list_cmp_total.antisymm p q in grind arith

pub less_self : (p : List ℕ) → text_cmp p p ≡ Less → ⊥
less_self p h = let same = at_itself p in grind arith

pub upto_less : (p q : List ℕ) → is_upto p q ≡ true → (r : List ℕ) → text_cmp q r ≡ Less → text_cmp p r ≡ Less
upto_less p q h r less = by (is_same p q) refl h
  where
    by : (b : Bool) → is_same p q ≡ b → (b || is_below p q) ≡ true → text_cmp p r ≡ Less
    by true same k = subst (λ (x : List ℕ). text_cmp x r ≡ Less) (sym ((bytes_eq-Decides p q).0 same)) less
    by false same k = let first = below_less p q ((is_below-Decides p q).0 k) in nat_list_cmp_total.trans p q r (grind arith) less

-- what is above a later path and not after `last` is on the way to each path between
pub above_next : (p last next : List ℕ) (objects : Objects) → AllByRecursion (λ y. text_cmp next y ≡ Less) (keys_of objects) → text_cmp last next ≡ Less → AllByRecursion (λ b. 47 ≤ b) next
    → has_below objects p ≡ true → is_upto p last ≡ true → is_below p next ≡ true
above_next p last next [] all less low h upto = grind arith
above_next p last next (o ∷ objects) all less low h upto = by (is_below p o.0) refl h (λ k. above_next p last next objects all.1 less low k upto)
  where
    by : (b : Bool) → is_below p o.0 ≡ b → (b || has_below objects p) ≡ true → (has_below objects p ≡ true → is_below p next ≡ true) → is_below p next ≡ true
    by true under k later = (is_below-Decides p next).1 (between_below p o.0 next ((is_below-Decides p o.0).0 under) (upto_less p last upto next less) (ap is_gt all.0) low)
    by false under k later = later k

pub at_same : (p q : List ℕ) → is_at (text_cmp p) q ≡ is_same p q
at_same p q = by (is_at (text_cmp p) q) refl (is_same p q) refl
  where
    by : (a : Bool) → is_at (text_cmp p) q ≡ a → (b : Bool) → is_same p q ≡ b → a ≡ b
    by true i true j = refl
    by false i false j = refl
    by true i false j = absurd (both_ways (is_same p q) j ((bytes_eq-Decides p q).1 (same_at p q i)))
    by false i true j = absurd (both_ways (is_at (text_cmp p) q) i (subst (λ (x : List ℕ). is_at (text_cmp p) x ≡ true) ((bytes_eq-Decides p q).0 j) (at_itself p)))

-- a path is there by one that was put in, but isn't `last` nor on the way to that
abbrev pub is_by : List ℕ → Objects → List ℕ → Bool
is_by last objects p = nat_le 1 (length p) && (has_below objects p && not (is_upto p last))

pub rows_from : (last : List ℕ) (objects : Objects) → AllByRecursion (λ y. text_cmp last y ≡ Less) (keys_of objects) → IsStrictlySortedBy text_cmp (keys_of objects) → AllByRecursion IsObject objects
    → (p : List ℕ) → rows_at (closed_from last objects) p ≡ or_bare (rows_at objects p) (is_by last objects p)
unfolding IsStrictlySortedBy
rows_from last [] all sorted valid p = by (nat_le 1 (length p))
  where
    by : (n : Bool) → (let r : Option Rows = None in r) ≡ or_bare None (n && false)
    by true = refl
    by false = refl
rows_from last (o ∷ objects) all sorted valid p =
    rows_bare (ways last o.0) (o ∷ closed_from o.0 objects) p
    ∙ ap (λ b. cond b (Some []) (cond (is_at (text_cmp p) o.0) (Some o.1) (rows_at (closed_from o.0 objects) p))) (has_ways last o.0 p)
    ∙ ap (λ r. cond (nat_le 1 (length p) && is_new_way last o.0 p) (Some []) (cond (is_at (text_cmp p) o.0) (Some o.1) r)) (rows_from o.0 objects sorted.0 sorted.1 valid.1 p)
    ∙ ap (λ e. cond (nat_le 1 (length p) && is_new_way last o.0 p) (Some []) (cond (is_at (text_cmp p) o.0) (Some o.1) (or_bare (rows_at objects p) (nat_le 1 (length p) && (has_below objects p && not (e || is_below p o.0)))))) (sym (at_same p o.0))
    ∙ step (nat_le 1 (length p)) (is_below p o.0) (is_upto p last) (is_at (text_cmp p) o.0) (has_below objects p) o.1 (rows_at objects p)
    (λ e. false_from_ne_true (is_below p o.0) (λ b. ((is_below-Decides p o.0).0 b).0 (same_at p o.0 e)))
    (λ b. none_before p o.0 objects sorted.0 (λ less. turned o.0 p less (below_less p o.0 ((is_below-Decides p o.0).0 b))))
    (λ n h l e b. both_ways (is_below p o.0) b (above_next p last o.0 objects sorted.0 all.0 (low_path o.0 valid.0.path) h l))

-- ---- in order

-- the keys ascend, all after `last`
abbrev pub Ascends : List ℕ → List (List ℕ) → Type 0
Ascends last keys = AllByRecursion (λ y. text_cmp last y ≡ Less) keys × IsStrictlySortedBy text_cmp keys

front_less : (p q : List ℕ) → take (length p) q ≡ p → length p < length q → slice_cmp nat_cmp p q ≡ Less
front_less [] [] h l = grind arith
front_less [] (y ∷ ys) h l = refl
front_less (x ∷ xs) [] h l = grind arith
front_less (x ∷ xs) (y ∷ ys) h l = grind (arith, nat_tests, front_less xs ys)

all_append : (P : List ℕ → Type 0) (xs ys : List (List ℕ)) → AllByRecursion P xs → AllByRecursion P ys → AllByRecursion P (xs ++ ys)
all_append P [] ys h k = k
all_append P (x ∷ xs) ys h k = (h.0, all_append P xs ys h.1 k)

sorted_append : (xs : List (List ℕ)) (y : List ℕ) (ys : List (List ℕ)) → IsStrictlySortedBy text_cmp xs → AllByRecursion (λ x. text_cmp x y ≡ Less) xs → IsStrictlySortedBy text_cmp (y ∷ ys) → IsStrictlySortedBy text_cmp (xs ++ y ∷ ys)
unfolding IsStrictlySortedBy
sorted_append [] y ys h all k = k
sorted_append (x ∷ xs) y ys h all k = (
  all_append (λ z. text_cmp x z ≡ Less) xs (y ∷ ys) h.0 (all.0, all_less x y ys all.0 k.0),
  sorted_append xs y ys h.1 all.1 k,
)

sorted_nil : IsStrictlySortedBy text_cmp []
unfolding IsStrictlySortedBy
sorted_nil = tt

sorted_one : (x : List ℕ) → IsStrictlySortedBy text_cmp (x ∷ [])
unfolding IsStrictlySortedBy
sorted_one x = (tt, tt)

module _ (f : List ℕ → Bool) (q : List ℕ) where
  -- what holds of each front that passes
  pub all_fronts : (P : List ℕ → Type 0) (n : ℕ) → ((k : ℕ) → 1 ≤ k → k ≤ n → f (take k q) ≡ true → P (take k q)) → AllByRecursion P (filter f (rising n q))
  all_fronts P zero h = tt
  all_fronts P (suc n) h =
      subst (λ l. AllByRecursion P l) (sym (last_one f q n)) (all_append P (filter f (rising n q)) (cond (f (take (suc n) q)) (take (suc n) q ∷ []) [])
      (all_fronts P n (λ k one most. h k one (omega arith)))
      (by (f (take (suc n) q)) refl (h (suc n) (omega arith) (omega arith))))
    where
      by : (b : Bool) → f (take (suc n) q) ≡ b → (f (take (suc n) q) ≡ true → P (take (suc n) q)) → AllByRecursion P (cond b (take (suc n) q ∷ []) [])
      by true e g = (g e, tt)
      by false e g = tt

  pub fronts_ascend : (n : ℕ) → n ≤ length q → IsStrictlySortedBy text_cmp (filter f (rising n q))
  fronts_ascend zero most = sorted_nil
  fronts_ascend (suc n) most =
      subst (λ l. IsStrictlySortedBy text_cmp l) (sym (last_one f q n)) (by (f (take (suc n) q)) (fronts_ascend n (omega arith)) (all_fronts (λ x. text_cmp x (take (suc n) q) ≡ Less) n (λ k one less pass. under k less)))
    where
      under : (k : ℕ) → k ≤ n → text_cmp (take k q) (take (suc n) q) ≡ Less
      under k less =
          let a = length-take-le k q (omega (arith, most)) in
          let b = length-take-le (suc n) q most in
          front_less (take k q) (take (suc n) q) (ap (λ j. take j (take (suc n) q)) a ∙ take-take k (suc n) q (omega arith)) (omega (arith, a, b))

      by : (b : Bool) → IsStrictlySortedBy text_cmp (filter f (rising n q)) → AllByRecursion (λ x. text_cmp x (take (suc n) q) ≡ Less) (filter f (rising n q)) → IsStrictlySortedBy text_cmp (filter f (rising n q) ++ cond b (take (suc n) q ∷ []) [])
      by true s all = sorted_append (filter f (rising n q)) (take (suc n) q) [] s all (sorted_one (take (suc n) q))
      by false s all = subst (λ l. IsStrictlySortedBy text_cmp l) (sym (append_nil (filter f (rising n q)))) s
        where
          append_nil : (xs : List (List ℕ)) → xs ++ [] ≡ xs
          append_nil [] = refl
          append_nil (x ∷ xs) = ap (λ r. x ∷ r) (append_nil xs)

keys_bare : (paths : List (List ℕ)) (rest : Objects) → keys_of (bare_at paths ++ rest) ≡ paths ++ keys_of rest
keys_bare [] rest = refl
keys_bare (x ∷ paths) rest = ap (λ r. x ∷ r) (keys_bare paths rest)

-- a new path on the way to the next is after the last
new_after : (last next front : List ℕ) → text_cmp last next ≡ Less → AllByRecursion (λ b. 47 ≤ b) last → is_new_way last next front ≡ true → (text_cmp last front ≡ Less) × (text_cmp front next ≡ Less)
new_after last next front less low new = by (text_cmp last front) refl
  where
    parts : (is_below front next ≡ true) × (not (is_upto front last) ≡ true)
    parts = and_parts (is_below front next) (not (is_upto front last)) new

    under : Below front next
    under = (is_below-Decides front next).0 parts.0

    apart : is_upto front last ≡ true → ⊥
    apart h = let p = parts.1 in grind arith

    by : (c : Ordering) → text_cmp last front ≡ c → (text_cmp last front ≡ Less) × (text_cmp front next ≡ Less)
    by Less is = (is, below_less front next under)
    by Equal is = absurd (apart (ap (λ b. b || is_below front last) ((bytes_eq-Decides front last).1 (sym (same_at last front (ap is_eq is))))))
    by Greater is =
        let back : text_cmp front last ≡ Less = (let b = nat_list_cmp_total.antisymm front last in grind arith) in
        let inside = (is_below-Decides front last).1 (between_below front next last under back (ap is_gt less) low) in
        absurd (apart (or_right (is_same front last) (is_below front last) inside))

pub from_ascends : (last : List ℕ) (objects : Objects) → AllByRecursion (λ b. 47 ≤ b) last → AllByRecursion (λ y. text_cmp last y ≡ Less) (keys_of objects) → IsStrictlySortedBy text_cmp (keys_of objects) → AllByRecursion IsObject objects → Ascends last (keys_of (closed_from last objects))
unfolding IsStrictlySortedBy
from_ascends last [] low all sorted valid = (tt, tt)
from_ascends last (o ∷ objects) low all sorted valid =
    let rest = from_ascends o.0 objects (low_path o.0 valid.0.path) sorted.0 sorted.1 valid.1 in
    let whole : IsStrictlySortedBy text_cmp (o.0 ∷ keys_of (closed_from o.0 objects)) = rest in
    let new = all_fronts (is_new_way last o.0) o.0 (λ x. (text_cmp last x ≡ Less) × (text_cmp x o.0 ≡ Less)) (length o.0 - 1) (λ k one most pass. new_after last o.0 (take k o.0) all.0 low pass) in
    let keys = sym (keys_bare (ways last o.0) (o ∷ closed_from o.0 objects)) in (
      subst (λ l. AllByRecursion (λ y. text_cmp last y ≡ Less) l) keys (all_append (λ y. text_cmp last y ≡ Less) (ways last o.0) (o.0 ∷ keys_of (closed_from o.0 objects))
          (all_then _ (λ x. text_cmp last x ≡ Less) (ways last o.0) new (λ x h. h.0)) (all.0, all_less last o.0 (keys_of (closed_from o.0 objects)) all.0 rest.0)),
      subst (λ l. IsStrictlySortedBy text_cmp l) keys (sorted_append (ways last o.0) o.0 (keys_of (closed_from o.0 objects)) (fronts_ascend (is_new_way last o.0) o.0 (length o.0 - 1) (omega arith))
          (all_then _ (λ x. text_cmp x o.0 ≡ Less) (ways last o.0) new (λ x h. h.1)) whole),
    )
