-- The objects from a path on: the one at it, if it is there, and those below.
use Rattle.std.proofs.Common.{◌≡◌, refl, sym, ◌∙◌, ap, ap₂, subst, ℕ, List, [], ◌∷◌, Bool, true, false, cond, ◌||◌, Option, Some, is_some, unwrap_or, arith}
use Rattle.std.specs.List.{AllByRecursion}
use Rattle.std.specs.List.Sorted.{IsStrictlySortedBy}
use Rattle.std.specs.Map.{keys_of}
use Rattle.std.specs.Ordering.{is_eq}
use Rattle.std.specs.declared.cmp.Ordering.{Ordering}
use Rattle.std.specs.declared.cmp.Ordering.TheVariants.{Less, Equal, Greater}
use Rattle.std.specs.BTreeMap.{is_at}
use Rattle.std.specs.Cmp.Lexicographic.{nat_list_cmp_total}
use Rattle.std.proofs.lemmas.Bool.{cond-true, cond-false, false_from_ne_true, both_ways, or_left, or_from}
use Rattle.std.proofs.lemmas.Slice.Eq.{bytes_eq-Decides}
use Rattle.object_tree.specs.Objects.{Objects, Rows, text_cmp, is_same, is_below, has_below, rows_at, below, from_path}
use Rattle.object_tree.proofs.Entries.{at_itself, same_at}
use Rattle.object_tree.proofs.Below.{is_below-Decides, below_less}

not_after : (path other : List ℕ) → (text_cmp path other ≡ Less → ⊥) → is_below path other ≡ false
not_after path other f = false_from_ne_true (is_below path other) (λ b. f (below_less path other ((is_below-Decides path other).0 b)))

-- ---- where the path isn't there

pub below_none : (objects : Objects) (path : List ℕ) → has_below objects path ≡ false → [] ≡ below objects path
below_none [] path h = refl
below_none (o ∷ objects) path h = grind (arith, below_none objects path)

same_or_not : (path other : List ℕ) → is_at (text_cmp path) other ≡ false → is_same path other ≡ false
same_or_not path other h = false_from_ne_true (is_same path other) (λ s. both_ways (is_at (text_cmp path) other) h (subst (λ (x : List ℕ). is_at (text_cmp path) x ≡ true) ((bytes_eq-Decides path other).0 s) (at_itself path)))

pub from_missing : (objects : Objects) (path : List ℕ) → is_some (rows_at objects path) ≡ false → from_path objects path ≡ below objects path
from_missing [] path h = refl
from_missing (o ∷ objects) path h = by (is_at (text_cmp path) o.0) refl h (from_missing objects path)
  where
    same : (b c : Bool) → b ≡ false → from_path objects path ≡ below objects path → cond (b || c) (o ∷ from_path objects path) (from_path objects path) ≡ cond c (o ∷ below objects path) (below objects path)
    same b c h k = grind arith

    by : (c : Bool) → is_at (text_cmp path) o.0 ≡ c → is_some (cond c (Some o.1) (rows_at objects path)) ≡ false → (is_some (rows_at objects path) ≡ false → from_path objects path ≡ below objects path) → from_path (o ∷ objects) path ≡ below (o ∷ objects) path
    by true at k rest = grind arith
    by false at k rest = same (is_same path o.0) (is_below path o.0) (same_or_not path o.0 at) (rest k)

-- ---- where it is

-- a path that is there after others is after the first of them
after_first : (path first : List ℕ) (objects : Objects) → AllByRecursion (λ y. text_cmp first y ≡ Less) (keys_of objects) → is_some (rows_at objects path) ≡ true → text_cmp first path ≡ Less
after_first path first [] all there = grind arith
after_first path first (o ∷ objects) all there = by (is_at (text_cmp path) o.0) refl there (after_first path first objects all.1)
  where
    by : (c : Bool) → is_at (text_cmp path) o.0 ≡ c → is_some (cond c (Some o.1) (rows_at objects path)) ≡ true → (is_some (rows_at objects path) ≡ true → text_cmp first path ≡ Less) → text_cmp first path ≡ Less
    by true at k rest = subst (λ (x : List ℕ). text_cmp first x ≡ Less) (sym (same_at path o.0 at)) all.0
    by false at k rest = rest k

not_there : (path first : List ℕ) (objects : Objects) → AllByRecursion (λ y. text_cmp first y ≡ Less) (keys_of objects) → (text_cmp first path ≡ Less → ⊥) → is_some (rows_at objects path) ≡ false
not_there path first objects all f = false_from_ne_true (is_some (rows_at objects path)) (λ there. f (after_first path first objects all there))

not_less : (p : List ℕ) → text_cmp p p ≡ Less → ⊥
not_less p h = let same = at_itself p in grind arith

turned : (p q : List ℕ) → text_cmp p q ≡ Less → text_cmp q p ≡ Less → ⊥
turned p q a b = let back = nat_list_cmp_total.antisymm p q in grind arith

pub path_first : (path : List ℕ) (rows : Rows) (objects : Objects) → IsStrictlySortedBy text_cmp (keys_of objects) → rows_at objects path ≡ Some rows → (path, rows) ∷ below objects path ≡ from_path objects path
unfolding IsStrictlySortedBy
path_first path rows [] sorted is = grind arith
path_first path rows (o ∷ objects) sorted is = by (text_cmp path o.0) refl is (path_first path rows objects sorted.1)
  where
    beside : is_below path o.0 ≡ false → below objects path ≡ below (o ∷ objects) path
    beside b = sym (cond-false (is_below path o.0) (o ∷ below objects path) (below objects path) b)

    here : o.0 ≡ path → o.1 ≡ rows → (path, rows) ∷ below (o ∷ objects) path ≡ from_path (o ∷ objects) path
    here e r =
        let apart : is_below path o.0 ≡ false = not_after path o.0 (λ (h : text_cmp path o.0 ≡ Less). not_less path (subst (λ (x : List ℕ). text_cmp path x ≡ Less) e h)) in
        let same : is_same path o.0 ≡ true = (bytes_eq-Decides path o.0).1 (sym e) in
        let gone : is_some (rows_at objects path) ≡ false = not_there path o.0 objects sorted.0 (λ (h : text_cmp o.0 path ≡ Less). not_less path (subst (λ (x : List ℕ). text_cmp x path ≡ Less) e h)) in
        let rest : from_path objects path ≡ below (o ∷ objects) path = from_missing objects path gone ∙ beside apart in
        let both : (path, rows) ≡ o = ap₂ (λ (x : List ℕ) (y : Rows). (x, y)) (sym e) (sym r) in
        ap₂ (λ (x : List ℕ × Rows) (y : Objects). x ∷ y) both (sym rest) ∙ sym (cond-true (is_same path o.0 || is_below path o.0) (o ∷ from_path objects path) (from_path objects path) (or_left (is_same path o.0) (is_below path o.0) same))

    by : (c : Ordering) → text_cmp path o.0 ≡ c → cond (is_eq c) (Some o.1) (rows_at objects path) ≡ Some rows → (rows_at objects path ≡ Some rows → (path, rows) ∷ below objects path ≡ from_path objects path) → (path, rows) ∷ below (o ∷ objects) path ≡ from_path (o ∷ objects) path
    by Less at k later = absurd (both_ways (is_some (rows_at objects path)) (not_there path o.0 objects sorted.0 (λ (h : text_cmp o.0 path ≡ Less). turned path o.0 at h)) (ap is_some k))
    by Equal at k later = here (sym (same_at path o.0 (ap is_eq at))) (ap (λ (r : Option Rows). unwrap_or r []) k)
    by Greater at k later =
        let apart : is_below path o.0 ≡ false = not_after path o.0 (λ h. grind arith) in
        ap (λ (r : Objects). (path, rows) ∷ r) (sym (beside apart)) ∙ later k ∙ sym (cond-false (is_same path o.0 || is_below path o.0) (o ∷ from_path objects path) (from_path objects path) (or_from (is_same path o.0) (is_below path o.0) (same_or_not path o.0 (ap is_eq at)) apart))
