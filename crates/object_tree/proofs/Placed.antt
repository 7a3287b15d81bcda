-- Where a path stands in a list of paths that ascend.
use Rattle.std.proofs.Common.{◌≡◌, refl, sym, ◌∙◌, ap, subst, ℕ, zero, suc, ◌≤◌, ◌<◌, List, [], ◌∷◌, length, Bool, true, false, cond, ◌||◌, Some, None, is_some, option_map, unwrap_or, arith, slice_set}
use Rattle.std.specs.List.{AllByRecursion, slice_get, insert, remove}
use Rattle.std.specs.List.Sorted.{IsStrictlySortedBy}
use Rattle.std.specs.Cmp.Lexicographic.{nat_list_cmp_total}
use Rattle.std.specs.Map.{keys_of, set_value, remove_entry}
use Rattle.std.specs.BTreeMap.{is_at, insert_entry}
use Rattle.std.specs.Ordering.{is_eq, is_gt, match_ordering}
use Rattle.std.specs.declared.cmp.Ordering.{Ordering}
use Rattle.std.specs.declared.cmp.Ordering.TheVariants.{Less, Equal, Greater}
use Rattle.std.proofs.lemmas.Bool.{cond-true, cond-false, false_from_ne_true, both_ways, or_from}
use Rattle.object_tree.specs.Objects.{Objects, Rows, IsObject, text_cmp, is_below, has_below, rows_at}
use Rattle.object_tree.specs.Closed.{AreNodes, place}
use Rattle.object_tree.proofs.Entries.{same_at}
use Rattle.object_tree.proofs.Below.{is_below-Decides, below_less, between_below}
use Rattle.object_tree.proofs.Closed.{none_before, less_self, turned}
use Rattle.object_tree.proofs.Valid.{low_path}

pub later_than : (first : List ℕ) (objects : Objects) (j : ℕ) (o : List ℕ × Rows) → AllByRecursion (λ y. text_cmp first y ≡ Less) (keys_of objects) → slice_get objects j ≡ Some o → text_cmp first o.0 ≡ Less
later_than first [] j o all is = grind arith
later_than first (x ∷ objects) zero o all is = grind arith
later_than first (x ∷ objects) (suc j) o all is = later_than first objects j o all.1 is

pub place_after : (objects : Objects) (path : List ℕ) (j : ℕ) (o : List ℕ × Rows) → IsStrictlySortedBy text_cmp (keys_of objects) → slice_get objects j ≡ Some o → text_cmp o.0 path ≡ Less → j < place objects path
unfolding IsStrictlySortedBy
place_after [] path j o s is less = grind arith
place_after (x ∷ objects) path zero o s is less =
    let same : x ≡ o = grind arith in
    let back = nat_list_cmp_total.antisymm path x.0 in
    let l : text_cmp x.0 path ≡ Less = ap (λ (z : List ℕ × Rows). text_cmp z.0 path) same ∙ less in
    grind arith
place_after (x ∷ objects) path (suc j) o s is less =
    let later = place_after objects path j o s.1 is less in
    let first = nat_list_cmp_total.trans x.0 o.0 path (let l = later_than x.0 objects j o s.0 is in grind arith) less in
    let back = nat_list_cmp_total.antisymm path x.0 in
    grind arith

pub place_before : (objects : Objects) (path : List ℕ) (j : ℕ) (o : List ℕ × Rows) → slice_get objects j ≡ Some o → (text_cmp o.0 path ≡ Less → ⊥) → place objects path ≤ j
place_before [] path j o is f = grind arith
place_before (x ∷ objects) path j o is f = by (text_cmp path x.0) refl j is (λ j is. place_before objects path j o is f)
  where
    by : (c : Ordering) → text_cmp path x.0 ≡ c → (j : ℕ) → slice_get (x ∷ objects) j ≡ Some o → ((j : ℕ) → slice_get objects j ≡ Some o → place objects path ≤ j) → cond (is_gt c) (suc (place objects path)) 0 ≤ j
    by Less e j is later = omega arith
    by Equal e j is later = omega arith
    by Greater e zero is later =
        let same : x ≡ o = grind arith in
        let back = nat_list_cmp_total.antisymm x.0 path in
        absurd (f (ap (λ (z : List ℕ × Rows). text_cmp z.0 path) (sym same) ∙ (grind arith)))
    by Greater e (suc j) is later = omega (arith, later j is)

-- ---- what stands there

pub at_place : (objects : Objects) (path : List ℕ) (o : List ℕ × Rows) → IsStrictlySortedBy text_cmp (keys_of objects) → slice_get objects (place objects path) ≡ Some o → rows_at objects path ≡ cond (is_at (text_cmp path) o.0) (Some o.1) None
unfolding IsStrictlySortedBy
at_place [] path o s is = grind arith
at_place (x ∷ objects) path o s is = by (text_cmp path x.0) refl is (λ k. at_place objects path o s.1 k)
  where
    by : (c : Ordering) → text_cmp path x.0 ≡ c → slice_get (x ∷ objects) (cond (is_gt c) (suc (place objects path)) 0) ≡ Some o → (slice_get objects (place objects path) ≡ Some o → rows_at objects path ≡ cond (is_at (text_cmp path) o.0) (Some o.1) None)
        → cond (is_eq c) (Some x.1) (rows_at objects path) ≡ cond (is_at (text_cmp path) o.0) (Some o.1) None
    by Less e k later =
        let same : x ≡ o = grind arith in
        none_before path x.0 objects s.0 (λ l. turned path x.0 e l) ∙ sym (cond-false (is_at (text_cmp path) o.0) (Some o.1) None (ap (λ (z : List ℕ × Rows). is_at (text_cmp path) z.0) (sym same) ∙ ap is_eq e))
    by Equal e k later =
        let same : x ≡ o = grind arith in
        ap (λ (z : List ℕ × Rows). Some z.1) same ∙ sym (cond-true (is_at (text_cmp path) o.0) (Some o.1) None (ap (λ (z : List ℕ × Rows). is_at (text_cmp path) z.0) (sym same) ∙ ap is_eq e))
    by Greater e k later = later k

pub at_end : (objects : Objects) (path : List ℕ) → slice_get objects (place objects path) ≡ None → rows_at objects path ≡ None
at_end [] path is = refl
at_end (x ∷ objects) path is = by (text_cmp path x.0) is (λ k. at_end objects path k)
  where
    by : (c : Ordering) → slice_get (x ∷ objects) (cond (is_gt c) (suc (place objects path)) 0) ≡ None → (slice_get objects (place objects path) ≡ None → rows_at objects path ≡ None) → cond (is_eq c) (Some x.1) (rows_at objects path) ≡ None
    by Less k later = grind arith
    by Equal k later = grind arith
    by Greater k later = later k

-- where it stands, if it is there
pub there_at : (objects : Objects) (path : List ℕ) → IsStrictlySortedBy text_cmp (keys_of objects) → is_some (rows_at objects path) ≡ true → (place objects path < length objects) × (slice_get objects (place objects path) ≡ Some (path, unwrap_or (rows_at objects path) []))
unfolding IsStrictlySortedBy
there_at [] path s there = grind arith
there_at (x ∷ objects) path s there = by (text_cmp path x.0) refl there (λ k. there_at objects path s.1 k)
  where
    by : (c : Ordering) → text_cmp path x.0 ≡ c → is_some (cond (is_eq c) (Some x.1) (rows_at objects path)) ≡ true
        → (is_some (rows_at objects path) ≡ true → (place objects path < length objects) × (slice_get objects (place objects path) ≡ Some (path, unwrap_or (rows_at objects path) [])))
        → (cond (is_gt c) (suc (place objects path)) 0 < suc (length objects)) × (slice_get (x ∷ objects) (cond (is_gt c) (suc (place objects path)) 0) ≡ Some (path, unwrap_or (cond (is_eq c) (Some x.1) (rows_at objects path)) []))
    by Less e k later = absurd (both_ways true (sym k ∙ ap is_some (none_before path x.0 objects s.0 (λ l. turned path x.0 e l))) refl)
    by Equal e k later = (omega arith, ap (λ (z : List ℕ). Some (z, x.1)) (sym (same_at path x.0 (ap is_eq e))))
    by Greater e k later = let l = later k in (omega (arith, l.0), l.1)

-- ---- which paths are below

-- nothing is below where the next path isn't
pub none_next : (path next : List ℕ) (objects : Objects) → AllByRecursion (λ y. text_cmp next y ≡ Less) (keys_of objects) → text_cmp path next ≡ Less → AllByRecursion (λ b. 47 ≤ b) next → is_below path next ≡ false → has_below objects path ≡ false
none_next path next [] all less low beside = refl
none_next path next (o ∷ objects) all less low beside =
    or_from (is_below path o.0) (has_below objects path)
    (false_from_ne_true (is_below path o.0) (λ b. both_ways (is_below path next) beside ((is_below-Decides path next).1 (between_below path o.0 next ((is_below-Decides path o.0).0 b) less (ap is_gt all.0) low))))
    (none_next path next objects all.1 less low beside)

from_next : (path : List ℕ) (o : List ℕ × Rows) (objects : Objects) → AllByRecursion (λ y. text_cmp o.0 y ≡ Less) (keys_of objects) → text_cmp path o.0 ≡ Less → IsObject o → has_below (o ∷ objects) path ≡ is_below path o.0
from_next path o objects all less valid = by (is_below path o.0) refl
  where
    by : (b : Bool) → is_below path o.0 ≡ b → (b || has_below objects path) ≡ b
    by true e = refl
    by false e = none_next path o.0 objects all less (low_path o.0 valid.path) e

pub not_below : (path other : List ℕ) → (text_cmp path other ≡ Less → ⊥) → is_below path other ≡ false
not_below path other f = false_from_ne_true (is_below path other) (λ b. f (below_less path other ((is_below-Decides path other).0 b)))

-- the place after the path
abbrev pub behind : Objects → List ℕ → ℕ
behind objects path = cond (is_some (rows_at objects path)) (suc (place objects path)) (place objects path)

pub after_all : (path : List ℕ) (objects : Objects) → AllByRecursion (λ y. text_cmp path y ≡ Less) (keys_of objects) → IsStrictlySortedBy text_cmp (keys_of objects) → AllByRecursion IsObject objects → has_below objects path ≡ unwrap_or (option_map (λ o. is_below path o.0) (slice_get objects 0)) false
unfolding IsStrictlySortedBy
after_all path [] all s v = refl
after_all path (o ∷ objects) all s v = from_next path o objects s.0 all.0 v.0

-- the object at that place is below
abbrev found : List ℕ → Objects → ℕ → Bool
found path objects at = unwrap_or (option_map (λ o. is_below path o.0) (slice_get objects at)) false

below_found : (objects : Objects) (path : List ℕ) → IsStrictlySortedBy text_cmp (keys_of objects) → AllByRecursion IsObject objects → has_below objects path ≡ found path objects (behind objects path)
unfolding IsStrictlySortedBy
below_found [] path s v = refl
below_found (x ∷ objects) path s v = by (text_cmp path x.0) refl (below_found objects path s.1 v.1)
  where
    pick : (b : Bool) → found path objects (cond b (suc (place objects path)) (place objects path)) ≡ found path (x ∷ objects) (cond b (suc (suc (place objects path))) (suc (place objects path)))
    pick true = refl
    pick false = refl

    by : (c : Ordering) → text_cmp path x.0 ≡ c → has_below objects path ≡ found path objects (behind objects path)
        → (is_below path x.0 || has_below objects path) ≡ found path (x ∷ objects) (cond (is_some (cond (is_eq c) (Some x.1) (rows_at objects path))) (suc (cond (is_gt c) (suc (place objects path)) 0)) (cond (is_gt c) (suc (place objects path)) 0))
    by Less e later = from_next path x objects s.0 e v.0 ∙ ap (λ b. found path (x ∷ objects) (cond b 1 0)) (sym (ap is_some (none_before path x.0 objects s.0 (λ l. turned path x.0 e l))))
    by Equal e later =
        let same = same_at path x.0 (ap is_eq e) in
        ap (λ b. b || has_below objects path) (not_below path x.0 (λ l. less_self path (subst (λ (z : List ℕ). text_cmp path z ≡ Less) (sym same) l)))
        ∙ after_all path objects (subst (λ (z : List ℕ). AllByRecursion (λ y. text_cmp z y ≡ Less) (keys_of objects)) (sym same) s.0) s.1 v.1
    by Greater e later = ap (λ b. b || has_below objects path) (not_below path x.0 (λ l. grind arith)) ∙ later ∙ pick (is_some (rows_at objects path))

pub below_next : (objects : Objects) (path : List ℕ) → AreNodes objects → has_below objects path ≡ unwrap_or (option_map (λ o. is_below path o.0) (slice_get objects (behind objects path))) false
below_next objects path are = below_found objects path are.sorted are.valid

-- ---- put in, changed, taken out

pub insert_place : (objects : Objects) (path : List ℕ) (v : Rows) → is_some (rows_at objects path) ≡ false → insert objects (place objects path) (path, v) ≡ insert_entry text_cmp objects path v
insert_place [] path v gone = refl
insert_place (x ∷ objects) path v gone = by (text_cmp path x.0) gone (λ k. insert_place objects path v k)
  where
    by : (c : Ordering) → is_some (cond (is_eq c) (Some x.1) (rows_at objects path)) ≡ false → (is_some (rows_at objects path) ≡ false → insert objects (place objects path) (path, v) ≡ insert_entry text_cmp objects path v)
        → insert (x ∷ objects) (cond (is_gt c) (suc (place objects path)) 0) (path, v) ≡ match_ordering c ((path, v) ∷ x ∷ objects) ((x.0, v) ∷ objects) (x ∷ insert_entry text_cmp objects path v)
    by Less k later = refl
    by Equal k later = grind arith
    by Greater k later = ap (λ r. x ∷ r) (later k)

pub remove_place : (objects : Objects) (path : List ℕ) → IsStrictlySortedBy text_cmp (keys_of objects) → is_some (rows_at objects path) ≡ true → remove objects (place objects path) ≡ remove_entry (is_at (text_cmp path)) objects
unfolding IsStrictlySortedBy
remove_place [] path s there = grind arith
remove_place (x ∷ objects) path s there = by (text_cmp path x.0) refl there (λ k. remove_place objects path s.1 k)
  where
    by : (c : Ordering) → text_cmp path x.0 ≡ c → is_some (cond (is_eq c) (Some x.1) (rows_at objects path)) ≡ true → (is_some (rows_at objects path) ≡ true → remove objects (place objects path) ≡ remove_entry (is_at (text_cmp path)) objects)
        → remove (x ∷ objects) (cond (is_gt c) (suc (place objects path)) 0) ≡ cond (is_eq c) objects (x ∷ remove_entry (is_at (text_cmp path)) objects)
    by Less e k later = absurd (both_ways true (sym k ∙ ap is_some (none_before path x.0 objects s.0 (λ l. turned path x.0 e l))) refl)
    by Equal e k later = refl
    by Greater e k later = ap (λ r. x ∷ r) (later k)

pub set_place : (objects : Objects) (path : List ℕ) (v : Rows) → IsStrictlySortedBy text_cmp (keys_of objects) → is_some (rows_at objects path) ≡ true → slice_set objects (place objects path) (path, v) ≡ set_value (is_at (text_cmp path)) objects v
unfolding IsStrictlySortedBy
set_place [] path v s there = grind arith
set_place (x ∷ objects) path v s there = by (text_cmp path x.0) refl there (λ k. set_place objects path v s.1 k)
  where
    by : (c : Ordering) → text_cmp path x.0 ≡ c → is_some (cond (is_eq c) (Some x.1) (rows_at objects path)) ≡ true → (is_some (rows_at objects path) ≡ true → slice_set objects (place objects path) (path, v) ≡ set_value (is_at (text_cmp path)) objects v)
        → slice_set (x ∷ objects) (cond (is_gt c) (suc (place objects path)) 0) (path, v) ≡ cond (is_eq c) ((x.0, v) ∷ objects) (x ∷ set_value (is_at (text_cmp path)) objects v)
    by Less e k later = absurd (both_ways true (sym k ∙ ap is_some (none_before path x.0 objects s.0 (λ l. turned path x.0 e l))) refl)
    by Equal e k later = ap (λ (z : List ℕ). (z, v) ∷ objects) (same_at path x.0 (ap is_eq e))
    by Greater e k later = ap (λ r. x ∷ r) (later k)
