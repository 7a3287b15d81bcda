-- Each interface of each object is kept in its slot, also among the objects that a walk over the tree gives; and lists that are told item by item.
use Rattle.std.proofs.Common.{◌≡◌, refl, sym, ◌∙◌, ap, subst, ℕ, List, [], ◌∷◌, ◌++◌, Bool, true, false, cond, ◌||◌, if◌then◌else◌, codes, is_some, filter, Option, Some, None, slice_get}
use Rattle.std.specs.Option.{option_and_then}
use Rattle.std.specs.List.{AllByRecursion, AllZip}
use Rattle.std.specs.Ordering.{is_eq}
use Rattle.std.specs.declared.cmp.Ordering.TheVariants.{Less}
use Rattle.std.specs.Map.{lookup, keys_of}
use Rattle.std.specs.BTreeMap.{is_at}
use Rattle.std.proofs.lemmas.Bool.{cond-true, cond-false}
use Rattle.std.proofs.lemmas.Option.{none-some}
use Rattle.object_tree.specs.Objects.{Objects, text_cmp, slot_at, is_same}
use Rattle.object_tree.specs.Standard.{manager_name, standard_named, is_standard}
use Rattle.object_tree.specs.declared.standard.StandardInterface.{StandardInterface}
use Rattle.object_tree.proofs.Entries.{at_itself, same_at}
use Rattle.peer_objects.specs.Serving.{Slots, AreKept}
use Rattle.peer_objects.specs.Reaching.{is_kept}
use Rattle.peer_objects.proofs.Sorted.{Ascend, first_below, rest_ascend, value_found}
use Rattle.peer_objects.proofs.Reached.{kept_is}

-- ---- entries

module _ {X : Type 0} where
  -- what is before all keys is none of them
  before_none : (k : List ℕ) (es : List (List ℕ × X)) → AllByRecursion (λ y. text_cmp k y ≡ Less) (keys_of es) → lookup (is_at (text_cmp k)) es ≡ None
  before_none k [] all = refl
  before_none k (e ∷ es) all = cond-false (is_at (text_cmp k) e.0) (Some e.1) (lookup (is_at (text_cmp k)) es) (ap is_eq all.0) ∙ before_none k es all.1

  -- what is found behind the first entry is found
  found_later : (e : List ℕ × X) (es : List (List ℕ × X)) (q : List ℕ) (v : X) → Ascend (keys_of (e ∷ es)) → lookup (is_at (text_cmp q)) es ≡ Some v → lookup (is_at (text_cmp q)) (e ∷ es) ≡ Some v
  found_later e es q v s h = by (is_at (text_cmp q) e.0) refl
    where
      by : (b : Bool) → is_at (text_cmp q) e.0 ≡ b → lookup (is_at (text_cmp q)) (e ∷ es) ≡ Some v
      by true same =
          let none : lookup (is_at (text_cmp q)) es ≡ None =
          subst (λ (k : List ℕ). lookup (is_at (text_cmp k)) es ≡ None) (sym (same_at q e.0 same)) (before_none e.0 es (first_below e.0 (keys_of es) s)) in
          absurd (none-some v (sym none ∙ h))
      by false other = cond-false (is_at (text_cmp q) e.0) (Some e.1) (lookup (is_at (text_cmp q)) es) other ∙ h

  -- what holds of each entry that is found holds of each entry
  pub of_each : (P : List ℕ × X → Type 0) (es : List (List ℕ × X)) → Ascend (keys_of es) → ((q : List ℕ) (v : X) → lookup (is_at (text_cmp q)) es ≡ Some v → P (q, v)) → AllByRecursion P es
  of_each P [] s found = tt
  of_each P (e ∷ es) s found = (
    found e.0 e.1 (cond-true (is_at (text_cmp e.0) e.0) (Some e.1) (lookup (is_at (text_cmp e.0)) es) (at_itself e.0)),
    of_each P es (rest_ascend e.0 (keys_of es) s) (λ q v h. found q v (found_later e es q v s h)),
  )

-- ---- lists

pub all_filter : {X : Type 0} (P : X → Type 0) (t : X → Bool) (xs : List X) → AllByRecursion P xs → AllByRecursion P (filter t xs)
all_filter P t [] all = tt
all_filter P t (x ∷ xs) all = by (t x) (all_filter P t xs all.1)
  where
    by : (b : Bool) → AllByRecursion P (filter t xs) → AllByRecursion P (cond b (x ∷ filter t xs) (filter t xs))
    by true later = (all.0, later)
    by false later = later

-- what holds of all holds of the one behind a front
pub behind : {X : Type 0} (P : X → Type 0) (done : List X) (x : X) (rest : List X) → AllByRecursion P (done ++ x ∷ rest) → P x
behind P [] x rest all = all.0
behind P (d ∷ done) x rest all = behind P done x rest all.1

-- one more is told
pub told_more : {X Y : Type 0} (R : X → Y → Type 0) (xs : List X) (ys : List Y) (x : X) (y : Y) → AllZip R xs ys → R x y → AllZip R (xs ++ x ∷ []) (ys ++ y ∷ [])
told_more R [] [] x y all one = (one, tt)
told_more R [] (z ∷ ys) x y all one = absurd all
told_more R (z ∷ xs) [] x y all one = absurd all
told_more R (z ∷ xs) (w ∷ ys) x y all one = (all.0, told_more R xs ys x y all.1 one)

-- of those that pass
pub passes_more : {X : Type 0} (t : X → Bool) (xs : List X) (x : X) → t x ≡ true → filter t (xs ++ x ∷ []) ≡ filter t xs ++ x ∷ []
passes_more t [] x h = cond-true (t x) (x ∷ []) [] h
passes_more t (z ∷ xs) x h = by (t z) (passes_more t xs x h)
  where
    by : (b : Bool) → filter t (xs ++ x ∷ []) ≡ filter t xs ++ x ∷ [] → cond b (z ∷ filter t (xs ++ x ∷ [])) (filter t (xs ++ x ∷ [])) ≡ cond b (z ∷ filter t xs) (filter t xs) ++ x ∷ []
    by true later = ap (λ l. z ∷ l) later
    by false later = later

pub passes_same : {X : Type 0} (t : X → Bool) (xs : List X) (x : X) → t x ≡ false → filter t (xs ++ x ∷ []) ≡ filter t xs
passes_same t [] x h = cond-false (t x) (x ∷ []) [] h
passes_same t (z ∷ xs) x h = by (t z) (passes_same t xs x h)
  where
    by : (b : Bool) → filter t (xs ++ x ∷ []) ≡ filter t xs → cond b (z ∷ filter t (xs ++ x ∷ [])) (filter t (xs ++ x ∷ [])) ≡ cond b (z ∷ filter t xs) (filter t xs)
    by true later = ap (λ l. z ∷ l) later
    by false later = later

-- ---- what is kept

-- an interface is kept in the slot of each row
abbrev pub RowsKept : {B : Type 0} → Slots B → List (List ℕ × ℕ) → Type 0
RowsKept slots rows = AllByRecursion (λ (row : List ℕ × ℕ). is_kept (slice_get slots row.1) ≡ true) rows

pub all_kept : {B : Type 0} (title : B → List ℕ) (o : Objects) (slots : Slots B) → AreKept title o slots → AllByRecursion (λ object. RowsKept slots object.1) o
all_kept title o slots whole =
    of_each (λ object. RowsKept slots object.1) o whole.sorted.0
    (λ path rows there. of_each (λ (row : List ℕ × ℕ). is_kept (slice_get slots row.1) ≡ true) rows (value_found (λ rows. Ascend (keys_of rows)) (is_at (text_cmp path)) o rows whole.sorted.1 there)
    (λ name k here.
    let at : slot_at o path name ≡ Some k = ap (option_and_then (λ rows. lookup (is_at (text_cmp name)) rows)) there ∙ here in
    let was = whole.kept path name k at in
    kept_is slots k was.0 was.1))

-- a name is that of a standard interface exactly where it is one of the four
pub named_standard : (n : List ℕ) → is_some (standard_named n) ≡ is_standard n
named_standard n =
    by (is_same n (codes "org.freedesktop.DBus.Peer")) (is_same n (codes "org.freedesktop.DBus.Introspectable")) (is_same n (codes "org.freedesktop.DBus.Properties")) (is_same n manager_name)
  where
    by : (a b c d : Bool)
        → is_some (if a then Some StandardInterface.Peer else if b then Some StandardInterface.Introspectable else if c then Some StandardInterface.Properties else if d then Some StandardInterface.ObjectManager else None)
        ≡ ((a || b || c) || d)
    by true b c d = refl
    by false true c d = refl
    by false false true d = refl
    by false false false true = refl
    by false false false false = refl
