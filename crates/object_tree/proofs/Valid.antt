-- Paths and names that are valid: those of a tree's objects, and the paths on the way to a path.
use Rattle.std.proofs.Common.{◌≡◌, refl, sym, ◌∙◌, ap, subst, ℕ, zero, suc, ◌≤◌, ◌<◌, List, [], ◌∷◌, ◌++◌, length, take, drop, get_or, Bool, true, false, cond, Option, Some, None, is_some, unwrap_or, IsTrue, arith, nat_le, nat_eq, nat_lt, ◌||◌, ◌&&◌}
use Rattle.std.specs.List.{AllByRecursion, list_all, join_with_byte, slice_split, onto_first}
use Rattle.std.specs.Map.{remove_entry, set_value}
use Rattle.std.specs.Ordering.{match_ordering}
use Rattle.std.specs.declared.cmp.Ordering.{Ordering}
use Rattle.std.specs.declared.cmp.Ordering.TheVariants.{Less, Equal, Greater}
use Rattle.std.specs.BTreeMap.{insert_entry, is_at}
use Rattle.std.proofs.lemmas.Bool.{leb-true, ltb-true, and_parts}
use Rattle.std.proofs.lemmas.Bool.Decides.{nat_tests}
use Rattle.std.proofs.lemmas.List.{nil_from_length, take-append-drop}
use Rattle.std.proofs.Math.Seq.{drop-cons}
use Rattle.std.proofs.lemmas.List.Folds.{list_all-append}
use Rattle.std.proofs.lemmas.List.Splits.{join_with_byte-slice_split, slice_split-cons_yes, length-slice_split}
use Rattle.std.proofs.lemmas.List.Sums.{AllPass-from_list_all, list_all-from_AllPass}
use Rattle.wire_names.specs.Names.{is_object_path, is_path_element, is_interface_name, is_element, is_element_byte, elements}
use Rattle.object_tree.specs.Objects.{Objects, Rows, IsObject, root, text_cmp, rows_at, with_path, with_paths}
use Rattle.object_tree.proofs.Entries.{same_at}

-- ---- the bytes of a path

-- a byte that isn't below `/`, and is ASCII
abbrev is_low : ℕ → Bool
is_low b = nat_le 47 b && nat_lt b 128

low_byte : (b : ℕ) → is_element_byte false b ≡ true → is_low b ≡ true
low_byte b h = grind (arith, nat_tests)

low_element : (element : List ℕ) → is_element false true element ≡ true → list_all is_low element ≡ true
unfolding is_element
low_element element h =
    let bytes : list_all (is_element_byte false) element ≡ true = grind arith in
    list_all-from_AllPass is_low element (λ k d l. low_byte (get_or element k d) (AllPass-from_list_all (is_element_byte false) element bytes k d l))

low_joined : (parts : List (List ℕ)) → list_all (is_element false true) parts ≡ true → list_all is_low (join_with_byte 47 parts) ≡ true
low_joined [] h = refl
low_joined (x ∷ []) h = grind (arith, low_element x)
low_joined (x ∷ y ∷ xs) h = rw list_all-append (grind (arith, low_element x, low_joined (y ∷ xs)))

low_elements : (bs : List ℕ) → list_all (is_element false true) (elements 47 bs) ≡ true → list_all is_low bs ≡ true
low_elements bs h = subst (λ (bs : List ℕ). list_all is_low bs ≡ true) (join_with_byte-slice_split 47 bs) (low_joined (elements 47 bs) h)

low_text : (bs : List ℕ) → IsTrue (is_object_path bs) → list_all is_low bs ≡ true
unfolding is_object_path
low_text [] h = refl
low_text (b ∷ rest) h = grind (arith, nat_tests, nil_from_length rest, low_elements rest)

each_low : (bs : List ℕ) → list_all is_low bs ≡ true → AllByRecursion (λ b. 47 ≤ b) bs
each_low [] h = tt
each_low (b ∷ bs) h =
    let parts = and_parts (is_low b) (list_all is_low bs) h in
    (leb-true 47 b (and_parts (nat_le 47 b) (nat_lt b 128) parts.0).0, each_low bs parts.1)

each_ascii : (bs : List ℕ) → list_all is_low bs ≡ true → (k : ℕ) → get_or bs k 0 < 128
each_ascii [] h k = omega arith
each_ascii (b ∷ bs) h zero = ltb-true b 128 (and_parts (nat_le 47 b) (nat_lt b 128) (and_parts (is_low b) (list_all is_low bs) h).0).1
each_ascii (b ∷ bs) h (suc k) = each_ascii bs (and_parts (is_low b) (list_all is_low bs) h).1 k

-- each byte of a path is ASCII
pub ascii_path : (path : List ℕ) → IsTrue (is_object_path path) → (k : ℕ) → get_or path k 0 < 128
ascii_path path h k = each_ascii path (low_text path h) k

-- no byte of a path is below `/`
pub low_path : (path : List ℕ) → IsTrue (is_object_path path) → AllByRecursion (λ b. 47 ≤ b) path
low_path path h = each_low path (low_text path h)

-- ---- entries of which each has something

module _ {X : Type 0} (P : List ℕ × X → Type 0) where
  pub all_without : (t : List ℕ → Bool) (es : List (List ℕ × X)) → AllByRecursion P es → AllByRecursion P (remove_entry t es)
  all_without t [] h = h
  all_without t (e ∷ es) h = by (t e.0) (all_without t es h.1)
    where
      by : (c : Bool) → AllByRecursion P (remove_entry t es) → AllByRecursion P (cond c es (e ∷ remove_entry t es))
      by true k = h.1
      by false k = (h.0, k)

  pub all_set : (t : List ℕ → Bool) (es : List (List ℕ × X)) (w : X) → ((e : List ℕ × X) → P e → P (e.0, w)) → AllByRecursion P es → AllByRecursion P (set_value t es w)
  all_set t [] w f h = h
  all_set t (e ∷ es) w f h = by (t e.0) (all_set t es w f h.1)
    where
      by : (c : Bool) → AllByRecursion P (set_value t es w) → AllByRecursion P (cond c ((e.0, w) ∷ es) (e ∷ set_value t es w))
      by true k = (f e h.0, h.1)
      by false k = (h.0, k)

  pub all_with : (es : List (List ℕ × X)) (k : List ℕ) (v : X) → P (k, v) → ((e : List ℕ × X) → P e → P (e.0, v)) → AllByRecursion P es → AllByRecursion P (insert_entry text_cmp es k v)
  all_with [] k v one f h = (one, h)
  all_with (e ∷ es) k v one f h = by (text_cmp k e.0) (all_with es k v one f h.1)
    where
      by : (o : Ordering) → AllByRecursion P (insert_entry text_cmp es k v) → AllByRecursion P (match_ordering o ((k, v) ∷ e ∷ es) ((e.0, v) ∷ es) (e ∷ insert_entry text_cmp es k v))
      by Less later = (one, h)
      by Equal later = (f e h.0, h.1)
      by Greater later = (h.0, later)

-- ---- the objects of a tree

-- the names of an object's interfaces
abbrev pub AreNames : Rows → Type 0
AreNames rows = AllByRecursion (λ row. IsTrue (is_interface_name row.0)) rows

object_of : (p q : List ℕ) (r s : Rows) → p ≡ q → r ≡ s → IsObject (p, r) → IsObject (q, s)
object_of p q r s a b h = record {
  path = subst (λ (x : List ℕ). IsTrue (is_object_path x)) a h.path;
  names = subst (λ (x : Rows). AreNames x) b h.names;
}

pub object_at : (objects : Objects) (path : List ℕ) (rows : Rows) → AllByRecursion IsObject objects → rows_at objects path ≡ Some rows → IsObject (path, rows)
object_at [] path rows h is = grind arith
object_at (o ∷ objects) path rows h is = by (is_at (text_cmp path) o.0) refl is (λ k. object_at objects path rows h.1 k)
  where
    by : (c : Bool) → is_at (text_cmp path) o.0 ≡ c → cond c (Some o.1) (rows_at objects path) ≡ Some rows → (rows_at objects path ≡ Some rows → IsObject (path, rows)) → IsObject (path, rows)
    by true at k later = object_of o.0 path o.1 rows (sym (same_at path o.0 at)) (ap (λ (r : Option Rows). unwrap_or r []) k) h.0
    by false at k later = later k

-- no byte of a tree's path is below `/`
pub low_at : (objects : Objects) (path : List ℕ) → AllByRecursion IsObject objects → is_some (rows_at objects path) ≡ true → AllByRecursion (λ b. 47 ≤ b) path
low_at objects path h there = by (rows_at objects path) refl there
  where
    by : (r : Option Rows) → rows_at objects path ≡ r → is_some r ≡ true → AllByRecursion (λ b. 47 ≤ b) path
    by None is t = grind arith
    by (Some rows) is t = low_path path (object_at objects path rows h is).path

pub names_at : (objects : Objects) (path : List ℕ) → AllByRecursion IsObject objects → AreNames (unwrap_or (rows_at objects path) [])
names_at objects path h = by (rows_at objects path) refl
  where
    by : (r : Option Rows) → rows_at objects path ≡ r → AreNames (unwrap_or r [])
    by None is = tt
    by (Some rows) is = (object_at objects path rows h is).names

other_rows : (rows : Rows) → AreNames rows → (o : List ℕ × Rows) → IsObject o → IsObject (o.0, rows)
other_rows rows names o h = record { path = h.path; names = names }

pub set_valid : (objects : Objects) (path : List ℕ) (rows : Rows) → AreNames rows → AllByRecursion IsObject objects → AllByRecursion IsObject (set_value (is_at (text_cmp path)) objects rows)
set_valid objects path rows names h = all_set IsObject (is_at (text_cmp path)) objects rows (other_rows rows names) h

pub with_valid : (objects : Objects) (path : List ℕ) (rows : Rows) → IsTrue (is_object_path path) → AreNames rows → AllByRecursion IsObject objects → AllByRecursion IsObject (insert_entry text_cmp objects path rows)
with_valid objects path rows valid names h = all_with IsObject objects path rows (record { path = valid; names = names }) (other_rows rows names) h

pub paths_valid : (objects : Objects) (paths : List (List ℕ)) → AllByRecursion (λ p. IsTrue (is_object_path p)) paths → AllByRecursion IsObject objects → AllByRecursion IsObject (with_paths objects paths)
paths_valid objects [] all h = h
paths_valid objects (p ∷ paths) all h = paths_valid (with_path objects p) paths all.1 (by (is_some (rows_at objects p)))
  where
    by : (b : Bool) → AllByRecursion IsObject (cond b objects (insert_entry text_cmp objects p []))
    by true = h
    by false = with_valid objects p [] all.0 tt h

pub row_valid : (rows : Rows) (name : List ℕ) (slot : ℕ) → IsTrue (is_interface_name name) → AreNames rows → AreNames (insert_entry text_cmp rows name slot)
row_valid rows name slot valid h = all_with (λ row. IsTrue (is_interface_name row.0)) rows name slot valid (λ e k. k) h

pub rows_left : (t : List ℕ → Bool) (rows : Rows) → AreNames rows → AreNames (remove_entry t rows)
rows_left t rows h = all_without (λ row. IsTrue (is_interface_name row.0)) t rows h

-- ---- a front of a path that ends before a `/`

onto_front : {X : Type 0} (x : X) (parts more : List (List X)) → 1 ≤ length parts → onto_first x (parts ++ more) ≡ onto_first x parts ++ more
onto_front x [] more h = grind arith
onto_front x (part ∷ parts) more h = refl

split_parts : (p : ℕ → Bool) (xs : List ℕ) (y : ℕ) (ys : List ℕ) → p y ≡ true → slice_split p (xs ++ y ∷ ys) ≡ slice_split p xs ++ slice_split p ys
split_parts p [] y ys h = slice_split-cons_yes p y ys h
split_parts p (x ∷ xs) y ys h = by (p x) (split_parts p xs y ys h)
  where
    by : (c : Bool) → slice_split p (xs ++ y ∷ ys) ≡ slice_split p xs ++ slice_split p ys
        → cond c ([] ∷ slice_split p (xs ++ y ∷ ys)) (onto_first x (slice_split p (xs ++ y ∷ ys))) ≡ cond c ([] ∷ slice_split p xs) (onto_first x (slice_split p xs)) ++ slice_split p ys
    by true k = ap (λ r. [] ∷ r) k
    by false k = ap (onto_first x) k ∙ onto_front x (slice_split p xs) (slice_split p ys) (omega (arith, length-slice_split p xs))

front_elements : (rest : List ℕ) (m : ℕ) → m < length rest → get_or rest m 0 ≡ 47 → list_all is_path_element (elements 47 rest) ≡ true → list_all is_path_element (elements 47 (take m rest)) ≡ true
front_elements rest m short slash h =
    let parts : rest ≡ take m rest ++ 47 ∷ drop (suc m) rest = sym (take-append-drop m rest) ∙ ap (λ r. take m rest ++ r) (drop-cons rest m 0 short ∙ ap (λ b. b ∷ drop (suc m) rest) slash) in
    let all : list_all is_path_element (elements 47 (take m rest) ++ elements 47 (drop (suc m) rest)) ≡ true =
    subst (λ (e : List (List ℕ)). list_all is_path_element e ≡ true) (ap (elements 47) parts ∙ split_parts (λ b. nat_eq b 47) (take m rest) 47 (drop (suc m) rest) refl) h in
    (and_parts (list_all is_path_element (elements 47 (take m rest))) (list_all is_path_element (elements 47 (drop (suc m) rest)))
    (sym (list_all-append is_path_element (elements 47 (take m rest)) (elements 47 (drop (suc m) rest))) ∙ all)).0

pub root_valid : IsTrue (is_object_path root)
unfolding is_object_path
root_valid = refl

-- a front of a path that isn't empty and ends before a `/` is a path
pub front_valid : (path : List ℕ) (n : ℕ) → IsTrue (is_object_path path) → 1 ≤ n → n < length path → get_or path n 0 ≡ 47 → IsTrue (is_object_path (take n path))
unfolding is_object_path
front_valid [] n valid one short slash = grind arith
front_valid (b ∷ rest) zero valid one short slash = grind arith
front_valid (b ∷ rest) (suc m) valid one short slash =
    let parts = and_parts (nat_eq b 47) (nat_le (length rest) 0 || list_all is_path_element (elements 47 rest)) valid in
    let all : list_all is_path_element (elements 47 rest) ≡ true = grind (arith, nat_tests) in
    let fronts = front_elements rest m (omega arith) slash all in
    grind (arith, nat_tests)
