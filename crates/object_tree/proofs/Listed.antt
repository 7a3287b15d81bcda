-- A list of texts with values, seen by the bytes of the texts.
use Rattle.std.proofs.Common.{◌≡◌, refl, sym, ap, ℕ, zero, suc, ◌≤◌, ◌<◌, List, [], ◌∷◌, Bool, true, false, cond, Some, None, length, string_bytes, slice_set, slice_index_or, arith, ◌∙◌}
use Rattle.std.specs.List.{slice_get, insert, remove}
use Rattle.std.specs.Ordering.{is_gt}
use Rattle.std.specs.declared.string.String.{String}
use Rattle.object_tree.specs.Keyed.{listed}
use Rattle.object_tree.specs.Objects.{Objects, text_cmp}
use Rattle.object_tree.specs.Closed.{place}

module _ {Y X : Type 0} where
  pub listed_length : (es : List (String Y × X)) → length (listed es) ≡ length es
  listed_length [] = refl
  listed_length (e ∷ es) = ap suc (listed_length es)

  pub listed_some : (es : List (String Y × X)) (i : ℕ) (e : String Y × X) → slice_get es i ≡ Some e → slice_get (listed es) i ≡ Some (string_bytes e.0, e.1)
  listed_some [] i e is = grind arith
  listed_some (x ∷ es) zero e is = grind arith
  listed_some (x ∷ es) (suc i) e is = listed_some es i e is

  pub listed_none : (es : List (String Y × X)) (i : ℕ) → slice_get es i ≡ None → slice_get (listed es) i ≡ None
  listed_none [] i is = refl
  listed_none (x ∷ es) zero is = grind arith
  listed_none (x ∷ es) (suc i) is = listed_none es i is

  pub listed_at : (es : List (String Y × X)) (i : ℕ) (d : String Y × X) → i < length es → slice_get (listed es) i ≡ Some (string_bytes (slice_index_or es i d).0, (slice_index_or es i d).1)
  listed_at [] i d l = grind arith
  listed_at (x ∷ es) zero d l = refl
  listed_at (x ∷ es) (suc i) d l = listed_at es i d (omega arith)

  pub listed_set : (es : List (String Y × X)) (i : ℕ) (k : String Y) (v : X) → listed (slice_set es i (k, v)) ≡ slice_set (listed es) i (string_bytes k, v)
  listed_set [] i k v = refl
  listed_set (x ∷ es) zero k v = refl
  listed_set (x ∷ es) (suc i) k v = ap (λ r. (string_bytes x.0, x.1) ∷ r) (listed_set es i k v)

  pub listed_insert : (es : List (String Y × X)) (i : ℕ) (k : String Y) (v : X) → listed (insert es i (k, v)) ≡ insert (listed es) i (string_bytes k, v)
  listed_insert [] zero k v = refl
  listed_insert [] (suc i) k v = refl
  listed_insert (x ∷ es) zero k v = refl
  listed_insert (x ∷ es) (suc i) k v = ap (λ r. (string_bytes x.0, x.1) ∷ r) (listed_insert es i k v)

  pub listed_remove : (es : List (String Y × X)) (i : ℕ) → listed (remove es i) ≡ remove (listed es) i
  listed_remove [] zero = refl
  listed_remove [] (suc i) = refl
  listed_remove (x ∷ es) zero = refl
  listed_remove (x ∷ es) (suc i) = ap (λ r. (string_bytes x.0, x.1) ∷ r) (listed_remove es i)

pub place_most : (objects : Objects) (path : List ℕ) → place objects path ≤ length objects
place_most [] path = omega arith
place_most (o ∷ objects) path = by (is_gt (text_cmp path o.0)) (place_most objects path)
  where
    by : (b : Bool) → place objects path ≤ length objects → cond b (suc (place objects path)) 0 ≤ suc (length objects)
    by true h = omega (arith, h)
    by false h = omega arith

module _ {Y X : Type 0} where
  pub listed_is : (es : List (String Y × X)) (i : ℕ) (e : String Y × X) → i < length es → e ≡ slice_index_or es i e → slice_get (listed es) i ≡ Some (string_bytes e.0, e.1)
  listed_is es i e l is = listed_at es i e l ∙ ap (λ (x : String Y × X). Some (string_bytes x.0, x.1)) (sym is)

  pub listed_past : (es : List (String Y × X)) (i : ℕ) → length es ≤ i → slice_get (listed es) i ≡ None
  listed_past [] i l = refl
  listed_past (x ∷ es) zero l = grind arith
  listed_past (x ∷ es) (suc i) l = listed_past es i (omega arith)
