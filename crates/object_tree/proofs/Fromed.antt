-- The objects from a path on, in a tree that is given by the paths that were put in.
use Rattle.std.proofs.Common.{◌≡◌, refl, sym, ◌∙◌, ap, subst, ℕ, ◌≤◌, nat_le, List, [], ◌∷◌, length, take, Bool, true, false, cond, ◌&&◌, Option, Some, None, is_some, unwrap_or, IsTrue, arith}
use Rattle.std.specs.List.{slice_get}
use Rattle.std.proofs.lemmas.Bool.{both_ways}
use Rattle.std.proofs.lemmas.Bool.Decides.{nat_tests}
use Rattle.wire_names.specs.Names.{is_object_path}
use Rattle.object_tree.specs.Objects.{Objects, Rows, rows_at, is_below, has_below, below, from_path}
use Rattle.object_tree.specs.Closed.{AreNodes, closed, place}
use Rattle.object_tree.proofs.Changed.{rows_same}
use Rattle.object_tree.proofs.Closed.{or_bare, front_of_path}
use Rattle.object_tree.proofs.Found.{rows_closed, has_below_closed, closed_sorted}
use Rattle.object_tree.proofs.Froms.{from_missing, path_first}
use Rattle.object_tree.proofs.Got.{got_else}
use Rattle.object_tree.proofs.Placed.{there_at}
use Rattle.object_tree.proofs.Removing.{has_byte}
use Rattle.object_tree.proofs.Valid.{AreNames, names_at}
use Rattle.object_tree.proofs.Walked.{below_nothing}

module _ (nodes : Objects) (path : List ℕ) (are : AreNodes nodes) (valid : IsTrue (is_object_path path)) where
  pub missing_from : rows_at (closed nodes) path ≡ None → [] ≡ from_path (closed nodes) path
  missing_from h = sym (from_missing (closed nodes) path (ap is_some h) ∙ below_nothing path (closed nodes) (has_below_closed nodes path are ∙ by (rows_at nodes path) (nat_le 1 (length path)) (has_below nodes path) (let one = has_byte path valid in grind (arith, nat_tests)) (sym (rows_closed nodes are path) ∙ h)))
    where
      by : (r : Option Rows) (n b : Bool) → n ≡ true → or_bare r (n && b) ≡ None → b ≡ false
      by r n false e h = refl
      by (Some x) n true e h = grind arith
      by None true true e h = grind arith
      by None false true e h = absurd (both_ways false refl e)

  pub first_from : (rows : Rows) → rows_at (closed nodes) path ≡ Some rows → (path, rows) ∷ below (closed nodes) path ≡ from_path (closed nodes) path
  first_from rows h = path_first path rows (closed nodes) (closed_sorted nodes are) h

  pub names_closed : (rows : Rows) → rows_at (closed nodes) path ≡ Some rows → AreNames rows
  names_closed rows h = subst (λ (r : Rows). AreNames r) (sym (rows_same nodes are path) ∙ ap (λ (r : Option Rows). unwrap_or r []) h) (names_at nodes path are.valid)

  pub key_front : (o : List ℕ × Rows) (rows : Rows) → slice_get nodes (place nodes path) ≡ Some o → rows_at (closed nodes) path ≡ Some rows → (take (length path) o.0 ≡ path) × (length path ≤ length o.0)
  key_front o rows is h = by (is_some (rows_at nodes path)) refl
    where
      some_pair : (a b : List ℕ × Rows) → Some a ≡ Some b → a ≡ b
      some_pair a b e = ap (λ (x : Option (List ℕ × Rows)). unwrap_or x a) e

      whole : (p : List ℕ) → take (length p) p ≡ p
      whole [] = refl
      whole (x ∷ p) = ap (λ r. x ∷ r) (whole p)

      under : (b : Bool) → is_below path o.0 ≡ b → cond b (Some []) None ≡ Some rows → is_below path o.0 ≡ true
      under true e k = e
      under false e k = grind arith

      by : (b : Bool) → is_some (rows_at nodes path) ≡ b → (take (length path) o.0 ≡ path) × (length path ≤ length o.0)
      by true e =
          let same : o.0 ≡ path = ap (λ (p : List ℕ × Rows). p.0) (some_pair o (path, unwrap_or (rows_at nodes path) []) (sym is ∙ (there_at nodes path are.sorted e).1)) in
          subst (λ (x : List ℕ). (take (length path) x ≡ path) × (length path ≤ length x)) (sym same) (whole path, omega arith)
      by false e =
          let below = under (is_below path o.0) refl (sym (got_else nodes path are o (has_byte path valid) e is) ∙ h) in
          let front = front_of_path [] o.0 path below in
          (front.0, omega (arith, front.1))
