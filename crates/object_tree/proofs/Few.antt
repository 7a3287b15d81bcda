-- How many interfaces an object has, where none is left but, perhaps, the one that tells of the objects below.
use Rattle.std.proofs.Common.{◌≡◌, refl, sym, ◌∙◌, subst, ℕ, ◌≤◌, List, [], ◌∷◌, length, Bool, true, false, cond, ◌&&◌, Some, None, is_some, arith, nat_cmp, Less}
use Rattle.std.specs.List.Sorted.{IsStrictlySortedBy}
use Rattle.std.specs.Cmp.Lexicographic.{slice_cmp}
use Rattle.std.specs.Map.{lookup, keys_of}
use Rattle.std.specs.BTreeMap.{is_at}
use Rattle.std.proofs.lemmas.Bool.{false_from_ne_true, and_parts}
use Rattle.std.proofs.lemmas.Map.Text.{is_eq-slice_cmp}
use Rattle.std.proofs.lemmas.Slice.Eq.{bytes_eq-Decides}
use Rattle.object_tree.specs.Objects.{Rows, text_cmp, is_same, manager_name, are_none_but_manager}
use Rattle.object_tree.proofs.Entries.{at_itself, at_swap}

pub no_rows : (rows : Rows) → length rows ≡ 0 → true ≡ are_none_but_manager rows
no_rows [] h = refl
no_rows (r ∷ rows) h = grind arith

pub one_row : (rows : Rows) → length rows ≡ 1 → is_some (lookup (is_at (text_cmp manager_name)) rows) ≡ are_none_but_manager rows
one_row [] h = grind arith
one_row (r ∷ []) h = by (is_at (text_cmp manager_name) r.0) (is_same r.0 manager_name) (at_swap manager_name r.0 ∙ is_eq-slice_cmp r.0 manager_name)
  where
    by : (a b : Bool) → a ≡ b → is_some (cond a (Some r.1) None) ≡ (b && true)
    by true true h = refl
    by false false h = refl
    by true false h = grind arith
    by false true h = grind arith
one_row (r ∷ s ∷ rows) h = grind arith

pub more_rows : (rows : Rows) → 2 ≤ length rows → IsStrictlySortedBy text_cmp (keys_of rows) → false ≡ are_none_but_manager rows
unfolding IsStrictlySortedBy
more_rows [] h s = grind arith
more_rows (r ∷ []) h s = grind arith
more_rows (r ∷ t ∷ rows) h s = sym (false_from_ne_true (are_none_but_manager (r ∷ t ∷ rows)) (λ all.
    let first = and_parts (is_same r.0 manager_name) (is_same t.0 manager_name && are_none_but_manager rows) all in
    let second = and_parts (is_same t.0 manager_name) (are_none_but_manager rows) first.1 in
    let a = (bytes_eq-Decides r.0 manager_name).0 first.0 in
    let b = (bytes_eq-Decides t.0 manager_name).0 second.0 in
    let less : text_cmp manager_name manager_name ≡ Less = subst (λ (x : List ℕ). slice_cmp nat_cmp x manager_name ≡ Less) a (subst (λ (x : List ℕ). slice_cmp nat_cmp r.0 x ≡ Less) b s.0.0) in
    let same = at_itself manager_name in
    grind arith))
