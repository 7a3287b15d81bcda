-- What the elements of a text tell of it.
use Rattle.std.proofs.Common.{◌≡◌, nat_le, length, refl, ℕ, ◌+◌, List, [], ◌∷◌, Bool, false, cond, codes, arith}
use Rattle.std.specs.List.{slice_split, onto_first, list_all, list_any, count_by}
use Rattle.std.proofs.lemmas.Bool.Decides.{nat_tests}
use Rattle.std.proofs.lemmas.List.Splits.{length-slice_split}
use Rattle.std.proofs.lemmas.List.Sums.{sum_by-cons}
use Rattle.std.proofs.lemmas.Slice.Eq.{bytes_eq-Decides}
use Rattle.wire_names.specs.Names.{elements, is_element, is_well_known_element, is_dotted, is_connection, is_unique_name, is_well_known_name, IsUniqueName, IsWellKnownName}

-- a text has two or more elements exactly where it holds a separator
pub two_parts : (p : ℕ → Bool) (xs : List ℕ) → list_any p xs ≡ nat_le 2 (length (slice_split p xs))
two_parts p [] = refl
two_parts p (x ∷ xs) =
    let counted : count_by p (x ∷ xs) ≡ cond (p x) 1 0 + count_by p xs = sum_by-cons (λ x. cond (p x) 1 0) x xs in
    rw length-slice_split (grind (arith, nat_tests, two_parts p xs, length-slice_split p xs))

-- no element of a well-known name begins with `:`
colon_first : (parts : List (List ℕ)) → list_all is_well_known_element (onto_first 58 parts) ≡ false
unfolding is_element
colon_first [] = refl
colon_first (part ∷ parts) = grind arith

-- so one text alone is both a unique and a well-known name
pub only_the_bus : (text : List ℕ) → IsUniqueName text → IsWellKnownName text → text ≡ codes "org.freedesktop.DBus"
unfolding is_unique_name is_well_known_name is_connection is_dotted
only_the_bus [] unique well_known = absurd (cc)
only_the_bus (b ∷ rest) unique well_known = (bytes_eq-Decides (b ∷ rest) (codes "org.freedesktop.DBus")).0 (grind (arith, nat_tests, colon_first (elements 46 rest)))
