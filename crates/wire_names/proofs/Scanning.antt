-- One pass over a text tests each of its elements.
use Rattle.std.proofs.Common.{◌≡◌, ◌<◌, length, refl, ℕ, ◌+◌, List, [], ◌∷◌, Bool, true, false, drop, arith, ◌&&◌, get_or, ◌≤◌, not, ◌==◌, if◌then◌else◌}
use Rattle.std.specs.List.{slice_split, onto_first, list_all}
use Rattle.std.proofs.lemmas.Bool.Decides.{nat_tests}
use Rattle.std.proofs.lemmas.List.{at_drop_more}
use Rattle.std.proofs.lemmas.List.Splits.{length-slice_split}
use Rattle.std.proofs.Math.ListN.{drop_of_length-le}
use Rattle.wire_names.specs.Names.{elements, is_element, is_element_byte}
use Rattle.wire_names.specs.Scanning.{may_stand}

-- each element is allowed, where the text stands behind a separator (`begins`), or behind the front of an element
abbrev pub are_from : ℕ → Bool → Bool → Bool → List ℕ → Bool
are_from separator hyphen digit begins [] = not begins
are_from separator hyphen digit begins (b ∷ rest) =
    if b == separator
    then not begins && are_from separator hyphen digit true rest
    else may_stand hyphen digit begins b && are_from separator hyphen digit false rest

-- what one pass tests of a list of elements, of whose first one a front may have been passed
abbrev tests : Bool → Bool → Bool → List (List ℕ) → Bool
tests hyphen digit true parts = list_all (is_element hyphen digit) parts
tests hyphen digit false [] = false
tests hyphen digit false (part ∷ parts) = list_all (is_element_byte hyphen) part && list_all (is_element hyphen digit) parts

step : (c : ℕ) (hyphen digit begins : Bool) (b : ℕ) (parts : List (List ℕ)) → 1 ≤ length parts
    → tests hyphen digit begins (onto_first b parts) ≡ (may_stand hyphen digit begins b && tests hyphen digit false parts)
unfolding is_element
step c hyphen digit begins b [] some = absurd (omega arith)
step c hyphen digit true b (part ∷ parts) some = grind (arith, nat_tests)
step c hyphen digit false b (part ∷ parts) some = grind (arith, nat_tests)

some_parts : (p : ℕ → Bool) (bs : List ℕ) → 1 ≤ length (slice_split p bs)
some_parts p bs = rw length-slice_split (omega arith)

scanned : (c : ℕ) (hyphen digit begins : Bool) (bs : List ℕ) → are_from c hyphen digit begins bs ≡ tests hyphen digit begins (elements c bs)
unfolding is_element
scanned c hyphen digit true [] = refl
scanned c hyphen digit false [] = refl
scanned c hyphen digit true (b ∷ rest) = grind (arith, nat_tests, step c hyphen digit true b (elements c rest) (some_parts _ rest), scanned c hyphen digit true rest, scanned c hyphen digit false rest)
scanned c hyphen digit false (b ∷ rest) = grind (arith, nat_tests, step c hyphen digit false b (elements c rest) (some_parts _ rest), scanned c hyphen digit true rest, scanned c hyphen digit false rest)

-- at its start, one pass tests each element
pub all_scanned : (c : ℕ) (hyphen digit : Bool) (bs : List ℕ) → are_from c hyphen digit true bs ≡ list_all (is_element hyphen digit) (elements c bs)
all_scanned c hyphen digit bs = scanned c hyphen digit true bs

-- one byte further
pub one_further : (c : ℕ) (hyphen digit begins : Bool) (bs : List ℕ) (i d : ℕ) → i < length bs
    → are_from c hyphen digit begins (drop i bs) ≡ are_from c hyphen digit begins (get_or bs i d ∷ drop (i + 1) bs)
one_further c hyphen digit begins bs i d h = at_drop_more (are_from c hyphen digit begins) bs i d h

-- at the end
pub at_the_end : (c : ℕ) (hyphen digit begins : Bool) (bs : List ℕ) (i : ℕ) → length bs ≤ i → are_from c hyphen digit begins (drop i bs) ≡ not begins
at_the_end c hyphen digit begins bs i h = rw (drop_of_length-le bs h) refl
