-- Texts in a grammar have neither a comma nor a 0 byte: each of their bytes is above the comma.
use Rattle.std.proofs.Common.{◌≡◌, refl, ℕ, List, [], ◌∷◌, Bool, true, false, ◌&&◌, ◌||◌, not, cond, nat_le, nat_lt, length, codes, arith}
use Rattle.std.specs.Prelude.{◌==◌}
use Rattle.std.specs.List.{list_all, slice_split, onto_first}
use Rattle.std.proofs.lemmas.Bool.Decides.{nat_tests}
use Rattle.std.proofs.lemmas.Slice.Eq.{bytes_eq-Decides}
use Rattle.wire_names.specs.Names.{elements, is_element, is_element_byte, is_dotted, is_connection, is_short, is_the_bus, is_unique_name, is_well_known_name, is_interface_name, is_member_name, is_object_path, is_path_element, is_unique_element, is_well_known_element, is_interface_element, IsUniqueName, IsWellKnownName, IsInterfaceName, IsMemberName, IsObjectPath}
use Rattle.rule_match.specs.Namespace.{is_namespace, has_namespace_elements, IsNamespace}
use Rattle.rule_match.specs.Again.{has_no_comma}
use Rattle.rule_match.specs.Arguments.{is_plain}
use Rattle.rule_match.proofs.Both.{first_true, second_true, both_true}

abbrev is_above : ℕ → Bool
is_above b = nat_lt 44 b

clear_byte : (hyphen : Bool) (b : ℕ) → is_element_byte hyphen b ≡ true → is_above b ≡ true
clear_byte true b h = grind (arith, nat_tests)
clear_byte false b h = grind (arith, nat_tests)

clear_bytes : (hyphen : Bool) (bs : List ℕ) → list_all (is_element_byte hyphen) bs ≡ true → list_all is_above bs ≡ true
clear_bytes hyphen [] h = refl
clear_bytes hyphen (b ∷ bs) h =
    both_true (is_above b) (list_all is_above bs) (clear_byte hyphen b (first_true (is_element_byte hyphen b) (list_all (is_element_byte hyphen) bs) h))
    (clear_bytes hyphen bs (second_true (is_element_byte hyphen b) (list_all (is_element_byte hyphen) bs) h))

clear_element : (hyphen digit : Bool) (element : List ℕ) → is_element hyphen digit element ≡ true → list_all is_above element ≡ true
unfolding is_element
clear_element hyphen digit element h =
    clear_bytes hyphen element (second_true (nat_le 1 (length element)) (list_all (is_element_byte hyphen) element) (first_true (nat_le 1 (length element) && list_all (is_element_byte hyphen) element) _ h))

clear_elements : (hyphen digit : Bool) (parts : List (List ℕ)) → list_all (is_element hyphen digit) parts ≡ true → list_all (list_all is_above) parts ≡ true
clear_elements hyphen digit [] h = refl
clear_elements hyphen digit (part ∷ parts) h =
    both_true (list_all is_above part) (list_all (list_all is_above) parts) (clear_element hyphen digit part (first_true (is_element hyphen digit part) (list_all (is_element hyphen digit) parts) h))
    (clear_elements hyphen digit parts (second_true (is_element hyphen digit part) (list_all (is_element hyphen digit) parts) h))

clear_first : (x : ℕ) (parts : List (List ℕ)) → list_all (list_all is_above) (onto_first x parts) ≡ true → (is_above x ≡ true) × (list_all (list_all is_above) parts ≡ true)
clear_first x [] h = (first_true (is_above x) true (first_true (is_above x && true) true h), refl)
clear_first x (part ∷ parts) h =
    let first = first_true (is_above x && list_all is_above part) (list_all (list_all is_above) parts) h in (
      first_true (is_above x) (list_all is_above part) first,
      both_true (list_all is_above part) (list_all (list_all is_above) parts) (second_true (is_above x) (list_all is_above part) first) (second_true (is_above x && list_all is_above part) (list_all (list_all is_above) parts) h),
    )

clear_joined : (p : ℕ → Bool) (xs : List ℕ) → ((x : ℕ) → p x ≡ true → is_above x ≡ true) → list_all (list_all is_above) (slice_split p xs) ≡ true → list_all is_above xs ≡ true
clear_joined p [] sep h = refl
clear_joined p (x ∷ xs) sep h =
    elim (p x) as (λ v. p x ≡ v → list_all (list_all is_above) (cond v ([] ∷ slice_split p xs) (onto_first x (slice_split p xs))) ≡ true → (is_above x && list_all is_above xs) ≡ true) [
      | true ↦ λ at k. both_true (is_above x) (list_all is_above xs) (sep x at) (clear_joined p xs sep k)
      | false ↦ λ at k. let two = clear_first x (slice_split p xs) k in both_true (is_above x) (list_all is_above xs) two.0 (clear_joined p xs sep two.1)
    ] refl h

clear_dot : (x : ℕ) → (x == 46) ≡ true → is_above x ≡ true
clear_dot x h = grind (arith, nat_tests)

clear_slash : (x : ℕ) → (x == 47) ≡ true → is_above x ≡ true
clear_slash x h = grind (arith, nat_tests)

clear_colon : (x : ℕ) → (x == 58) ≡ true → is_above x ≡ true
clear_colon x h = grind (arith, nat_tests)

clear_parts : (hyphen digit : Bool) (text : List ℕ) → list_all (is_element hyphen digit) (elements 46 text) ≡ true → list_all is_above text ≡ true
clear_parts hyphen digit text h = clear_joined (λ x. x == 46) text clear_dot (clear_elements hyphen digit (elements 46 text) h)

clear_dotted : (hyphen digit : Bool) (text : List ℕ) → is_dotted (is_element hyphen digit) text ≡ true → list_all is_above text ≡ true
unfolding is_dotted
clear_dotted hyphen digit text h = clear_parts hyphen digit text (second_true (nat_le 2 (length (elements 46 text))) (list_all (is_element hyphen digit) (elements 46 text)) h)

clear_connection : (text : List ℕ) → is_connection text ≡ true → list_all is_above text ≡ true
unfolding is_connection
clear_connection [] h = refl
clear_connection (b ∷ rest) h =
    both_true (is_above b) (list_all is_above rest) (clear_colon b (first_true (b == 58) (is_dotted is_unique_element rest) h))
    (clear_dotted true true rest (second_true (b == 58) (is_dotted is_unique_element rest) h))

either : (a b c : Bool) → (a ≡ true → c ≡ true) → (b ≡ true → c ≡ true) → (a || b) ≡ true → c ≡ true
either true b c f g h = f refl
either false b c f g h = g h

clear_the_bus : (text : List ℕ) → is_the_bus text ≡ true → list_all is_above text ≡ true
clear_the_bus text h =
    let same : text ≡ codes "org.freedesktop.DBus" = (bytes_eq-Decides text (codes "org.freedesktop.DBus")).0 h in
    rw same

module _ (text : List ℕ) where
  unique : IsUniqueName text → list_all is_above text ≡ true
  unfolding is_unique_name
  unique h = either (is_the_bus text) (is_connection text) (list_all is_above text) (clear_the_bus text) (clear_connection text) (second_true (is_short text) (is_the_bus text || is_connection text) h)

  well_known : IsWellKnownName text → list_all is_above text ≡ true
  unfolding is_well_known_name
  well_known h = clear_dotted true false text (second_true (is_short text) (is_dotted is_well_known_element text) h)

  interface : IsInterfaceName text → list_all is_above text ≡ true
  unfolding is_interface_name
  interface h = clear_dotted false false text (second_true (is_short text) (is_dotted is_interface_element text) h)

  member : IsMemberName text → list_all is_above text ≡ true
  unfolding is_member_name
  member h = clear_element false false text (second_true (is_short text) (is_interface_element text) h)

clear_rest : (rest : List ℕ) → (nat_le (length rest) 0 || list_all is_path_element (elements 47 rest)) ≡ true → list_all is_above rest ≡ true
clear_rest [] h = refl
clear_rest (b ∷ bs) h =
    let some : nat_le (length (b ∷ bs)) 0 ≡ false = grind (arith, nat_tests) in
    clear_joined (λ x. x == 47) (b ∷ bs) clear_slash (clear_elements false true (elements 47 (b ∷ bs)) (rw some at h))

path : (text : List ℕ) → IsObjectPath text → list_all is_above text ≡ true
unfolding is_object_path
path [] h = refl
path (b ∷ rest) h =
    both_true (is_above b) (list_all is_above rest) (clear_slash b (first_true (b == 47) _ h))
    (clear_rest rest (second_true (b == 47) (nat_le (length rest) 0 || list_all is_path_element (elements 47 rest)) h))

has_elements : (text : List ℕ) → has_namespace_elements text ≡ true → list_all is_above text ≡ true
has_elements [] h = refl
has_elements (b ∷ rest) h =
    elim (b == 58) as (λ v. (b == 58) ≡ v → cond v (list_all is_unique_element (elements 46 rest)) (list_all is_well_known_element (elements 46 (b ∷ rest))) ≡ true → list_all is_above (b ∷ rest) ≡ true) [
      | true ↦ λ e k. both_true (is_above b) (list_all is_above rest) (clear_colon b e) (clear_parts true true rest k)
      | false ↦ λ e k. clear_parts true false (b ∷ rest) k
    ] refl h

namespace : (text : List ℕ) → IsNamespace text → list_all is_above text ≡ true
unfolding is_namespace
namespace text h = has_elements text (second_true (nat_le (length text) 255) (has_namespace_elements text) h)

-- no comma
above_clear : (text : List ℕ) → list_all is_above text ≡ true → has_no_comma text ≡ true
above_clear [] h = refl
above_clear (b ∷ text) h =
    let other : not (b == 44) ≡ true = clear_of b (first_true (is_above b) (list_all is_above text) h) in
    both_true (not (b == 44)) (has_no_comma text) other (above_clear text (second_true (is_above b) (list_all is_above text) h))
  where
    clear_of : (b : ℕ) → is_above b ≡ true → not (b == 44) ≡ true
    clear_of b h = grind (arith, nat_tests)

-- no 0 byte
above_plain : (text : List ℕ) → list_all is_above text ≡ true → is_plain text ≡ true
above_plain [] h = refl
above_plain (b ∷ text) h =
    let other : not (b == 0) ≡ true = plain_of b (first_true (is_above b) (list_all is_above text) h) in
    both_true (not (b == 0)) (is_plain text) other (above_plain text (second_true (is_above b) (list_all is_above text) h))
  where
    plain_of : (b : ℕ) → is_above b ≡ true → not (b == 0) ≡ true
    plain_of b h = grind (arith, nat_tests)

-- the same, in the words of what is promised
module _ (text : List ℕ) where
  pub unique_clear : IsUniqueName text → has_no_comma text ≡ true
  unique_clear h = above_clear text (unique text h)

  pub well_known_clear : IsWellKnownName text → has_no_comma text ≡ true
  well_known_clear h = above_clear text (well_known text h)

  pub interface_clear : IsInterfaceName text → has_no_comma text ≡ true
  interface_clear h = above_clear text (interface text h)

  pub member_clear : IsMemberName text → has_no_comma text ≡ true
  member_clear h = above_clear text (member text h)

  pub path_clear : IsObjectPath text → has_no_comma text ≡ true
  path_clear h = above_clear text (path text h)

  pub namespace_clear : IsNamespace text → has_no_comma text ≡ true
  namespace_clear h = above_clear text (namespace text h)

  pub unique_plain : IsUniqueName text → is_plain text ≡ true
  unique_plain h = above_plain text (unique text h)

  pub well_known_plain : IsWellKnownName text → is_plain text ≡ true
  well_known_plain h = above_plain text (well_known text h)

  pub interface_plain : IsInterfaceName text → is_plain text ≡ true
  interface_plain h = above_plain text (interface text h)

  pub member_plain : IsMemberName text → is_plain text ≡ true
  member_plain h = above_plain text (member text h)

  pub path_plain : IsObjectPath text → is_plain text ≡ true
  path_plain h = above_plain text (path text h)

  pub namespace_plain : IsNamespace text → is_plain text ≡ true
  namespace_plain h = above_plain text (namespace text h)
