-- A text in the grammar of object paths or of a kind of names is ASCII, so it is UTF-8.
use Rattle.std.proofs.Common.{◌≡◌, refl, subst, ℕ, List, [], ◌∷◌, Bool, true, false, nat_lt, arith, IsUtf8, codes}
use Rattle.std.specs.List.{list_all, join_with_byte}
use Rattle.std.proofs.lemmas.Bool.{ltb-true}
use Rattle.std.proofs.lemmas.Bool.Decides.{nat_tests}
use Rattle.std.proofs.lemmas.List.{nil_from_length}
use Rattle.std.proofs.lemmas.List.Folds.{list_all-append}
use Rattle.std.proofs.lemmas.List.Splits.{join_with_byte-slice_split}
use Rattle.std.proofs.lemmas.List.Sums.{AllPass-from_list_all, list_all-from_AllPass}
use Rattle.std.proofs.lemmas.Slice.Eq.{bytes_eq-Decides}
use Rattle.std.proofs.lemmas.Str.{IsUtf8-from_ascii}
use Rattle.std.proofs.lemmas.Str.Ascii.{IsAscii-from_all}
use Rattle.wire_names.specs.Names.{elements, is_element, is_element_byte, is_object_path, is_member_name, is_dotted, is_interface_name, is_error_name, is_well_known_name, is_unique_name, is_bus_name, is_connection, is_the_bus, IsObjectPath, IsMemberName, IsInterfaceName, IsErrorName, IsUniqueName, IsWellKnownName, IsBusName}

abbrev is_low : ℕ → Bool
is_low b = nat_lt b 128

low_utf8 : (bs : List ℕ) → list_all is_low bs ≡ true → IsUtf8 bs
low_utf8 bs h = IsUtf8-from_ascii bs (IsAscii-from_all bs (λ k d l. ltb-true _ 128 (AllPass-from_list_all is_low bs h k d l)))

low_byte : (hyphen : Bool) (b : ℕ) → is_element_byte hyphen b ≡ true → is_low b ≡ true
low_byte hyphen b h = grind (arith, nat_tests)

low_element : (hyphen digit : Bool) (element : List ℕ) → is_element hyphen digit element ≡ true → list_all is_low element ≡ true
unfolding is_element
low_element hyphen digit element h =
    let bytes : list_all (is_element_byte hyphen) element ≡ true = grind arith in
    list_all-from_AllPass is_low element (λ k d l. low_byte hyphen _ (AllPass-from_list_all (is_element_byte hyphen) element bytes k d l))

-- a text is ASCII where the separator is, and each of its elements is one
low_joined : (c : ℕ) → is_low c ≡ true → (hyphen digit : Bool) (parts : List (List ℕ)) → list_all (is_element hyphen digit) parts ≡ true → list_all is_low (join_with_byte c parts) ≡ true
low_joined c k hyphen digit [] h = refl
low_joined c k hyphen digit (x ∷ []) h = grind (arith, low_element hyphen digit x)
low_joined c k hyphen digit (x ∷ y ∷ xs) h = rw list_all-append (grind (arith, low_element hyphen digit x, low_joined c k hyphen digit (y ∷ xs)))

low_elements : (c : ℕ) → is_low c ≡ true → (hyphen digit : Bool) (bs : List ℕ) → list_all (is_element hyphen digit) (elements c bs) ≡ true → list_all is_low bs ≡ true
low_elements c k hyphen digit bs h = subst (λ (bs : List ℕ). list_all is_low bs ≡ true) (join_with_byte-slice_split c bs) (low_joined c k hyphen digit (elements c bs) h)

low_dotted : (hyphen digit : Bool) (bs : List ℕ) → is_dotted (is_element hyphen digit) bs ≡ true → list_all is_low bs ≡ true
unfolding is_dotted
low_dotted hyphen digit bs h = grind (arith, low_elements 46 refl hyphen digit bs)

-- An object path is UTF-8.
pub path_is_utf8 : (bs : List ℕ) → IsObjectPath bs → IsUtf8 bs
unfolding is_object_path
path_is_utf8 [] h = low_utf8 [] refl
path_is_utf8 (b ∷ rest) h = low_utf8 (b ∷ rest) (grind (arith, nat_tests, nil_from_length rest, low_elements 47 refl false true rest))

-- A member name is UTF-8.
pub member_is_utf8 : (bs : List ℕ) → IsMemberName bs → IsUtf8 bs
unfolding is_member_name
member_is_utf8 bs h = low_utf8 bs (grind (arith, low_element false false bs))

-- An interface name is UTF-8.
pub interface_is_utf8 : (bs : List ℕ) → IsInterfaceName bs → IsUtf8 bs
unfolding is_interface_name
interface_is_utf8 bs h = low_utf8 bs (grind (arith, low_dotted false false bs))

-- An error name is UTF-8.
pub error_is_utf8 : (bs : List ℕ) → IsErrorName bs → IsUtf8 bs
unfolding is_error_name
error_is_utf8 bs h = interface_is_utf8 bs h

-- A well-known bus name is UTF-8.
pub well_known_is_utf8 : (bs : List ℕ) → IsWellKnownName bs → IsUtf8 bs
unfolding is_well_known_name
well_known_is_utf8 bs h = low_utf8 bs (grind (arith, low_dotted true false bs))

low_connection : (bs : List ℕ) → is_connection bs ≡ true → list_all is_low bs ≡ true
unfolding is_connection
low_connection [] h = refl
low_connection (b ∷ rest) h = grind (arith, nat_tests, low_dotted true true rest)

low_bus : (bs : List ℕ) → is_the_bus bs ≡ true → list_all is_low bs ≡ true
low_bus bs h = rw ((bytes_eq-Decides bs (codes "org.freedesktop.DBus")).0 h) refl

-- A unique bus name is UTF-8.
pub unique_is_utf8 : (bs : List ℕ) → IsUniqueName bs → IsUtf8 bs
unfolding is_unique_name
unique_is_utf8 bs h = low_utf8 bs (grind (arith, low_bus bs, low_connection bs))

-- A bus name of either kind is UTF-8.
pub bus_is_utf8 : (bs : List ℕ) → IsBusName bs → IsUtf8 bs
unfolding is_bus_name
bus_is_utf8 bs h = grind (arith, unique_is_utf8 bs, well_known_is_utf8 bs)
