-- The grammars of names and object paths (D-Bus Specification, "Valid Names" and "Valid Object Paths"),
-- each on the elements that stand between separators.
use Rattle.std.specs.Prelude.{ℕ, Bool, true, false, ◌&&◌, ◌||◌, not, ◌==◌, nat_eq, nat_le, List, [], ◌∷◌, length, codes, IsTrue}
use Rattle.std.specs.List.{slice_split, list_all}
use Rattle.std.specs.Char.{is_ascii_digit, is_ascii_alphanumeric}
use Rattle.std.specs.Cmp.Lexicographic.{pointwise}

-- the elements of a text: what stands before, between and after the separators
abbrev pub elements : ℕ → List ℕ → List (List ℕ)
elements separator text = slice_split (λ b. b == separator) text

-- a letter, a digit or `_`, and where `hyphen` allows it, `-`
abbrev pub is_element_byte : Bool → ℕ → Bool
is_element_byte hyphen b = is_ascii_alphanumeric b || b == 95 || hyphen && b == 45

-- the first byte is a digit
abbrev pub begins_with_digit : List ℕ → Bool
begins_with_digit [] = false
begins_with_digit (b ∷ _) = is_ascii_digit b

-- an element: not empty, of the allowed bytes, and without a digit in front unless `digit` allows it
unfoldable pub is_element : Bool → Bool → List ℕ → Bool
is_element hyphen digit element =
    nat_le 1 (length element) && list_all (is_element_byte hyphen) element && (digit || not (begins_with_digit element))

-- of a path: letters, digits and `_`
abbrev pub is_path_element : List ℕ → Bool
is_path_element element = is_element false true element

-- of a unique name: letters, digits, `_` and `-`
abbrev pub is_unique_element : List ℕ → Bool
is_unique_element element = is_element true true element

-- of an interface or error name, and what a member name is: letters, digits and `_`, no digit in front
abbrev pub is_interface_element : List ℕ → Bool
is_interface_element element = is_element false false element

-- of a well-known name: letters, digits, `_` and `-`, no digit in front
abbrev pub is_well_known_element : List ℕ → Bool
is_well_known_element element = is_element true false element

-- two or more elements joined by `.`, each of which passes the test
unfoldable pub is_dotted : (List ℕ → Bool) → List ℕ → Bool
is_dotted test text = nat_le 2 (length (elements 46 text)) && list_all test (elements 46 text)

-- a name has at most 255 bytes
abbrev pub is_short : List ℕ → Bool
is_short text = nat_le (length text) 255

-- the name of the bus itself, which counts as a unique name
abbrev pub is_the_bus : List ℕ → Bool
is_the_bus text = pointwise nat_eq text (codes "org.freedesktop.DBus")

-- `:`, and two or more elements joined by `.`
unfoldable pub is_connection : List ℕ → Bool
is_connection [] = false
is_connection (b ∷ rest) = b == 58 && is_dotted is_unique_element rest

-- the unique name of a connection, or that of the bus ("Bus names")
unfoldable pub is_unique_name : List ℕ → Bool
is_unique_name text = is_short text && (is_the_bus text || is_connection text)

-- a bus name that a connection asks for ("Bus names")
unfoldable pub is_well_known_name : List ℕ → Bool
is_well_known_name text = is_short text && is_dotted is_well_known_element text

-- either of them
unfoldable pub is_bus_name : List ℕ → Bool
is_bus_name text = is_unique_name text || is_well_known_name text

-- two or more elements joined by `.` ("Interface names")
unfoldable pub is_interface_name : List ℕ → Bool
is_interface_name text = is_short text && is_dotted is_interface_element text

-- error names have the grammar of interface names ("Error names")
unfoldable pub is_error_name : List ℕ → Bool
is_error_name text = is_interface_name text

-- one element ("Member names")
unfoldable pub is_member_name : List ℕ → Bool
is_member_name text = is_short text && is_interface_element text

-- `/` alone, or `/` and elements joined by `/`; a path has no limit of length
unfoldable pub is_object_path : List ℕ → Bool
is_object_path [] = false
is_object_path (b ∷ rest) = b == 47 && (nat_le (length rest) 0 || list_all is_path_element (elements 47 rest))

-- that a text is a name of each kind, as a fact
abbrev pub IsUniqueName : List ℕ → Type 0
IsUniqueName text = IsTrue (is_unique_name text)

-- The text is a well-known bus name.
abbrev pub IsWellKnownName : List ℕ → Type 0
IsWellKnownName text = IsTrue (is_well_known_name text)

-- The text is a unique or a well-known bus name.
abbrev pub IsBusName : List ℕ → Type 0
IsBusName text = IsTrue (is_bus_name text)

-- The text is an interface name.
abbrev pub IsInterfaceName : List ℕ → Type 0
IsInterfaceName text = IsTrue (is_interface_name text)

-- The text is an error name.
abbrev pub IsErrorName : List ℕ → Type 0
IsErrorName text = IsTrue (is_error_name text)

-- The text is a member name: that of a method or a signal.
abbrev pub IsMemberName : List ℕ → Type 0
IsMemberName text = IsTrue (is_member_name text)

-- The text is an object path.
abbrev pub IsObjectPath : List ℕ → Type 0
IsObjectPath text = IsTrue (is_object_path text)
