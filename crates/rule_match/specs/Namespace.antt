-- Namespaces of bus names (D-Bus Specification, "Match Rules", `arg0namespace`).
use Rattle.std.specs.Prelude.{ℕ, Bool, false, ◌&&◌, ◌==◌, nat_le, if◌then◌else◌, List, [], ◌∷◌, length, IsTrue}
use Rattle.std.specs.List.{list_all}
use Rattle.wire_names.specs.Names.{elements, is_unique_element, is_well_known_element}

-- one element or more, joined by `.`; behind a `:` each may begin with a digit
abbrev pub has_namespace_elements : List ℕ → Bool
has_namespace_elements [] = false
has_namespace_elements (b ∷ rest) =
    if b == 58 then list_all is_unique_element (elements 46 rest) else list_all is_well_known_element (elements 46 (b ∷ rest))

-- A bus name without the need for a second element, of at most 255 bytes.
unfoldable pub is_namespace : List ℕ → Bool
is_namespace text = nat_le (length text) 255 && has_namespace_elements text

-- The text is a namespace of bus names.
abbrev pub IsNamespace : List ℕ → Type 0
IsNamespace text = IsTrue (is_namespace text)
