-- Tests of arguments (D-Bus Specification, "Match Rules"). The laws in proofs/ tie them to what a rule wants.
use Rattle.std.specs.Prelude.{ℕ, zero, suc, Bool, true, false, ◌&&◌, ◌||◌, ◌==◌, nat_eq, List, [], ◌∷◌, length, take, drop, codes}
use Rattle.std.specs.List.{starts_with, ends_with}
use Rattle.std.specs.Cmp.Lexicographic.{pointwise}
use Rattle.wire_names.specs.Names.{is_bus_name}
use Rattle.wire_tree.specs.Datum.{string, object_path, signature, Datum, num, text, array, dict, struct, variant}

-- two texts are the same
abbrev pub same : List ℕ → List ℕ → Bool
same xs ys = pointwise nat_eq xs ys

-- nothing, or the separator
abbrev pub begins_with_or_ends : ℕ → List ℕ → Bool
begins_with_or_ends separator [] = true
begins_with_or_ends separator (b ∷ rest) = b == separator

-- the prefix, or a text that begins with it and a separator
abbrev pub is_at_or_below : ℕ → List ℕ → List ℕ → Bool
is_at_or_below separator prefix bytes =
    same (take (length prefix) bytes) prefix && begins_with_or_ends separator (drop (length prefix) bytes)

-- the value is that string
abbrev pub is_string : List ℕ → Datum → Bool
is_string wanted (num n v) = false
is_string wanted (text string bytes) = same bytes wanted
is_string wanted (text object_path bytes) = false
is_string wanted (text signature bytes) = false
is_string wanted (array t ds) = false
is_string wanted (dict k v es) = false
is_string wanted (struct ds) = false
is_string wanted (variant d) = false

-- the first text ends with `/` and is a prefix of the second
abbrev pub is_slash_prefix : List ℕ → List ℕ → Bool
is_slash_prefix prefix bytes = ends_with nat_eq prefix (codes "/") && starts_with nat_eq bytes prefix

-- the argument's text is equal to the rule's, or one of the two ends with `/` and is a prefix of the other
abbrev pub is_path_match : List ℕ → List ℕ → Bool
is_path_match wanted found = same found wanted || (is_slash_prefix wanted found || is_slash_prefix found wanted)

-- the value is a string or an object path, and its text matches the rule's
abbrev pub is_path : List ℕ → Datum → Bool
is_path wanted (num n v) = false
is_path wanted (text string bytes) = is_path_match wanted bytes
is_path wanted (text object_path bytes) = is_path_match wanted bytes
is_path wanted (text signature bytes) = false
is_path wanted (array t ds) = false
is_path wanted (dict k v es) = false
is_path wanted (struct ds) = false
is_path wanted (variant d) = false

-- a bus name in the namespace
abbrev pub names_in : List ℕ → List ℕ → Bool
names_in namespace name = is_bus_name name && is_at_or_below 46 namespace name

-- the value is a string, and a bus name in the namespace
abbrev pub is_name_in : List ℕ → Datum → Bool
is_name_in namespace (num n v) = false
is_name_in namespace (text string bytes) = names_in namespace bytes
is_name_in namespace (text object_path bytes) = false
is_name_in namespace (text signature bytes) = false
is_name_in namespace (array t ds) = false
is_name_in namespace (dict k v es) = false
is_name_in namespace (struct ds) = false
is_name_in namespace (variant d) = false

-- ---- an argument among others

-- the value at an index passes a test
abbrev pub has_at : (Datum → Bool) → ℕ → List Datum → Bool
has_at test k [] = false
has_at test zero (d ∷ ds) = test d
has_at test (suc k) (d ∷ ds) = has_at test k ds
