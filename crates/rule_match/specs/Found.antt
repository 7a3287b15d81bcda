-- What is kept of a message's arguments so that rules can be tested by them: of each the text, where it is a string or
-- an object path (D-Bus Specification, "Match Rules", `argN` and `argNpath`).
use Rattle.std.specs.Prelude.{ℕ, Bool, false, List, Option, Some, None, option_and_then, slice_get, slice_index_or}
use Rattle.wire_tree.specs.Datum.{string, object_path, signature, Datum, num, text, array, dict, struct, variant}
use Rattle.rule_match.specs.declared.found.FoundText.{FoundText}
use Rattle.rule_match.specs.declared.found.FoundText.TheVariants.{Absent, String, Path}

-- the argument that was found, where it is a string or an object path
abbrev pub value_of : FoundText → Option Datum
value_of Absent = None
value_of (String s) = Some (text string s.now)
value_of (Path s) = Some (text object_path s.now)

-- the argument itself, where it is a string or an object path: a rule asks for no other
abbrev pub text_in : Datum → Option Datum
text_in (num n v) = None
text_in (text string bytes) = Some (text string bytes)
text_in (text object_path bytes) = Some (text object_path bytes)
text_in (text signature bytes) = None
text_in (array t ds) = None
text_in (dict k v es) = None
text_in (struct ds) = None
text_in (variant d) = None

-- the text in the argument of an index, where there is one
abbrev pub text_at : List Datum → ℕ → Option Datum
text_at ds k = option_and_then text_in (slice_get ds k)

-- what was kept of an index
abbrev pub kept_at : List FoundText → ℕ → Option Datum
kept_at found k = value_of (slice_index_or found k Absent)

-- a text is there, and passes the test
abbrev pub passes : (Datum → Bool) → Option Datum → Bool
passes test None = false
passes test (Some d) = test d
