-- Lists of pairs whose keys are texts, seen by the bytes of the keys.
use Rattle.std.specs.Prelude.{ℕ, List, map, string_bytes}
use Rattle.std.specs.declared.string.String.{String}

-- the entries, each with the bytes of its key
abbrev pub listed : {Y X : Type 0} → List (String Y × X) → List (List ℕ × X)
listed es = map (λ e. (string_bytes e.0, e.1)) es
