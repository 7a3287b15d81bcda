-- What a value of each type is read as.
use Rattle.std.specs.Prelude.{ℕ, List, [], unwrap_or}
use Rattle.wire_signature.specs.SingleType.{SingleType}
use Rattle.wire_signature.specs.Parsing.{types_in}
use Rattle.wire_tree.specs.Datum.{Datum, num, text, array, dict, variant, list_of, pairs_of}

-- the bits of a number
abbrev pub bits_in : Datum → ℕ
bits_in (num n v) = v
bits_in d = 0

-- the bytes of a string, a path or a signature; of another value none
abbrev pub text_in : Datum → List ℕ
text_in (text t bytes) = bytes
text_in d = []

-- the types of which a signature is the text
abbrev pub signature_in : Datum → List SingleType
signature_in d = unwrap_or (types_in (text_in d)) []

-- what a variant holds
abbrev pub value_in : Datum → Datum
value_in (variant d) = d
value_in d = d

-- the elements of an array; of another value none
abbrev pub elements_in : Datum → List Datum
elements_in (array t ds) = list_of ds
elements_in d = []

-- the keys and values of a dict's entries; of another value none
abbrev pub entries_in : Datum → List (Datum × Datum)
entries_in (dict k v es) = pairs_of es
entries_in d = []

-- a key and its value, each by its own function
abbrev pub both : {A B C D : Type 0} → (A → C) → (B → D) → A × B → C × D
both f g e = (f e.0, g e.1)
