-- Reading a signature from left to right: what stands at the front of a text, and the text behind it.
-- The laws in proofs/Exact.antt tie it to the texts of types.
use Rattle.std.specs.Prelude.{◌≡◌, ℕ, ◌-◌, ◌==◌, ◌&&◌, nat_le, nat_lt, zero, suc, if◌then◌else◌, List, [], ◌∷◌, length, Option, Some, None, Result, Ok, Err, option_and_then, option_map}
use Rattle.wire_signature.specs.SingleType.{SingleType, basic, variant, array, dict, struct, single_types_of, basic_of, type_text, SignatureText, TypeText}
use Rattle.wire_signature.specs.declared.error.VariantError.{VariantError}
use Rattle.wire_signature.specs.declared.error.VariantError.TheVariants as errors
use Rattle.wire_signature.specs.declared.walk.End.{End}
use Rattle.wire_signature.specs.declared.walk.End.TheVariants as ends

-- a type, or types, and the text behind
abbrev pub Found : Type 0 → Type 0
Found A = Option (A × List ℕ)

-- the text behind what was found
abbrev pub rest_of : {A : Type 0} → Found A → Option (List ℕ)
rest_of found = option_map (λ x. x.1) found

-- the text behind a byte, where it begins with that byte
abbrev pub skip_byte : ℕ → List ℕ → Option (List ℕ)
skip_byte byte [] = None
skip_byte byte (c ∷ rest) = if c == byte then Some rest else None

-- the text behind the end of a list of types: behind the bracket that closes a struct, or at the end of the whole text
abbrev pub behind : End → List ℕ → Option (List ℕ)
behind ends.Bracket text = skip_byte 41 text
behind ends.Text [] = Some []
behind ends.Text (c ∷ rest) = None

-- an array's element
abbrev pub as_array : Found SingleType → Found SingleType
as_array found = option_and_then (λ x. Some (array x.0, x.1)) found

-- a dict entry behind its opening bracket: a basic key, a value, the closing bracket
abbrev pub entry_at : (List ℕ → Found SingleType) → List ℕ → Found SingleType
entry_at read [] = None
entry_at read (c ∷ rest) =
    option_and_then (λ key. option_and_then (λ x. option_and_then (λ end. Some (dict key x.0, end)) (skip_byte 125 x.1)) (read rest)) (basic_of c)

-- what stands behind the letter of an array
abbrev pub array_or_dict : (List ℕ → Found SingleType) → List ℕ → Option (List ℕ) → Found SingleType
array_or_dict read text None = as_array (read text)
array_or_dict read text (Some entry) = entry_at read entry

-- types with one more in front of them, where they were found
abbrev pub with_first : SingleType → Found (List SingleType) → Found (List SingleType)
with_first t found = option_and_then (λ y. Some (t ∷ y.0, y.1)) found

-- one more type before the others, unless they end here
abbrev pub more_at : (List ℕ → Found (List SingleType)) → (List ℕ → Found SingleType) → List ℕ → Option (List ℕ) → Found (List SingleType)
more_at others read text (Some rest) = Some ([], rest)
more_at others read text None = option_and_then (λ x. with_first x.0 (others x.1)) (read text)

-- no types, where the text behind their end is known
abbrev pub none_at : Option (List ℕ) → Found (List SingleType)
none_at end = option_and_then (λ rest. Some ([], rest)) end

-- the types up to their end, at most so many
unfoldable pub many_at : ℕ → End → (List ℕ → Found SingleType) → List ℕ → Found (List SingleType)
many_at zero end read text = none_at (behind end text)
many_at (suc count) end read text = more_at (many_at count end read) read text (behind end text)

-- a struct behind its opening bracket: one type or more, and the closing bracket
abbrev pub fields_at : (List ℕ → Found SingleType) → List ℕ → Option (List ℕ) → Found SingleType
fields_at read text (Some rest) = None
fields_at read text None = option_and_then (λ x. Some (struct (single_types_of x.0), x.1)) (many_at (length text) ends.Bracket read text)

-- a type by its first byte, where so many arrays and structs may stand in one another; `read` reads what stands inside
abbrev pub type_step : (ℕ → ℕ → List ℕ → Found SingleType) → ℕ → ℕ → List ℕ → Found SingleType
type_step read arrays structs [] = None
type_step read arrays structs (c ∷ rest) =
    if c == 97 && nat_lt 0 arrays then array_or_dict (read (arrays - 1) structs) rest (skip_byte 123 rest)
    else if c == 40 && nat_lt 0 structs then fields_at (read arrays (structs - 1)) rest (skip_byte 41 rest)
    else if c == 118 then Some (variant, rest)
    else option_and_then (λ b. Some (basic b, rest)) (basic_of c)

-- the type at the front of a text; `room` is how deep the reading may go
unfoldable pub type_at : ℕ → ℕ → ℕ → List ℕ → Found SingleType
type_at zero arrays structs text = None
type_at (suc room) arrays structs text = type_step (type_at room) arrays structs text

-- the type at the front of a text, within the limits on nesting (D-Bus Specification, "Valid Signatures")
unfoldable pub first_at : List ℕ → Found SingleType
first_at text = type_at 65 32 32 text

-- the type that was found, where no text is left behind it
abbrev pub whole : Found SingleType → Option SingleType
whole found = option_and_then (λ x. option_map (λ _. x.0) (behind ends.Text x.1)) found

-- the one complete type that a text is
unfoldable pub type_in : List ℕ → Option SingleType
type_in text = if nat_le (length text) 255 then whole (first_at text) else None

-- the types that a text is the signature of
unfoldable pub types_in : List ℕ → Option (List SingleType)
types_in text = if nat_le (length text) 255 then option_map (λ x. x.0) (many_at (length text) ends.Text first_at text) else None

-- A refusal says that nothing was found. Want of memory tells nothing.
abbrev pub Tells : {Y : Type 0} → VariantError → Option Y → Type 0
Tells errors.Signature found = found ≡ None
Tells errors.Depth found = ⊥
Tells errors.Malformed found = ⊥
Tells errors.SignatureMismatch found = ⊥
Tells errors.Memory found = Unit {0}

-- Seen by `view`, what a call returned is what was found.
abbrev pub Gives : {X Y : Type 0} → (X → Y) → Result X VariantError → Option Y → Type 0
Gives view (Ok x) found = found ≡ Some (view x)
Gives view (Err e) found = Tells e found

-- The type that a call returned is the one that was found; a refusal, that none was.
abbrev pub GivesType : {X : Type 0} → Result X VariantError → Option X → Type 0
GivesType (Ok x) found = found ≡ Some x
GivesType (Err e) found = Tells e found

-- how long the type at the front of a text is
abbrev pub first_length : List ℕ → Option ℕ
first_length text = option_map (λ x. length (type_text x.0)) (first_at text)

-- What a call makes of a text: the types of which it is the signature; a refusal exactly where it is none.
abbrev pub TellsSignature : Result (List SingleType) VariantError → List ℕ → Type 0
TellsSignature (Ok ts) text = SignatureText ts text
TellsSignature (Err errors.Signature) text = (ts : List SingleType) → SignatureText ts text → ⊥
TellsSignature (Err errors.Depth) text = ⊥
TellsSignature (Err errors.Malformed) text = ⊥
TellsSignature (Err errors.SignatureMismatch) text = ⊥
TellsSignature (Err errors.Memory) text = Unit {0}

-- A result of a text that is to be one complete type: that type, or refused with Signature as it is none.
abbrev pub TellsType : Result SingleType VariantError → List ℕ → Type 0
TellsType (Ok t) text = TypeText t text
TellsType (Err errors.Signature) text = (t : SingleType) → TypeText t text → ⊥
TellsType (Err errors.Depth) text = ⊥
TellsType (Err errors.Malformed) text = ⊥
TellsType (Err errors.SignatureMismatch) text = ⊥
TellsType (Err errors.Memory) text = Unit {0}
