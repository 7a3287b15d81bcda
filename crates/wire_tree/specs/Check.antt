-- What the check of a tree tells.
use Rattle.std.specs.Prelude.{◌≡◌, Option, Some, None, Result, Ok, Err}
use Rattle.wire_signature.specs.SingleType.{SingleType, IsType}
use Rattle.wire_signature.specs.declared.error.VariantError.{VariantError}
use Rattle.wire_signature.specs.declared.error.VariantError.TheVariants as errors
use Rattle.wire_tree.specs.Datum.{Datum, IsValid}

-- A type is given exactly where a signature may hold it.
abbrev pub TellsType : Option SingleType → SingleType → Type 0
TellsType (Some t) single_type = (t ≡ single_type) × IsType single_type
TellsType None single_type = IsType single_type → ⊥

-- A type is given back exactly where the value is of that type.
abbrev pub TellsOwn : Option SingleType → SingleType → SingleType → Type 0
TellsOwn (Some t) own wanted = (t ≡ wanted) × (own ≡ wanted)
TellsOwn None own wanted = own ≡ wanted → ⊥

-- What a call makes of a value that a message may or may not hold: the value itself; a refusal exactly where no message
-- may hold it. Want of memory tells nothing.
abbrev pub TellsValid : Result Datum VariantError → Datum → Type 0
TellsValid (Ok x) d = (x ≡ d) × IsValid d
TellsValid (Err errors.Malformed) d = IsValid d → ⊥
TellsValid (Err errors.Signature) d = ⊥
TellsValid (Err errors.Depth) d = ⊥
TellsValid (Err errors.SignatureMismatch) d = ⊥
TellsValid (Err errors.Memory) d = Unit {0}
