-- What the calls of an argument tell.
use Rattle.std.specs.Prelude.{Bool, true, false, ◌≡◌, ◌+◌, ◌<◌, ◌≤◌, ℕ, List, ◌++◌, length, Result, Ok, Err}
use Rattle.wire_signature.specs.SingleType.{SingleType, type_text}
use Rattle.wire_signature.specs.declared.error.VariantError.{VariantError}
use Rattle.wire_signature.specs.declared.error.VariantError.TheVariants as errors

-- A text was put behind another; Signature exactly where both together are longer than a signature may be (D-Bus
-- Specification, "Valid Signatures").
abbrev pub Puts : {A : Type 0} → Result A VariantError → List ℕ → List ℕ → List ℕ → Type 0
Puts (Ok done) text old new = new ≡ old ++ text
Puts (Err errors.Signature) text old new = 255 < length old + length text
Puts (Err error) text old new = ⊥

-- A type's text was written, or it is longer than a signature may be.
abbrev pub IsWritten : Bool → List ℕ → SingleType → Type 0
IsWritten true text kind = text ≡ type_text kind
IsWritten false text kind = 255 < length (type_text kind)

-- Whether a message may hold values: Malformed exactly where they aren't well typed, else Depth exactly where more containers
-- are open at once than there is room for.
abbrev pub Checks : {A : Type 0} → Result A VariantError → Type 0 → ℕ → ℕ → Type 0
Checks (Ok done) well deep room = well × (deep ≤ room)
Checks (Err errors.Malformed) well deep room = well → ⊥
Checks (Err errors.Depth) well deep room = well × (room < deep)
Checks (Err error) well deep room = ⊥

-- What is read of one value, seen by `view`: SignatureMismatch exactly where it is of another type.
abbrev pub TellsRead : {A B : Type 0} → (A → B) → Result A VariantError → B → SingleType → SingleType → Type 0
TellsRead view (Ok x) read own kind = (view x ≡ read) × (own ≡ kind)
TellsRead view (Err errors.SignatureMismatch) read own kind = own ≡ kind → ⊥
TellsRead view (Err errors.Memory) read own kind = Unit {0}
TellsRead view (Err error) read own kind = ⊥
