-- Arguments as the values of a body, and bodies as arguments (D-Bus Specification, "Message Format").
use Rattle.std.specs.Prelude.{◌≡◌, ℕ, List, [], ◌∷◌, map, Option, Some, None, Result, Ok, Err}
use Rattle.wire_signature.specs.SingleType.{SingleType, IsSignature, IsType, SignatureText}
use Rattle.wire_signature.specs.declared.error.VariantError.{VariantError}
use Rattle.wire_signature.specs.declared.error.VariantError.TheVariants as errors
use Rattle.wire_tree.specs.Datum.{Datum, WellTyped, type_of}

-- Each number, text, element and entry in these values is one of its type.
abbrev pub AreAllWellTyped : List Datum → Type 0
AreAllWellTyped [] = Unit {0}
AreAllWellTyped (d ∷ ds) = WellTyped d × AreAllWellTyped ds

-- The values of a body are taken exactly where their types together are a signature.
abbrev pub TellsBody : Result (List Datum) VariantError → List Datum → Type 0
TellsBody (Ok body) ds = (body ≡ ds) × IsSignature (map type_of ds)
TellsBody (Err errors.Signature) ds = IsSignature (map type_of ds) → ⊥
TellsBody (Err errors.Malformed) ds = ⊥
TellsBody (Err errors.Depth) ds = ⊥
TellsBody (Err errors.SignatureMismatch) ds = ⊥
TellsBody (Err errors.Memory) ds = Unit {0}

-- A result that is a list of types: they are those, and a signature, or it is refused with Signature as they are none.
abbrev pub TellsKinds : Result (List SingleType) VariantError → List SingleType → Type 0
TellsKinds (Ok signature) kinds = (signature ≡ kinds) × IsSignature kinds
TellsKinds (Err errors.Signature) kinds = IsSignature kinds → ⊥
TellsKinds (Err errors.Malformed) kinds = ⊥
TellsKinds (Err errors.Depth) kinds = ⊥
TellsKinds (Err errors.SignatureMismatch) kinds = ⊥
TellsKinds (Err errors.Memory) kinds = Unit {0}

-- Arguments become the values of a body. Signature comes exactly where their types together are no signature, Malformed
-- exactly where they are and a text holds a 0 byte, or a text or path is longer than 32 bits count.
abbrev pub TellsTo : Result (List Datum) VariantError → List SingleType → List Datum → Type 0
TellsTo (Ok body) kinds ds = (body ≡ ds) × IsSignature kinds × AreAllWellTyped ds
TellsTo (Err errors.Signature) kinds ds = IsSignature kinds → ⊥
TellsTo (Err errors.Malformed) kinds ds = IsSignature kinds × (AreAllWellTyped ds → ⊥)
TellsTo (Err errors.Depth) kinds ds = ⊥
TellsTo (Err errors.SignatureMismatch) kinds ds = ⊥
TellsTo (Err errors.Memory) kinds ds = Unit {0}

-- Arguments that become a body and are read of it again: they are refused exactly where they become none.
abbrev pub TellsBack : {A : Type 0} → Result A VariantError → List SingleType → List Datum → Type 0
TellsBack (Ok _) kinds ds = TellsTo (Ok ds) kinds ds
TellsBack (Err error) kinds ds = TellsTo (Err error) kinds ds

-- A result of values whose types are known to be a signature: each is well-typed, or it is refused with Malformed as one isn't.
abbrev pub TellsWellTyped : {A : Type 0} → Result A VariantError → List Datum → Type 0
TellsWellTyped (Ok values) ds = AreAllWellTyped ds
TellsWellTyped (Err errors.Malformed) ds = AreAllWellTyped ds → ⊥
TellsWellTyped (Err errors.Signature) ds = ⊥
TellsWellTyped (Err errors.Depth) ds = ⊥
TellsWellTyped (Err errors.SignatureMismatch) ds = ⊥
TellsWellTyped (Err errors.Memory) ds = Unit {0}

-- What is read of values of these types: SignatureMismatch exactly where they are of others.
abbrev pub TellsFrom : {A : Type 0} → Result A VariantError → A → List SingleType → List SingleType → Type 0
TellsFrom (Ok x) read types kinds = (x ≡ read) × (types ≡ kinds)
TellsFrom (Err errors.SignatureMismatch) read types kinds = types ≡ kinds → ⊥
TellsFrom (Err errors.Signature) read types kinds = ⊥
TellsFrom (Err errors.Malformed) read types kinds = ⊥
TellsFrom (Err errors.Depth) read types kinds = ⊥
TellsFrom (Err errors.Memory) read types kinds = Unit {0}

-- each is a type that a signature may hold
abbrev pub AllAreTypes : List SingleType → Type 0
AllAreTypes [] = Unit {0}
AllAreTypes (t ∷ ts) = IsType t × AllAreTypes ts

-- the first of the values that are left, and those behind it
abbrev pub NextIs : Option Datum → List Datum → List Datum → Type 0
NextIs None old new = (old ≡ []) × (new ≡ [])
NextIs (Some d) old new = old ≡ d ∷ new

-- SignatureMismatch exactly where a value is left.
abbrev pub TellsEnd : {A : Type 0} → Result A VariantError → List Datum → Type 0
TellsEnd (Ok _) ds = ds ≡ []
TellsEnd (Err errors.SignatureMismatch) ds = ds ≡ [] → ⊥
TellsEnd (Err errors.Signature) ds = ⊥
TellsEnd (Err errors.Malformed) ds = ⊥
TellsEnd (Err errors.Depth) ds = ⊥
TellsEnd (Err errors.Memory) ds = ⊥

-- The next value is taken where there is one of the type; SignatureMismatch exactly where there is none.
abbrev pub TellsTake : {A : Type 0} → Result A VariantError → List Datum → List Datum → SingleType → (Datum → A) → Type 0
TellsTake (Ok x) old new kind read = (d : Datum) × (old ≡ d ∷ new) × (type_of d ≡ kind) × (x ≡ read d)
TellsTake (Err errors.SignatureMismatch) old new kind read = (d : Datum) (ds : List Datum) → old ≡ d ∷ ds → type_of d ≡ kind → ⊥
TellsTake (Err errors.Signature) old new kind read = ⊥
TellsTake (Err errors.Malformed) old new kind read = ⊥
TellsTake (Err errors.Depth) old new kind read = ⊥
TellsTake (Err errors.Memory) old new kind read = Unit {0}

-- The signature of the types was put; Signature exactly where they are none.
abbrev pub PutsSignature : {A : Type 0} → Result A VariantError → List SingleType → List ℕ → Type 0
PutsSignature (Ok done) kinds text = SignatureText kinds text
PutsSignature (Err errors.Signature) kinds text = IsSignature kinds → ⊥
PutsSignature (Err error) kinds text = ⊥
