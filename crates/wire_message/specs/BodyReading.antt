-- Reading the body of a message (D-Bus Specification, "Message Format", "Header Fields").
use Rattle.std.specs.Prelude.{◌≡◌, ℕ, List, [], ◌++◌, unwrap_or, Result, Ok, Err}
use Rattle.wire_number.specs.declared.endian.Endian.{Endian}
use Rattle.wire_signature.specs.SingleType.{SingleType, IsSignature, SignatureText}
use Rattle.wire_signature.specs.declared.error.VariantError.{VariantError}
use Rattle.wire_signature.specs.declared.error.VariantError.TheVariants as faults
use Rattle.wire_tree.specs.Datum.{Datum}
use Rattle.wire_encoding.specs.Each.{EncodeEach}
use Rattle.wire_message.specs.Front.{MessageView, body_bytes}
use Rattle.wire_message.specs.declared.error.Error.{Error}
use Rattle.wire_message.specs.declared.error.Error.TheVariants as errors

-- the text of the body's signature: one that is left out is the empty one
abbrev pub body_signature : MessageView → List ℕ
body_signature m = unwrap_or m.signature []

-- the types of the body, by the header
abbrev pub HasTypes : MessageView → List SingleType → Type 0
HasTypes m types = SignatureText types (body_signature m)

-- A front of the bytes is a body of these types with these values, whatever stands behind it.
pub record BeginsBody (order : Endian) (types : List SingleType) (bytes : List ℕ) (values : List Datum) : Type 0 where
  pub front : List ℕ
  pub rest : List ℕ
  pub text : bytes ≡ front ++ rest
  pub signature : IsSignature types
  pub encoded : EncodeEach order 0 types values front

-- No front of the bytes is a body of these types.
unfoldable pub BeginsNoBody : Endian → List SingleType → List ℕ → Type 0
BeginsNoBody order types bytes = (values : List Datum) → BeginsBody order types bytes values → ⊥

-- A front of the bytes is a body with these values, and none is one with others; this is what they are read as.
pub record Begins {A : Type 0} (read : List Datum → A) (order : Endian) (types : List SingleType) (bytes : List ℕ) (x : A) : Type 0 where
  pub values : List Datum
  pub there : BeginsBody order types bytes values
  pub only : (others : List Datum) → BeginsBody order types bytes others → values ≡ others
  pub same : x ≡ read values

-- What is read of bytes: Malformed exactly where no front of them is a body of the types.
abbrev pub TellsBegun : {A : Type 0} → Result A VariantError → (List Datum → A) → Endian → List SingleType → List ℕ → Type 0
TellsBegun (Ok x) read order types bytes = Begins read order types bytes x
TellsBegun (Err faults.Malformed) read order types bytes = BeginsNoBody order types bytes
TellsBegun (Err faults.Memory) read order types bytes = Unit {0}
TellsBegun (Err error) read order types bytes = ⊥

-- What is read of a body as these types, whatever its signature says: what its front encodes; Malformed exactly where
-- no front of it is a body of the types.
abbrev pub ReadsAs : {A : Type 0} → Result A Error → (List Datum → A) → List SingleType → MessageView → Type 0
ReadsAs (Ok x) read types m = Begins read m.order types (body_bytes m.bytes) x
ReadsAs (Err (errors.Variant faults.Malformed)) read types m = BeginsNoBody m.order types (body_bytes m.bytes)
ReadsAs (Err errors.Memory) read types m = Unit {0}
ReadsAs (Err error) read types m = ⊥

-- A body that is read as values of the types, where the header is asked first: SignatureMismatch exactly where the
-- body's types are others.
abbrev pub ReadsBody : {A : Type 0} → Result A Error → (List Datum → A) → List SingleType → MessageView → Type 0
ReadsBody (Ok x) read types m = HasTypes m types × Begins read m.order types (body_bytes m.bytes) x
ReadsBody (Err (errors.Variant faults.SignatureMismatch)) read types m = HasTypes m types → ⊥
ReadsBody (Err (errors.Variant faults.Malformed)) read types m =
    HasTypes m types × BeginsNoBody m.order types (body_bytes m.bytes)
ReadsBody (Err errors.Memory) read types m = Unit {0}
ReadsBody (Err error) read types m = ⊥

-- What is read of a body by the header's types: the values that its front encodes; Malformed exactly where no front of
-- it is a body of these types.
abbrev pub ReadsValues : Result (List Datum) Error → MessageView → Type 0
ReadsValues (Ok values) m = (types : List SingleType) × HasTypes m types × Begins (λ ds. ds) m.order types (body_bytes m.bytes) values
ReadsValues (Err (errors.Variant faults.Malformed)) m = (types : List SingleType) → HasTypes m types → BeginsNoBody m.order types (body_bytes m.bytes)
ReadsValues (Err errors.Memory) m = Unit {0}
ReadsValues (Err error) m = ⊥
