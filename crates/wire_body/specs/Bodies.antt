-- What reading a body promises (D-Bus Specification, "Message Format"). A body begins on a multiple of 8, so its places are
-- counted from its own first byte.
use Rattle.std.specs.Prelude.{◌≡◌, ℕ, List, ◌++◌, length}
use Rattle.wire_number.specs.declared.endian.Endian.{Endian}
use Rattle.wire_signature.specs.declared.error.VariantError.{VariantError}
use Rattle.wire_signature.specs.declared.error.VariantError.TheVariants as errors
use Rattle.wire_signature.specs.SingleType.{SingleType}
use Rattle.wire_tree.specs.Datum.{Datum}
use Rattle.wire_encoding.specs.Each.{EncodeEach}

-- no front of the bytes encodes a value of each type
abbrev pub HasNoBody : Endian → List SingleType → List ℕ → Type 0
HasNoBody order types bytes = (ds : List Datum) (front rest : List ℕ) → EncodeEach order 0 types ds front → bytes ≡ front ++ rest → ⊥

-- Whatever front of the bytes encodes a value of each type, these are the values, and it is so long.
abbrev pub HasOnlyBody : Endian → List SingleType → List ℕ → List Datum → ℕ → Type 0
HasOnlyBody order types bytes values count =
    (ds : List Datum) (front rest : List ℕ) → EncodeEach order 0 types ds front → bytes ≡ front ++ rest → (values ≡ ds) × (count ≡ length front)

-- What an error says: Malformed, exactly that no front of the bytes encodes a value of each type. Want of memory tells
-- nothing.
abbrev pub Explains : VariantError → Endian → List SingleType → List ℕ → Type 0
Explains errors.Signature order types bytes = ⊥
Explains errors.Depth order types bytes = ⊥
Explains errors.Malformed order types bytes = HasNoBody order types bytes
Explains errors.SignatureMismatch order types bytes = ⊥
Explains errors.Memory order types bytes = Unit {0}

-- A front of the bytes encodes values of these types, and none encodes others; this is what they are read as.
pub record HasArguments {A : Type 0} (order : Endian) (types : List SingleType) (bytes : List ℕ) (read : List Datum → A) (x : A) : Type 0 where
  pub values : List Datum
  pub front : List ℕ
  pub rest : List ℕ
  pub text : bytes ≡ front ++ rest
  pub encoded : EncodeEach order 0 types values front
  pub only : HasOnlyBody order types bytes values (length front)
  pub same : x ≡ read values
