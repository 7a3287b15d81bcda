-- What decoding and encoding promise.
use Rattle.std.specs.Prelude.{◌≡◌, ℕ, List, ◌++◌, length}
use Rattle.wire_number.specs.declared.endian.Endian.{Endian}
use Rattle.wire_signature.specs.declared.error.VariantError.{VariantError}
use Rattle.wire_signature.specs.declared.error.VariantError.TheVariants as errors
use Rattle.wire_signature.specs.SingleType.{SingleType, type_text}
use Rattle.wire_tree.specs.Datum.{Datum}
use Rattle.wire_encoding.specs.Encoding.{Encodes}

-- no front of the bytes encodes a value of the type
abbrev pub EncodeNothing : Endian → ℕ → SingleType → List ℕ → Type 0
EncodeNothing order place t bytes = (d : Datum) (front rest : List ℕ) → Encodes order place t d front → bytes ≡ front ++ rest → ⊥

-- Whatever front of the bytes encodes a value of the type, it is so long.
abbrev pub EncodeOnly : Endian → ℕ → SingleType → List ℕ → ℕ → Type 0
EncodeOnly order place t bytes count =
    (d : Datum) (front rest : List ℕ) → Encodes order place t d front → bytes ≡ front ++ rest → count ≡ length front

-- Whatever front of the bytes encodes a value of the type, the value is this one and the front is so long.
abbrev pub EncodeOnlyThe : Endian → ℕ → SingleType → List ℕ → Datum × ℕ → Type 0
EncodeOnlyThe order place t bytes x =
    (d : Datum) (front rest : List ℕ) → Encodes order place t d front → bytes ≡ front ++ rest → (x.0 ≡ d) × (x.1 ≡ length front)

-- What an error of decoding says: `Malformed` that no front of the bytes encodes a value. Want of memory tells nothing.
abbrev pub Explains : VariantError → Endian → ℕ → SingleType → List ℕ → Type 0
Explains errors.Malformed order place t bytes = EncodeNothing order place t bytes
Explains errors.Memory order place t bytes = Unit {0}
Explains e order place t bytes = ⊥

-- The text begins with that of the type.
abbrev pub StandsFirst : SingleType → List ℕ → Type 0
StandsFirst t text = (rest : List ℕ) × (text ≡ type_text t ++ rest)
