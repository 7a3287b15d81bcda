-- Values that stand one behind the other, as the arguments of a message do in its body (D-Bus Specification, "Message
-- Format").
use Rattle.std.specs.Prelude.{◌≡◌, ℕ, ◌+◌, List, [], ◌∷◌, ◌++◌, length}
use Rattle.wire_number.specs.declared.endian.Endian.{Endian}
use Rattle.wire_signature.specs.SingleType.{SingleType}
use Rattle.wire_tree.specs.Datum.{Datum}
use Rattle.wire_encoding.specs.Encoding.{Encodes}

-- Bytes that begin at a place encode values, one of each type, one behind the other.
abbrev pub EncodeEach : Endian → ℕ → List SingleType → List Datum → List ℕ → Type 0
EncodeEach order place [] [] bytes = bytes ≡ []
EncodeEach order place [] (d ∷ ds) bytes = ⊥
EncodeEach order place (t ∷ ts) [] bytes = ⊥
EncodeEach order place (t ∷ ts) (d ∷ ds) bytes =
    (first : List ℕ) × (others : List ℕ) × (bytes ≡ first ++ others) × Encodes order place t d first × EncodeEach order (place + length first) ts ds others
