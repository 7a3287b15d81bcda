-- Texts that are appended, and the ends of outputs.
use Rattle.std.proofs.Common.{◌≡◌, ℕ, ◌+◌, ◌<◌, ◌≤◌, List, [], ◌∷◌, ◌++◌, length, replicate, Option, Some, None, ap, arith, length-append}
use Rattle.std.proofs.Math.Nat.{mod-eq_of_lt}
use Rattle.std.specs.Int.{w8}
use Rattle.wire_number.specs.declared.endian.Endian.{Endian}
use Rattle.wire_number.specs.declared.endian.Endian.TheVariants.{Little, Big}
use Rattle.wire_number.specs.Number.{number_text, pad, padding}
use Rattle.wire_number.proofs.Steps.{length_padding}
use Rattle.wire_tree.specs.Datum.{signature, IsTextOf}
use Rattle.wire_encoding.specs.Encoding.{aligned}
use Rattle.wire_codec.specs.Encoder.{Within, nearest}
use Rattle.wire_codec.specs.Writing.{opening}

-- how far an array's length, and the padding around it, reach
pub opening_long : (place boundary : ℕ) → length (opening place boundary) ≡ pad place 4 + 4 + pad (aligned place 4 + 4) boundary
opening_long place boundary =
    let gap : List ℕ = padding (aligned place 4 + 4) boundary in
    omega (arith, length-append (padding place 4) (0 ∷ 0 ∷ 0 ∷ 0 ∷ gap), length_padding place 4, length_padding (aligned place 4 + 4) boundary)

-- nothing stands before what begins on any place
pub no_padding : (p : ℕ) → padding p 1 ≡ []
no_padding p = let none : pad p 1 ≡ 0 = omega arith in ap (λ n. replicate n 0) none

-- a byte's text is the byte
pub byte_text : (order : Endian) (n : ℕ) → n < 256 → number_text w8 order n ≡ n ∷ []
byte_text Little n h = ap (λ m. m ∷ []) (mod-eq_of_lt h)
byte_text Big n h = ap (λ m. m ∷ []) (mod-eq_of_lt h)

pub ruleset bytes_alone = byte_text

pub signature_short : (bs : List ℕ) → IsTextOf signature bs → length bs ≤ 255
signature_short bs h = omega (arith, ap length h.1.text, h.1.valid.within)

pub ruleset signature_texts = (no_padding, signature_short)

-- ---- ends

-- what ends before an end's place is within it
pub within_less : (end : Option ℕ) (m n : ℕ) → n ≤ m → Within end m → Within end n
within_less None m n h k = tt
within_less (Some e) m n h k = omega (arith, h, k)

-- what doesn't pass the nearer of two ends passes none of them, and the other way round
pub nearest_within : (end : Option ℕ) (far n : ℕ) → n ≤ nearest end far → Within end n × (n ≤ far)
nearest_within None far n h = (tt, h)
nearest_within (Some e) far n h = (omega (arith, h), omega (arith, h))

pub nearest_most : (end : Option ℕ) (far n : ℕ) → Within end n → n ≤ far → n ≤ nearest end far
nearest_most None far n h k = k
nearest_most (Some e) far n h k = omega (arith, h, k)
