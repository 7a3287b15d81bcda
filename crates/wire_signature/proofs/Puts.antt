-- Texts that are put one behind the other.
use Rattle.std.proofs.Common.{◌≡◌, ℕ, zero, suc, ◌+◌, ◌<◌, ◌≤◌, List, [], ◌∷◌, ◌++◌, length, get_or, take, ◌∙◌, ap, arith, append_assoc, length-append, add-one}
use Rattle.wire_signature.specs.SingleType.{SingleType, single_types_of, type_text, types_text}
use Rattle.wire_signature.proofs.Fields.{types_text-take}
use Rattle.wire_signature.specs.Texting.{Puts}

pub puts_then : (a b : List ℕ) (at m next : ℕ) (old mid new : List ℕ) → Puts a at old m mid → Puts b m mid next new → Puts (a ++ b) at old next new
puts_then a b at m next old mid new h k = (
  omega (arith, h.0, k.0, length-append a b),
  k.1 ∙ ap (λ r. r ++ b) h.1 ∙ append_assoc (take at old) a b,
)

-- one type more
pub puts_more : (ts : List SingleType) (i : ℕ) (t : SingleType) (at m next : ℕ) (old mid new : List ℕ) → i < length ts → t ≡ get_or ts i t
    → Puts (types_text (single_types_of (take i ts))) at old m mid → Puts (type_text t) m mid next new → Puts (types_text (single_types_of (take (i + 1) ts))) at old next new
puts_more ts i t at m next old mid new h e p q =
    rw (add-one, types_text-take ts i t h e) (puts_then (types_text (single_types_of (take i ts))) (type_text t) at m next old mid new p q)

-- the first types take no more room than all
pub types_within : (ts : List SingleType) (i : ℕ) → length (types_text (single_types_of (take i ts))) ≤ length (types_text (single_types_of ts))
types_within [] zero = omega arith
types_within [] (suc i) = omega arith
types_within (t ∷ ts) zero = omega arith
types_within (t ∷ ts) (suc i) =
    omega (arith, length-append (type_text t) (types_text (single_types_of (take i ts))), length-append (type_text t) (types_text (single_types_of ts)), types_within ts i)

pub room_for : (ts : List SingleType) (i : ℕ) (t : SingleType) (at m : ℕ) → i < length ts → t ≡ get_or ts i t → m ≡ at + length (types_text (single_types_of (take i ts)))
    → at + length (types_text (single_types_of ts)) ≤ 255 → m + length (type_text t) ≤ 255
room_for ts i t at m h e p k =
    omega (arith, p, k, types_within ts (suc i), ap length (types_text-take ts i t h e), length-append (types_text (single_types_of (take i ts))) (type_text t))
