-- Bytes appended one after the other.
use Rattle.std.proofs.Common.{◌≡◌, ℕ, ◌≤◌, List, [], ◌∷◌, ◌++◌, take, replicate, append_assoc}
use Rattle.std.proofs.lemmas.List.{take-replicate}
use Rattle.wire_number.proofs.Steps.{length_padding}

-- the first of eight zeros
pub zero_front : (n : ℕ) → n ≤ 8 → take {A = ℕ} n (0 ∷ 0 ∷ 0 ∷ 0 ∷ 0 ∷ 0 ∷ 0 ∷ 0 ∷ []) ≡ replicate n 0
zero_front n h = take-replicate n 8 0 h

pub ruleset zero_fronts = zero_front

-- at bytes
pub append_two : (a b c : List ℕ) → (a ++ b) ++ c ≡ a ++ (b ++ c)
append_two a b c = append_assoc a b c

pub ruleset appends = (append_two, length_padding)
