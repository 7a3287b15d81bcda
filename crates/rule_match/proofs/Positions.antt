-- The first place at which a test passes, or the length.
use Rattle.std.proofs.Common.{◌≡◌, refl, ℕ, ◌+◌, ◌≤◌, List, [], ◌∷◌, Bool, true, false, not, cond, nat_lt, length, Some, None, arith}
use Rattle.std.specs.Prelude.{unwrap_or}
use Rattle.std.specs.List.{prefix_len, position_or_len}
use Rattle.std.proofs.lemmas.Bool.Decides.{nat_tests}

prefix_short : {X : Type 0} (p : X → Bool) (xs : List X) → prefix_len p xs ≤ length xs
prefix_short p [] = omega arith
prefix_short p (x ∷ xs) =
    elim (p x) as (λ v. cond v (1 + prefix_len p xs) 0 ≤ length (x ∷ xs)) [ true ↦ omega (arith, prefix_short p xs) | false ↦ omega arith ]

told_place : (n m : ℕ) (v : Bool) → nat_lt n m ≡ v → n ≤ m → unwrap_or (cond v (Some n) None) m ≡ n
told_place n m true e h = refl
told_place n m false e h = grind (arith, nat_tests)

pub place_told : {X : Type 0} (p : X → Bool) (xs : List X) → unwrap_or (cond (nat_lt (position_or_len p xs) (length xs)) (Some (position_or_len p xs)) None) (length xs) ≡ position_or_len p xs
place_told p xs = told_place (position_or_len p xs) (length xs) (nat_lt (position_or_len p xs) (length xs)) refl (prefix_short (λ x. not (p x)) xs)

pub place_short : {X : Type 0} (p : X → Bool) (xs : List X) → position_or_len p xs ≤ length xs
place_short p xs = prefix_short (λ x. not (p x)) xs
