-- Numbers of a fixed type as values.
use Rattle.std.proofs.Common.{◌≡◌, ℕ, zero, suc, ◌<◌, Bool, true, false, List, [], ◌∷◌, length, get_or, map, refl, sym, ap, ◌∙◌, arith}
use Rattle.std.specs.List.{All}
use Rattle.std.proofs.lemmas.List.Elements.{All-head, All-tail, All-map}
use Rattle.wire_signature.specs.SingleType.{basic, letter}
use Rattle.wire_tree.specs.DatumCode.{num_at, num_at-letter}
use Rattle.wire_tree.proofs.Lists.{data_of-one}
use Rattle.wire_tree.specs.Datum.{FixedType, num, array, data_of, num_type, bound, AreElements}
use Rattle.wire_tree.specs.Packed.{bit}

-- numbers that are the same values have the same bits
pub bits-one : (m n : FixedType) (xs ys : List ℕ) → map (num m) xs ≡ map (num n) ys → xs ≡ ys
bits-one m n [] [] e = refl
bits-one m n [] (y ∷ ys) e = absurd (cc)
bits-one m n (x ∷ xs) [] e = absurd (cc)
bits-one m n (x ∷ xs) (y ∷ ys) e =
    let heads : num m x ≡ num n y = cc in let tails : map (num m) xs ≡ map (num n) ys = cc in
    let rest : xs ≡ ys = bits-one m n xs ys tails in cc

type-one : (m n : FixedType) → num_type m ≡ num_type n → m ≡ n
type-one m n e = sym (num_at-letter m) ∙ ap (λ b. num_at (letter b)) e ∙ num_at-letter n

-- arrays of numbers that are one array
pub arrays-one-type : (m n : FixedType) (xs ys : List ℕ)
    → array (basic (num_type m)) (data_of (map (num m) xs)) ≡ array (basic (num_type n)) (data_of (map (num n) ys)) → (m ≡ n) × (xs ≡ ys)
arrays-one-type m n xs ys e =
    let kinds : num_type m ≡ num_type n = cc in
    let values : data_of (map (num m) xs) ≡ data_of (map (num n) ys) = cc in
    (type-one m n kinds, bits-one m n xs ys (data_of-one (map (num m) xs) (map (num n) ys) values))

bit-one : (a b : Bool) → bit a ≡ bit b → a ≡ b
bit-one true true e = refl
bit-one true false e = absurd (omega arith)
bit-one false true e = absurd (omega arith)
bit-one false false e = refl

pub booleans-one : (xs ys : List Bool) → map bit xs ≡ map bit ys → xs ≡ ys
booleans-one [] [] e = refl
booleans-one [] (y ∷ ys) e = absurd (cc)
booleans-one (x ∷ xs) [] e = absurd (cc)
booleans-one (x ∷ xs) (y ∷ ys) e =
    let heads : bit x ≡ bit y = cc in let tails : map bit xs ≡ map bit ys = cc in
    let first : x ≡ y = bit-one x y heads in let rest : xs ≡ ys = booleans-one xs ys tails in cc

pub bit-fits : (b : Bool) → bit b < 2
bit-fits true = omega arith
bit-fits false = omega arith

pub booleans-fit : (xs : List Bool) → All (λ v. v < 2) (map bit xs)
booleans-fit xs = All-map (λ v. v < 2) bit xs (λ k d h. bit-fits (get_or xs k d))

-- numbers in their range are elements of an array of their type
pub numbers-elements : (n : FixedType) (xs : List ℕ) → All (λ v. v < bound n) xs → AreElements (basic (num_type n)) (data_of (map (num n) xs))
numbers-elements n [] h = tt
numbers-elements n (x ∷ xs) h = ((All-head (λ v. v < bound n) x xs h, refl), numbers-elements n xs (All-tail (λ v. v < bound n) x xs h))

-- what an item is doesn't depend on what stands for one past the end
pub any_default : (xs : List ℕ) (i c d : ℕ) → i < length xs → get_or xs i c ≡ get_or xs i d
any_default [] i c d h = absurd (omega arith)
any_default (x ∷ xs) zero c d h = refl
any_default (x ∷ xs) (suc i) c d h = any_default xs i c d (omega arith)
