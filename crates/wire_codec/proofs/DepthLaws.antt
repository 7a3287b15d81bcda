-- The depths of lists of values, each as it is seen by a function.
use Rattle.std.proofs.Common.{◌≡◌, ℕ, zero, suc, ◌<◌, ◌≤◌, List, [], ◌∷◌, length, get_or, map, max, take, ap, refl, arith}
use Rattle.wire_tree.specs.Datum.{FixedType, Datum, num, data_of}
use Rattle.wire_encoding.specs.Encoding.{depth, depths}

-- one value is no deeper than its list
pub depth_item : {A : Type 0} (f : A → Datum) (xs : List A) (i : ℕ) (x : A) → i < length xs → x ≡ get_or xs i x → depth (f x) ≤ depths (data_of (map f xs))
depth_item f [] i x h e = absurd (omega arith)
depth_item f (u ∷ us) zero x h e = omega (arith, ap (λ v. depth (f v)) e)
depth_item f (u ∷ us) (suc i) x h e = let k : depth (f x) ≤ depths (data_of (map f us)) = depth_item f us i x (omega arith) e in omega arith

-- one value more
pub depth_take : {A : Type 0} (f : A → Datum) (xs : List A) (i : ℕ) (x : A) (room : ℕ) → i < length xs → x ≡ get_or xs i x
    → depths (data_of (map f (take i xs))) ≤ room → depth (f x) ≤ room → depths (data_of (map f (take (suc i) xs))) ≤ room
depth_take f [] i x room h e k l = absurd (omega arith)
depth_take f (u ∷ us) zero x room h e k l = omega (arith, ap (λ v. depth (f v)) e)
depth_take f (u ∷ us) (suc i) x room h e k l =
    let m : depths (data_of (map f (take (suc i) us))) ≤ room = depth_take f us i x room (omega arith) e (omega arith) l in omega arith

-- numbers open no container
pub packed_depths : (n : FixedType) (xs : List ℕ) → depths (data_of (map (num n) xs)) ≡ 0
packed_depths n [] = refl
packed_depths n (x ∷ xs) = ap (λ k. max 0 k) (packed_depths n xs)
