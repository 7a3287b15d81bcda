-- Elements from the front of a list on that pass a test, and those behind them.
use Rattle.std.proofs.Common.{◌≡◌, refl, sym, ◌∙◌, ap, ℕ, ◌+◌, ◌≤◌, List, [], ◌∷◌, length, drop, Bool, true, false, cond, arith}
use Rattle.std.proofs.Math.Numerals.{one-add}
use Rattle.std.specs.Prelude.{take_while}
use Rattle.std.specs.List.{prefix_len}
use Rattle.std.proofs.lemmas.Bool.{both_ways}
use Rattle.std.proofs.lemmas.List.Sums.{take_while-cons}

-- those from the first on that fails
abbrev pub drop_while : {X : Type 0} → (X → Bool) → List X → List X
drop_while f xs = drop (prefix_len f xs) xs

pub drop_while-cons : {X : Type 0} (f : X → Bool) (x : X) (xs : List X) → drop_while f (x ∷ xs) ≡ cond (f x) (drop_while f xs) (x ∷ xs)
drop_while-cons f x xs = by (f x) (prefix_len f xs)
  where
    by : (b : Bool) (n : ℕ) → drop (cond b (1 + n) 0) (x ∷ xs) ≡ cond b (drop n xs) (x ∷ xs)
    by true n = rw one-add refl
    by false n = refl

pub take_while_length : {X : Type 0} (f : X → Bool) (xs : List X) → length (take_while f xs) ≤ length xs
take_while_length f [] = omega arith
take_while_length f (x ∷ xs) = rw take_while-cons (by (f x) (take_while_length f xs))
  where
    by : (b : Bool) → length (take_while f xs) ≤ length xs → length (cond b (x ∷ take_while f xs) []) ≤ length (x ∷ xs)
    by true h = omega arith
    by false h = omega arith

pub drop_while_length : {X : Type 0} (f : X → Bool) (xs : List X) → length (drop_while f xs) ≤ length xs
drop_while_length f [] = omega arith
drop_while_length f (x ∷ xs) = rw drop_while-cons (by (f x) (drop_while_length f xs))
  where
    by : (b : Bool) → length (drop_while f xs) ≤ length xs → length (cond b (drop_while f xs) (x ∷ xs)) ≤ length (x ∷ xs)
    by true h = omega arith
    by false h = omega arith

-- what passes the first test passes the second
module _ {X : Type 0} (f g : X → Bool) (stronger : (x : X) → f x ≡ true → g x ≡ true) where
  pub take_take : (xs : List X) → take_while f (take_while g xs) ≡ take_while f xs
  take_take [] = refl
  take_take (x ∷ xs) = ap (take_while f) (take_while-cons g x xs) ∙ by (f x) (g x) refl refl (take_take xs) ∙ sym (take_while-cons f x xs)
    where
      by : (a b : Bool) → f x ≡ a → g x ≡ b → take_while f (take_while g xs) ≡ take_while f xs → take_while f (cond b (x ∷ take_while g xs) []) ≡ cond a (x ∷ take_while f xs) []
      by a true h k later = take_while-cons f x (take_while g xs) ∙ ap (λ c. cond c (x ∷ take_while f (take_while g xs)) []) h ∙ ap (λ l. cond a (x ∷ l) []) later
      by true false h k later = absurd (both_ways (g x) k (stronger x h))
      by false false h k later = refl

  pub drop_take : (xs : List X) → drop_while f (take_while g xs) ≡ take_while g (drop_while f xs)
  drop_take [] = refl
  drop_take (x ∷ xs) = ap (drop_while f) (take_while-cons g x xs) ∙ by (f x) (g x) refl refl (drop_take xs) ∙ sym (ap (take_while g) (drop_while-cons f x xs))
    where
      by : (a b : Bool) → f x ≡ a → g x ≡ b → drop_while f (take_while g xs) ≡ take_while g (drop_while f xs) → drop_while f (cond b (x ∷ take_while g xs) []) ≡ take_while g (cond a (drop_while f xs) (x ∷ xs))
      by true true h k later = drop_while-cons f x (take_while g xs) ∙ ap (λ c. cond c (drop_while f (take_while g xs)) (x ∷ take_while g xs)) h ∙ later
      by false true h k later = drop_while-cons f x (take_while g xs) ∙ ap (λ c. cond c (drop_while f (take_while g xs)) (x ∷ take_while g xs)) h ∙ sym (take_while-cons g x xs ∙ ap (λ c. cond c (x ∷ take_while g xs) []) k)
      by true false h k later = absurd (both_ways (g x) k (stronger x h))
      by false false h k later = sym (take_while-cons g x xs ∙ ap (λ c. cond c (x ∷ take_while g xs) []) k)

  pub drop_drop : (xs : List X) → drop_while g (drop_while f xs) ≡ drop_while g xs
  drop_drop [] = refl
  drop_drop (x ∷ xs) = ap (drop_while g) (drop_while-cons f x xs) ∙ by (f x) refl (drop_drop xs)
    where
      by : (a : Bool) → f x ≡ a → drop_while g (drop_while f xs) ≡ drop_while g xs → drop_while g (cond a (drop_while f xs) (x ∷ xs)) ≡ drop_while g (x ∷ xs)
      by true h later = later ∙ sym (drop_while-cons g x xs ∙ ap (λ c. cond c (drop_while g xs) (x ∷ xs)) (stronger x h))
      by false h later = refl
