-- What a rule wants of arguments, asked one after another.
use Rattle.std.proofs.Common.{◌≡◌, refl, sym, ap, ◌∙◌, Bool, true, false, ◌&&◌, List, [], ◌∷◌, length, take, drop, arith}
use Rattle.std.specs.List.{list_all}

and_false : (a : Bool) → (a && false) ≡ false
and_false true = refl
and_false false = refl

module _ {A : Type 0} (p : A → Bool) where
  first_and_others : (b r : Bool) → (b && r) ≡ ((b && true) && r)
  first_and_others true r = refl
  first_and_others false r = refl

  all_split : (xs : List A) → list_all p xs ≡ (list_all p (take 1 xs) && list_all p (drop 1 xs))
  all_split [] = refl
  all_split (x ∷ xs) = first_and_others (p x) (list_all p xs)

  -- the first fits, so the others decide
  pub others_decide : (xs : List A) → list_all p (take 1 xs) ≡ true → list_all p xs ≡ list_all p (drop 1 xs)
  others_decide xs e = all_split xs ∙ ap (λ b. b && list_all p (drop 1 xs)) e

  -- the first doesn't fit
  pub first_fails : (xs : List A) → list_all p (take 1 xs) ≡ false → list_all p xs ≡ false
  first_fails xs e = all_split xs ∙ ap (λ b. b && list_all p (drop 1 xs)) e

  pub none_left : (xs : List A) → length xs ≡ 0 → list_all p xs ≡ true
  none_left [] e = refl
  none_left (x ∷ xs) e = absurd (omega (arith, e))

pub left_fails : (a b : Bool) → a ≡ false → false ≡ (a && b)
left_fails a b e = sym (ap (λ c. c && b) e)

pub right_fails : (a b : Bool) → b ≡ false → false ≡ (a && b)
right_fails a b e = sym (ap (λ c. a && c) e ∙ and_false a)

-- the last of three fits, or it decides
pub last_fits : (a b c : Bool) → c ≡ true → (a && b) ≡ (a && (b && c))
last_fits true true c e = sym e
last_fits true false c e = refl
last_fits false b c e = refl

pub last_fails : (a b c : Bool) → c ≡ false → c ≡ (a && (b && c))
last_fails true true c e = refl
last_fails true false c e = e
last_fails false b c e = e
