-- Boxes taken from the shelf, and put back.
use Rattle.std.proofs.Common.{◌≡◌, ◌⊎◌, inl, inr, ⊎_elim, refl, sym, ◌∙◌, ap, subst, ℕ, zero, suc, List, [], ◌∷◌, Option, Some, None, option_and_then, slice_get, slice_set}
use Rattle.std.proofs.lemmas.Option.{same_Some, none-some}
use Rattle.peer_service.specs.Service.{BoxView, StandAtTheirNumbers}

get_set : {X : Type 0} (xs : List X) (i j : ℕ) (x y : X) → slice_get (slice_set xs i x) j ≡ Some y → ((i ≡ j) × (x ≡ y)) ⊎ (slice_get xs j ≡ Some y)
get_set [] i j x y h = inr h
get_set (z ∷ xs) zero zero x y h = inl (refl, same_Some x y h)
get_set (z ∷ xs) zero (suc j) x y h = inr h
get_set (z ∷ xs) (suc i) zero x y h = inr h
get_set {X} (z ∷ xs) (suc i) (suc j) x y h = ⊎_elim
    (λ (w : (i ≡ j) × (x ≡ y)). inl (ap suc w.0, w.1))
    (λ (w : slice_get xs j ≡ Some y). inr w)
    (get_set xs i j x y h)

set_back : {X : Type 0} (xs : List X) (n : ℕ) (x y : X) → slice_get xs n ≡ Some y → slice_set (slice_set xs n x) n y ≡ xs
set_back [] n x y h = refl
set_back (z ∷ xs) zero x y h = ap (λ w. w ∷ xs) (sym (same_Some z y h))
set_back (z ∷ xs) (suc n) x y h = ap (λ l. z ∷ l) (set_back xs n x y h)

-- what was taken stood there
pub taken_is : {X : Type 0} (o : Option (Option X)) (x : X) → option_and_then (λ o. o) o ≡ Some x → o ≡ Some (Some x)
taken_is None x h = absurd (none-some x h)
taken_is (Some None) x h = absurd (none-some x h)
taken_is (Some (Some y)) x h = ap Some h

-- a box that was taken can't be placed, and the others stand at their numbers
pub taken_stand : (shelf : List (Option BoxView)) (n : ℕ) → StandAtTheirNumbers shelf → StandAtTheirNumbers (slice_set shelf n None)
taken_stand shelf n stand = λ j b h. ⊎_elim
    (λ (w : (n ≡ j) × (None ≡ Some b)). absurd (none-some b w.1))
    (λ (w : slice_get shelf j ≡ Some (Some b)). stand j b w)
    (get_set shelf n j None (Some b) h)

-- a box that is put back at its number stands there
pub put_stand : (shelf : List (Option BoxView)) (b : BoxView) → StandAtTheirNumbers shelf → StandAtTheirNumbers (slice_set shelf b.number (Some b))
put_stand shelf b stand = λ j c h. ⊎_elim
    (λ (w : (b.number ≡ j) × (Some b ≡ Some c)). sym (ap (λ (x : BoxView). x.number) (same_Some b c w.1)) ∙ w.0)
    (λ (w : slice_get shelf j ≡ Some (Some c)). stand j c w)
    (get_set shelf b.number j (Some b) (Some c) h)

-- a box that was taken and is put back leaves the shelf as it was
pub put_back_is : (shelf : List (Option BoxView)) (n : ℕ) (b : BoxView) → StandAtTheirNumbers shelf → option_and_then (λ o. o) (slice_get shelf n) ≡ Some b → slice_set (slice_set shelf n None) b.number (Some b) ≡ shelf
put_back_is shelf n b stand taken =
    let there = taken_is (slice_get shelf n) b taken in
    subst (λ (k : ℕ). slice_set (slice_set shelf n None) k (Some b) ≡ shelf) (sym (stand n b there)) (set_back shelf n None (Some b) there)
