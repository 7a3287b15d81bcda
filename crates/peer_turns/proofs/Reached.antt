-- An interface that was reached keeps its number; and where it came to one state, one list of interfaces is left.
use Rattle.std.proofs.Common.{◌≡◌, ◌≢◌, ℕ, zero, suc, refl, sym, ◌∙◌, ap, List, [], ◌∷◌, Option, Some, option_map, option_and_then, slice_get, slice_set}
use Rattle.object_interface.specs.Meaning.{Meaning}
use Rattle.peer_objects.specs.Dispatching.{Reaches}
use Rattle.peer_service.specs.Service.{BoxView, number_at}

set_here : {A : Type 0} (xs : List A) (k : ℕ) (x y : A) → slice_get xs k ≡ Some y → slice_get (slice_set xs k x) k ≡ Some x
set_here [] k x y at = cc
set_here (z ∷ xs) zero x y at = refl
set_here (z ∷ xs) (suc k) x y at = set_here xs k x y at

-- the interface that was called keeps its number
called_number : (old new : List (Option BoxView)) (slot : ℕ) (before after : BoxView) → slice_get old slot ≡ Some (Some before) → new ≡ slice_set old slot (Some after) → number_at new slot ≡ number_at old slot → after.number ≡ before.number
called_number old new slot before after kept is numbers =
    let here : slice_get new slot ≡ Some (Some after) = ap (λ xs. slice_get xs slot) is ∙ set_here old slot (Some after) (Some before) kept in
    let number : List (Option BoxView) → Option ℕ = λ xs. number_at xs slot in
    let one : number_at new slot ≡ Some after.number = ap (λ o. option_map (λ (b : BoxView). b.number) (option_and_then (λ x. x) o)) here in
    let other : number_at old slot ≡ Some before.number = ap (λ o. option_map (λ (b : BoxView). b.number) (option_and_then (λ x. x) o)) kept in
    let both : Some after.number ≡ Some before.number = sym one ∙ numbers ∙ other in
    cc

-- the others are as before
pub get_other : {A : Type 0} (xs : List A) (k j : ℕ) (x : A) → k ≢ j → slice_get (slice_set xs k x) j ≡ slice_get xs j
get_other [] k j x other = refl
get_other (y ∷ ys) zero zero x other = absurd (other refl)
get_other (y ∷ ys) zero (suc j) x other = refl
get_other (y ∷ ys) (suc k) zero x other = refl
get_other (y ∷ ys) (suc k) (suc j) x other = get_other ys k j x (λ same. other (ap suc same))

module _ (meanings : ℕ → Meaning) where
  pub after_one : (slot : ℕ) (old new other : List (Option BoxView)) (a : Reaches (λ (b : BoxView). meanings b.number) (λ (b : BoxView). b.state) slot old new) (b : Reaches (λ (b : BoxView). meanings b.number) (λ (b : BoxView). b.state) slot old other)
      → a.after.state ≡ b.after.state → ((j : ℕ) → number_at new j ≡ number_at old j) → ((j : ℕ) → number_at other j ≡ number_at old j) → new ≡ other
  after_one slot old new other a b state numbers others =
      let kept : Some (Some b.before) ≡ Some (Some a.before) = sym b.kept ∙ a.kept in
      let same : b.before ≡ a.before = cc in
      let number : a.after.number ≡ b.after.number =
      called_number old new slot a.before a.after a.kept a.others (numbers slot) ∙ sym (ap (λ (z : BoxView). z.number) same) ∙ sym (called_number old other slot b.before b.after b.kept b.others (others slot)) in
      let after : a.after ≡ b.after = ap (λ n. record { number = n; state = a.after.state }) number ∙ ap (λ s. record { number = b.after.number; state = s }) state in
      a.others ∙ ap (λ z. slice_set old slot (Some z)) after ∙ sym b.others
