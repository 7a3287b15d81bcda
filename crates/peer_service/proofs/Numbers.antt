-- The boxes by their numbers.
use Rattle.std.proofs.Common.{◌≡◌, refl, sym, ◌∙◌, ap, ℕ, zero, suc, ◌+◌, List, [], ◌∷◌, ◌++◌, length, Option, Some, slice_get, false, arith}
use Rattle.std.proofs.lemmas.Option.{same_Some, none-some}
use Rattle.wire_names.specs.Names.{is_dotted, is_interface_name}
use Rattle.object_interface.specs.Meaning.{Meaning, Same}
use Rattle.peer_service.specs.Service.{BoxView, meaning_at, shelf_from, StandAtTheirNumbers}

module _ {B : Type 0} (meaning : B → Meaning) where
  -- what the next box means is what stands at its number
  pub same_next : (done : List B) (b : B) (rest : List B) (M : Meaning) → Same (meaning_at meaning (done ++ b ∷ rest) (length done)) M → Same (meaning b) M
  same_next [] b rest M h = h
  same_next (d ∷ done) b rest M h = same_next done b rest M h

-- a box with its number
abbrev with_number : {B : Type 0} → (B → List ℕ) → B → ℕ → Option BoxView
with_number state b n = Some (record { number = n; state = state b })

-- one box more
pub shelf_more : {B : Type 0} (state : B → List ℕ) (n : ℕ) (done : List B) (b : B) → shelf_from state n (done ++ b ∷ []) ≡ shelf_from state n done ++ Some (record { number = n + length done; state = state b }) ∷ []
shelf_more state n [] b = let none : n ≡ n + 0 = omega arith in ap (λ (k : ℕ). with_number state b k ∷ []) none
shelf_more state n (d ∷ done) b =
    let one : (n + 1) + length done ≡ n + suc (length done) = omega arith in
    ap (λ (l : List (Option BoxView)). with_number state d n ∷ l) (shelf_more state (n + 1) done b ∙ ap (λ (k : ℕ). shelf_from state (n + 1) done ++ with_number state b k ∷ []) one)

pub shelf_length : {B : Type 0} (state : B → List ℕ) (n : ℕ) (boxes : List B) → length (shelf_from state n boxes) ≡ length boxes
shelf_length state n [] = refl
shelf_length state n (b ∷ bs) = ap suc (shelf_length state (n + 1) bs)

numbers_from : {B : Type 0} (state : B → List ℕ) (n : ℕ) (boxes : List B) (i : ℕ) (x : BoxView) → slice_get (shelf_from state n boxes) i ≡ Some (Some x) → x.number ≡ n + i
numbers_from state n [] i x h = absurd (none-some (Some x) h)
numbers_from state n (b ∷ bs) zero x h =
    let same = same_Some _ _ (same_Some _ _ h) in
    let none : n ≡ n + 0 = omega arith in
    sym (ap (λ (y : BoxView). y.number) same) ∙ none
numbers_from state n (b ∷ bs) (suc i) x h =
    let one : (n + 1) + i ≡ n + suc i = omega arith in
    numbers_from state (n + 1) bs i x h ∙ one

-- those that were handed in stand at their numbers
pub first_stand : {B : Type 0} (state : B → List ℕ) (boxes : List B) → StandAtTheirNumbers (shelf_from state 0 boxes)
first_stand state boxes = λ i x h. let none : 0 + i ≡ i = omega arith in numbers_from state 0 boxes i x h ∙ none

-- no text is no interface's name
pub no_interface : is_interface_name [] ≡ false
unfolding is_interface_name is_dotted
no_interface = refl
