-- A list in which one element was set, as the list of which that one was changed.
use Rattle.std.proofs.Common.{◌≡◌, ℕ, ◌<◌, zero, suc, ◌∙◌, ap, refl, arith, List, [], ◌∷◌, length, get_or, set}
use Rattle.wire_message.specs.Plain.{edit}

edit-set : {A : Type 0} (xs : List A) (k : ℕ) (f : A → A) (d : A) → k < length xs → set xs k (f (get_or xs k d)) ≡ edit k f xs
edit-set [] k f d lt = absurd (omega arith)
edit-set (x ∷ xs) zero f d lt = refl
edit-set (x ∷ xs) (suc k) f d lt = ap (λ rest. x ∷ rest) (edit-set xs k f d (omega arith))

pub edit-at : {A : Type 0} (xs : List A) (k : ℕ) (f : A → A) (x y : A) → k < length xs → x ≡ get_or xs k x → y ≡ f x → set xs k y ≡ edit k f xs
edit-at xs k f x y lt at new = ap (set xs k) (new ∙ ap f at) ∙ edit-set xs k f x lt
