-- Plain functions on lists and options that std lacks.
use Rattle.std.specs.Prelude.{ℕ, zero, suc, List, [], ◌∷◌, Option, Some, unwrap_or}

-- the element at a place is changed
abbrev pub edit : {A : Type 0} → ℕ → (A → A) → List A → List A
edit k f [] = []
edit zero f (x ∷ xs) = f x ∷ xs
edit (suc k) f (x ∷ xs) = x ∷ edit k f xs

-- the first stays
abbrev pub first_of : {A : Type 0} → Option A → A → Option A
first_of o x = Some (unwrap_or o x)
