-- Texts of elements: a text, and those that are below it.
use Rattle.std.specs.Prelude.{◌≡◌, ℕ, ◌⊎◌, List, ◌∷◌, ◌++◌}

-- The text is the prefix, or begins with it and a separator. So elements are compared whole: `/a/b` isn't below
-- `/a/bc`, nor `/a/bc` below `/a/b`.
abbrev pub IsAtOrBelow : ℕ → List ℕ → List ℕ → Type 0
IsAtOrBelow separator prefix text = (text ≡ prefix) ⊎ ((rest : List ℕ) × (text ≡ prefix ++ separator ∷ rest))
