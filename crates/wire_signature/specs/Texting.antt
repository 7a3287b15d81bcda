-- Writing the text of a type without memory.
use Rattle.std.specs.Prelude.{◌≡◌, ℕ, ◌+◌, List, ◌++◌, length, take}

-- A text was put behind the first `at` bytes, and ends before the place `next`.
abbrev pub Puts : List ℕ → ℕ → List ℕ → ℕ → List ℕ → Type 0
Puts text at old next new = (next ≡ at + length text) × (take next new ≡ take at old ++ text)
