-- Components one behind the other, with a comma before each but the first.
use Rattle.std.specs.Prelude.{ℕ, Bool, true, false, List, [], ◌∷◌, ◌++◌, Option, Some, None}
use Rattle.rule_match.specs.Text.{component_text}

-- what stands before a component: nothing before the first, and a comma before each other
abbrev pub separator : Bool → List ℕ
separator true = []
separator false = 44 ∷ []

-- behind others, unless they are the first
abbrev pub joined : Bool → List (List ℕ) → List ℕ
joined first [] = []
joined first (x ∷ xs) = (separator first ++ x) ++ joined false xs

-- whether what follows is still the first
abbrev pub still_first : Bool → List (List ℕ) → Bool
still_first first [] = first
still_first first (x ∷ xs) = false

-- the component of a value that is there
abbrev pub named : List ℕ → Option (List ℕ) → List (List ℕ)
named key None = []
named key (Some value) = component_text key value ∷ []
