-- The texts of the items of a list, item by item.
use Rattle.std.specs.Prelude.{ℕ, zero, suc, Bool, List, codes}

-- what leads to an item: a comma, but before the first
abbrev pub lead_at : List ℕ → ℕ → List ℕ
lead_at lead zero = lead
lead_at lead (suc i) = codes ", "

-- whether an item is told: the first, or a later one
abbrev pub told_at : Bool → Bool → ℕ → Bool
told_at first later zero = first
told_at first later (suc i) = later
