-- Lists of arguments, in the ascending order of their indices (D-Bus Specification, "Match Rules", `argN` and
-- `argNpath`).
use Rattle.std.specs.Prelude.{ℕ, ◌+◌, zero, suc, Bool, true, ◌&&◌, ◌==◌, not, nat_lt, List, [], ◌∷◌, ◌++◌, Option, Some, None}
use Rattle.std.specs.List.{list_all, filter}
use Rattle.rule_match.specs.declared.arguments.Argument.{Argument}

-- each index is smaller than those behind it
abbrev pub is_ascending : List Argument → Bool
is_ascending [] = true
is_ascending (a ∷ rest) = list_all (λ b. nat_lt a.index b.index) rest && is_ascending rest

-- an argument more: it stands behind those of smaller indices, in place of one of its own index
unfoldable pub put : Argument → List Argument → List Argument
put a args = filter (λ b. nat_lt b.index a.index) args ++ a ∷ filter (λ b. nat_lt a.index b.index) args

-- the index after the greatest; 0 where there is none
abbrev pub index_after : List Argument → ℕ
index_after [] = 0
index_after (a ∷ []) = a.index + 1
index_after (a ∷ b ∷ rest) = index_after (b ∷ rest)

-- a text without a 0 byte
abbrev pub is_plain : List ℕ → Bool
is_plain text = list_all (λ b. not (b == 0)) text

-- An argument that a rule may want, by `argN` or by `argNpath`: one of the first 64, and a text without a 0 byte, which
-- neither a string nor an object path holds.
abbrev pub is_argument : Argument → Bool
is_argument a = nat_lt a.index 64 && is_plain a.text

-- the argument of an index, where there is a text for it
abbrev pub argument_at : ℕ → Option (List ℕ) → List Argument
argument_at i None = []
argument_at i (Some text) = record { index = i; text = text } ∷ []

-- the arguments of the indices below `n` for which there are texts, in ascending order
unfoldable pub in_order : (ℕ → Option (List ℕ)) → ℕ → List Argument
in_order texts zero = []
in_order texts (suc n) = in_order texts n ++ argument_at n (texts n)
