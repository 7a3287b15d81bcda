-- How the text of an argument path is compared with an argument's (D-Bus Specification, "Match Rules", `argNpath`).
use Rattle.std.specs.Prelude.{◌≡◌, ℕ, ◌⊎◌, List, ◌++◌, codes}

-- The first text ends with `/` and is a prefix of the second.
pub record IsSlashPrefix (prefix text : List ℕ) : Type 0 where
  pub front : List ℕ
  pub rest : List ℕ
  pub ends : prefix ≡ front ++ codes "/"
  pub begins : text ≡ prefix ++ rest

-- The argument's text is equal to the rule's, or one of the two ends with `/` and is a prefix of the other.
abbrev pub IsPathMatch : List ℕ → List ℕ → Type 0
IsPathMatch wanted found = (found ≡ wanted) ⊎ (IsSlashPrefix wanted found ⊎ IsSlashPrefix found wanted)
