-- The match rules of some texts (D-Bus Specification, "Match Rules").
use Rattle.std.specs.Prelude.{ℕ, ◌≡◌, ◌+◌, List, [], ◌∷◌, ◌++◌, Result, Ok, Err}
use Rattle.wire_message.specs.declared.error.Error.{Error}
use Rattle.wire_message.specs.declared.error.Error.TheVariants as error
use Rattle.rule_match.specs.Rule.{Rule}
use Rattle.rule_match.specs.Text.{rule_in}
use Rattle.watch_tool.specs.declared.rules.RulesError.{RulesError}
use Rattle.watch_tool.specs.declared.rules.RulesError.TheVariants as errors

-- the rule of a text and the rules of the texts after it, or the index of the first of all these texts that is no rule
abbrev pub rule_then : Result Rule Error → Result (List Rule) ℕ → Result (List Rule) ℕ
rule_then (Ok rule) (Ok rules) = Ok (rule ∷ rules)
rule_then (Ok rule) (Err index) = Err (index + 1)
rule_then (Err found) later = Err 0

-- The rules of some texts, in order. If a text is no rule, the index of the first such text, from 0 on.
abbrev pub rules_in : List (List ℕ) → Result (List Rule) ℕ
rules_in [] = Ok []
rules_in (text ∷ texts) = rule_then (rule_in text) (rules_in texts)

-- What reading the rules of some texts answers, by what they are. Memory says nothing of the texts.
abbrev pub TellsRules : {A : Type 0} → (A → List Rule) → Result A RulesError → Result (List Rule) ℕ → Type 0
TellsRules seen (Ok rules) told = told ≡ Ok (seen rules)
TellsRules seen (Err errors.Memory) told = Unit {0}
TellsRules seen (Err (errors.Rule index)) told = told ≡ Err index

-- ---- the step

-- what an error of reading a text says of the texts: that it is no rule, or that memory ran out
abbrev pub refusal_of : Error → ℕ → RulesError
refusal_of error.Memory index = errors.Memory
refusal_of other index = errors.Rule index

-- What reading one text more, which has this index, answers, and what it leaves of the rules.
abbrev pub TellsRule : {A : Type 0} → Result A RulesError → List ℕ → ℕ → List Rule → List Rule → Type 0
TellsRule (Ok done) text index rules rules' = (rule : Rule) × (rule_in text ≡ Ok rule) × (rules' ≡ rules ++ rule ∷ [])
TellsRule (Err errors.Memory) text index rules rules' = Unit {0}
TellsRule (Err (errors.Rule at)) text index rules rules' = (at ≡ index) × (found : Error) × (rule_in text ≡ Err found)
