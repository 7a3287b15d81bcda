-- The rule of a text that may be no UTF-8.
use Rattle.std.specs.Prelude.{ℕ, if◌then◌else◌, List, [], ◌∷◌, Result, Ok, Err}
use Rattle.std.specs.Str.{is_utf8}
use Rattle.wire_message.specs.declared.error.Error.{Error}
use Rattle.wire_message.specs.declared.error.Error.TheVariants.{InvalidMatchRule}
use Rattle.rule_match.specs.declared.part.Part.{Part}
use Rattle.rule_match.specs.declared.part.Part.TheVariants as parts
use Rattle.rule_match.specs.Rule.{Rule}
use Rattle.rule_match.specs.Text.{component, components, first_then, made}

-- The value of `argN` or `argNpath` must be UTF-8. The other values are ASCII by their grammars.
abbrev pub utf8_wanted : Result Part Error → Result Part Error
utf8_wanted (Ok (parts.Arg a)) = if is_utf8 a.text then Ok (parts.Arg a) else Err InvalidMatchRule
utf8_wanted (Ok (parts.ArgPath a)) = if is_utf8 a.text then Ok (parts.ArgPath a) else Err InvalidMatchRule
utf8_wanted found = found

-- what the components say, or the fault of the leftmost that is outside the grammar
abbrev pub said_in_bytes : List (List ℕ) → Result (List Part) Error
said_in_bytes [] = Ok []
said_in_bytes (c ∷ cs) = first_then (utf8_wanted (component c)) (said_in_bytes cs)

-- The rule that bytes are, or the fault of their leftmost component outside the grammar: as `rule_in`, but for the
-- values of `argN` and `argNpath` that are no UTF-8.
unfoldable pub rule_in_bytes : List ℕ → Result Rule Error
rule_in_bytes text = made (said_in_bytes (components text))
