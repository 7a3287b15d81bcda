-- Rules whose text is read as the same rule.
use Rattle.std.specs.Prelude.{ℕ, ◌≢◌, Bool, not, ◌==◌, List, [], codes, IfSome, IsTrue}
use Rattle.std.specs.List.{list_all}
use Rattle.wire_names.specs.declared.bus.OwnedBusName.TheVariants.{WellKnown}
use Rattle.rule_match.specs.declared.arguments.Argument.{Argument}
use Rattle.rule_match.specs.Rule.{Rule}
use Rattle.rule_match.specs.Text.{parts_of}

-- a text without a comma
abbrev pub has_no_comma : List ℕ → Bool
has_no_comma text = list_all (λ b. not (b == 44)) text

-- The rule has a part, no text of its arguments or argument paths holds a comma, and its sender isn't the bus's own
-- name as a well-known one, since a text with that name is read as a unique name.
pub record IsReadable (r : Rule) : Type 0 where
  pub part : parts_of r ≢ []
  pub args : IsTrue (list_all (λ (a : Argument). has_no_comma a.text) r.args)
  pub arg_paths : IsTrue (list_all (λ (a : Argument). has_no_comma a.text) r.arg_paths)
  pub sender : IfSome r.sender (λ name. name ≢ WellKnown (codes "org.freedesktop.DBus"))
