-- The arguments that a source has.
use Rattle.std.specs.Prelude.{List, Option}
use Rattle.wire_tree.specs.Datum.{Datum}
use Rattle.rule_match.specs.Accepting.{arguments_in}
use Rattle.rule_match.specs.declared.finding.Source.{Source}

-- the values at the front of its body by its signature; None where there are none
abbrev pub arguments_from : Source → Option (List Datum)
arguments_from s = arguments_in s.order s.signature.now s.body.now
