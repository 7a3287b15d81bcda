use Rattle.std.proofs.Common.{◌≡◌, ◌+◌, ◌<◌, ◌&&◌, List, Some, length}
use Rattle.std.specs.List.{All, list_all}
use Rattle.wire_tree.specs.Datum.{Datum}
use Rattle.rule_match.specs.declared.arguments.Argument.{Argument}
use Rattle.rule_match.specs.ArgumentTests.{has_at, is_path, is_string}
use Rattle.rule_match.specs.Sources.{arguments_from}
use Rattle.rule_match.specs.Walking.{IsWalk}
use Rattle.rule_match.proofs.wants.are_wanted.Given as goal

-- what was asked fits, so what is left decides; a rule can speak of all that is left
abbrev pub invariant-loop-strings : goal.invariant-loop-strings
invariant-loop-strings l = record {
  walk : IsWalk l.walk;
  source : l.walk.source ≡ l.fn.walk.source;
  strings : All (λ (a : Argument). a.index < 64) l.strings;
  paths : All (λ (a : Argument). a.index < 64) l.paths;
  left : (ds : List Datum) → arguments_from l.fn.walk.source ≡ Some ds
      → (list_all (λ (a : Argument). has_at (is_string a.text) a.index ds) l.fn.strings && list_all (λ (a : Argument). has_at (is_path a.text) a.index ds) l.fn.paths)
      ≡ (list_all (λ (a : Argument). has_at (is_string a.text) a.index ds) l.strings && list_all (λ (a : Argument). has_at (is_path a.text) a.index ds) l.paths);
}

abbrev pub decreases-loop-strings : goal.decreases-loop-strings
decreases-loop-strings l = length l.strings + length l.paths
