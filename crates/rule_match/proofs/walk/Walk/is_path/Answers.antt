use Rattle.std.proofs.Common.{◌∙◌}
use Rattle.rule_match.specs.Found.{value_of}
use Rattle.rule_match.proofs.FoundTexts.{path_passes}
use Rattle.rule_match.proofs.walk.Walk.is_path.Goals as goal

pub returns-clause-has : goal.returns-clause-has
returns-clause-has c = λ ds are. c.is_path.ensures ∙ path_passes ds c.args.index (value_of c.text_at.result) (c.text_at.ensures.text ds are) c.args.wanted.now
