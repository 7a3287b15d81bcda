use Rattle.std.proofs.Common.{◌∙◌}
use Rattle.rule_match.specs.Found.{value_of}
use Rattle.rule_match.proofs.FoundTexts.{name_passes}
use Rattle.rule_match.proofs.walk.Walk.is_name_in.Goals as goal

pub returns-clause-has : goal.returns-clause-has
returns-clause-has c = λ ds are. c.is_name_in.ensures ∙ name_passes ds 0 (value_of c.text_at.result) (c.text_at.ensures.text ds are) c.args.namespace.now
