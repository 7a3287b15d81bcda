use Rattle.std.proofs.Common.{subst, ap, ◌∙◌}
use Rattle.rule_match.specs.Building.{Gives}
use Rattle.rule_match.specs.Text.{rule_in}
use Rattle.rule_match.proofs.Utf8.{agree}
use Rattle.rule_match.proofs.component.rule_in.Goals as goal

pub returns : goal.returns
returns c =
    subst (Gives c.rule_in_bytes.result) (agree c.as_bytes.result.now c.as_bytes.ensures.utf8 ∙ ap rule_in c.as_bytes.ensures.value) c.rule_in_bytes.ensures
