use Rattle.std.proofs.Common.{sym, ◌∙◌}
use Rattle.rule_match.proofs.Equal.{equal_is_one, one_is_equal}
use Rattle.rule_match.proofs.laws.is_one_rule.Goals as goal

pub returns : goal.returns
returns c =
    (λ h. equal_is_one c.args.rule.now c.args.other.now (sym c.eq.ensures ∙ h), λ e. c.eq.ensures ∙ one_is_equal c.args.rule.now c.args.other.now e)
