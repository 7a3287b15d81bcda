use Rattle.rule_match.specs.RuleView.{rule_view}
use Rattle.rule_match.proofs.Kept.{with_path_argument}
use Rattle.rule_match.proofs.building.Builder.put_arg_path.Goals as goal

pub invariant_of-rule-2 : goal.invariant_of-rule-2
invariant_of-rule-2 c = rw c.in_ok-put.ensures.put (with_path_argument (rule_view c.rule.inside) c.args.argument c.rule.invariant c.requires)
