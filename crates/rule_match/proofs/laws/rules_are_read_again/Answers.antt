use Rattle.rule_match.proofs.Again.{again}
use Rattle.rule_match.proofs.laws.rules_are_read_again.Goals as goal

pub returns : goal.returns
returns c = again c.only_the_bus_is_both.ensures
