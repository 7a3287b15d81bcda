use Rattle.rule_match.proofs.Accepted.{accepting}
use Rattle.rule_match.proofs.laws.accepting_is_matching.Goals as goal

pub returns : goal.returns
returns c = accepting
