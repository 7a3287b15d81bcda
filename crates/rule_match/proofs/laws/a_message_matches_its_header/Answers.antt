use Rattle.rule_match.proofs.Own.{own_header}
use Rattle.rule_match.proofs.laws.a_message_matches_its_header.Goals as goal

pub returns : goal.returns
returns c = own_header
