use Rattle.rule_match.proofs.Utf8.{agree}
use Rattle.rule_match.proofs.laws.bytes_and_texts_agree.Goals as goal

pub returns : goal.returns
returns c = agree
