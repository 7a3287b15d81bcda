use Rattle.std.proofs.Common.{◌<◌, length, arith}
use Rattle.rule_match.proofs.FoundTexts.{set_kept}
use Rattle.rule_match.proofs.found.FoundTexts.keep.Goals as goal

pub returns-then-index-lt-ARGUMENTS : goal.returns-then-index-lt-ARGUMENTS
returns-then-index-lt-ARGUMENTS c = λ k low. let within : c.args.index < length c.args.self.now.texts = omega (arith, c.args.self.now.whole) in set_kept c.args.self.now.texts c.args.index k c.args.text within
