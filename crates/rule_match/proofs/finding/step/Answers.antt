use Rattle.wire_number.specs.ReaderView.{cursor_of}
use Rattle.rule_match.proofs.Walks.{nothing_empty}
use Rattle.rule_match.proofs.finding.step.Goals as goal

pub returns-in_err-letter-clause-none : goal.returns-in_err-letter-clause-none
returns-in_err-letter-clause-none c = rw c.from_residual.ensures (nothing_empty c.args.order c.args.types.now (cursor_of c.args.reader) c.in_err-letter.ensures)
