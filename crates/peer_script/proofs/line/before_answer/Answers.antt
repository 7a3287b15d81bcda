use Rattle.std.proofs.Common.{arith}
use Rattle.peer_script.proofs.Lines.{before_end}
use Rattle.peer_script.proofs.line.before_answer.Goals as goal

pub returns : goal.returns
returns c = before_end c.loop-at.at c.args.line.now (omega arith) c.loop-at.invariant.1
