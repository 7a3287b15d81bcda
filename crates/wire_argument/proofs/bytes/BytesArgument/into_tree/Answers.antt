use Rattle.wire_argument.proofs.ByteReads.{bytes_back}
use Rattle.wire_argument.proofs.bytes.BytesArgument.into_tree.Goals as goal

pub returns-clause-round : goal.returns-clause-round
returns-clause-round c = bytes_back c.args.self
