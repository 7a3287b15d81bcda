use Rattle.std.proofs.Common.{arith}
use Rattle.wire_message.proofs.Alone.{unsupported_of, ignored_of}
use Rattle.wire_message.proofs.message.Message.from_bytes.Goals as goal

pub returns-clause-unsupported : goal.returns-clause-unsupported
returns-clause-unsupported c = unsupported_of c.args.order c.args.bytes.now c.whole_of.result (λ i. omega (arith, c.type_inv.bytes i)) c.whole_of.ensures

pub returns-clause-ignored : goal.returns-clause-ignored
returns-clause-ignored c = ignored_of c.args.order c.args.bytes.now c.whole_of.result c.whole_of.ensures
