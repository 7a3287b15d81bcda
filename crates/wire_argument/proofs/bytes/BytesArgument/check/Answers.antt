use Rattle.std.proofs.Common.{arith}
use Rattle.wire_tree.specs.Datum.{byte}
use Rattle.wire_tree.proofs.Packed.{numbers-elements}
use Rattle.wire_codec.proofs.DepthLaws.{packed_depths}
use Rattle.wire_argument.proofs.ByteReads.{bytes_back}
use Rattle.wire_argument.proofs.bytes.BytesArgument.check.Goals as goal

pub returns-then-room-gt0-clause-told : goal.returns-then-room-gt0-clause-told
returns-then-room-gt0-clause-told c = (numbers-elements byte c.args.self.now c.as_slice-bytes.ensures.bytes, omega (arith, packed_depths byte c.args.self.now))

pub returns-then-room-gt0-clause-round : goal.returns-then-room-gt0-clause-round
returns-then-room-gt0-clause-round c = bytes_back c.args.self.now

pub returns-else-room-gt0-clause-told : goal.returns-else-room-gt0-clause-told
returns-else-room-gt0-clause-told c = (numbers-elements byte c.args.self.now c.as_slice-bytes.ensures.bytes, omega (arith, packed_depths byte c.args.self.now))
