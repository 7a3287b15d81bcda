use Rattle.std.proofs.Common.{arith}
use Rattle.wire_signature.specs.SingleType.{variant as any}
use Rattle.wire_number.specs.ReaderView.{cursor_of}
use Rattle.wire_encoding.proofs.Loops.{value_in_room}
use Rattle.wire_argument.proofs.TextReads.{none_held, given_held}
use Rattle.wire_argument.proofs.texts.ValueArgument.decode.Goals as goal

pub returns-then-room-eq0 : goal.returns-then-room-eq0
returns-then-room-eq0 c = none_held c.args.room c.args.order (cursor_of c.args.reader) (omega arith)

pub returns : goal.returns
returns c =
    rw (value_in_room c.args.room c.args.order any (cursor_of c.args.reader) (omega arith)) (given_held (λ x. x.0) (λ x. cursor_of x.1) c.read_inner.result _ c.read_inner.ensures)
