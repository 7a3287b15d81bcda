use Rattle.std.proofs.Common.{length}
use Rattle.wire_number.specs.ReaderView.{cursor_of}
use Rattle.wire_message.proofs.Stepping.{Going}
use Rattle.wire_message.proofs.reading.offsets_in.Given as goal

abbrev pub invariant-loop-left : goal.invariant-loop-left
invariant-loop-left l = Going l.order l.bytes l.fn.end l.offsets (cursor_of l.left)

abbrev pub decreases-loop-left : goal.decreases-loop-left
decreases-loop-left l = length l.left.rest.now
