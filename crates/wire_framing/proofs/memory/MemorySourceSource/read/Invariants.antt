use Rattle.std.proofs.Common.{◌≡◌, length}
use Rattle.wire_framing.specs.Memory.{source_view, next_piece}
use Rattle.wire_framing.proofs.memory.MemorySourceSource.read.Given as goal

abbrev pub invariant-loop-piece : goal.invariant-loop-piece
invariant-loop-piece l =
    let old = source_view l.initial.self in
    let now = source_view l.self in
    record {
      left : now.left ≡ old.left;
      stop : now.stop ≡ old.stop;
      faults : l.self.faults ≡ l.initial.self.faults;
      asked : l.self.asked ≡ l.initial.self.asked;
      widest : l.self.widest ≡ l.initial.self.widest;
      next : next_piece l.self.piece.now l.self.pieces.now ≡ next_piece l.initial.self.piece.now l.initial.self.pieces.now;
    }

abbrev pub decreases-loop-piece : goal.decreases-loop-piece
decreases-loop-piece l = length l.self.pieces.now
