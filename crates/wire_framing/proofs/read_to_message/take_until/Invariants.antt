use Rattle.std.proofs.Common.{length, ◌-◌, ◌≡◌, ◌≤◌, ◌⊎◌, ◌++◌, drop}
use Rattle.wire_framing.specs.Source.{Asks, Widens}
use Rattle.wire_framing.proofs.Steps.{Went}
use Rattle.wire_framing.proofs.read_to_message.take_until.Given as goal

abbrev pub invariant-loop-bytes : goal.invariant-loop-bytes
invariant-loop-bytes g l =
    record {
      own : (l.bytes.items ≡ l.initial.bytes.items) ⊎ (length l.bytes.items ≤ l.total);
      grown : l.bytes.items ≡ l.initial.bytes.items ++ drop (length l.initial.bytes.items) l.bytes.items;
      went : Went (drop (length l.initial.bytes.items) l.bytes.items) (g.S.Source.view l.initial.source) (g.S.Source.view l.source);
      asks : Asks (g.S.Source.view l.initial.source) (g.S.Source.view l.source) (length (drop (length l.initial.bytes.items) l.bytes.items));
      width : Widens (g.S.Source.view l.initial.source) (g.S.Source.view l.source) 65536;
      same : g.S.Source.lent l.source ≡ g.S.Source.lent l.initial.source;
    }

abbrev pub decreases-loop-bytes : goal.decreases-loop-bytes
decreases-loop-bytes g l = l.total - length l.bytes.items
