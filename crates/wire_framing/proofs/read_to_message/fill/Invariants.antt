use Rattle.std.proofs.Common.{length, ◌-◌, ◌≡◌, ◌≤◌, take}
use Rattle.wire_framing.specs.Source.{Asks, Widens}
use Rattle.wire_framing.proofs.Steps.{Went}
use Rattle.wire_framing.proofs.read_to_message.fill.Given as goal

abbrev pub invariant-loop-at : goal.invariant-loop-at
invariant-loop-at g l =
    record {
      within : l.at ≤ length l.buf;
      kept : length l.buf ≡ length l.initial.buf;
      went : Went (take l.at l.buf) (g.S.Source.view l.initial.source) (g.S.Source.view l.source);
      asks : Asks (g.S.Source.view l.initial.source) (g.S.Source.view l.source) l.at;
      width : Widens (g.S.Source.view l.initial.source) (g.S.Source.view l.source) 65536;
      same : g.S.Source.lent l.source ≡ g.S.Source.lent l.initial.source;
    }

abbrev pub decreases-loop-at : goal.decreases-loop-at
decreases-loop-at g l = length l.initial.buf - l.at
