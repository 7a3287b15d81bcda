use Rattle.std.proofs.Common.{length, ◌-◌, ◌≡◌, ◌≤◌, take}
use Rattle.std.specs.Io.KnownBytes.{Appends}
use Rattle.wire_framing.specs.Sink.{RoomFalls}
use Rattle.wire_framing.proofs.sink.write_front.Given as goal

abbrev pub invariant-loop-at : goal.invariant-loop-at
invariant-loop-at g l =
    let old = g.W.Sink.view l.initial.sink in
    let now = g.W.Sink.view l.sink in
    record {
      within : l.at ≤ length l.bytes;
      gone : Appends old.held now.held (take l.at l.bytes);
      room : RoomFalls old.room now.room l.at;
      faults : now.faults ≡ old.faults;
      closes : now.closes ≡ old.closes;
      fds : g.W.Sink.takes l.sink ≡ g.W.Sink.takes l.initial.sink;
      same : g.W.Sink.lent l.sink ≡ g.W.Sink.lent l.initial.sink;
    }

abbrev pub decreases-loop-at : goal.decreases-loop-at
decreases-loop-at g l = length l.bytes - l.at
