-- So many messages of the entry were written, and none failed.
use Rattle.std.proofs.Common.{◌≡◌, ◌≤◌, ◌-◌, false, length}
use Rattle.peer_route.specs.{Replay.Replay, Plan.plan, Entries.past_after}
use Rattle.peer_conn.specs.Going.{Going, NoneWaits}
use Rattle.wire_framing.specs.Views.{SinkView}
use Rattle.peer_run.specs.Runs.{Sinks, Flushed, IsFine, IsUnfailed}
use Rattle.peer_run.proofs.writing.write_each.Given as goal

abbrev pub invariant-loop-message : goal.invariant-loop-message
invariant-loop-message g l = record {
  unfailed : l.entry.failed ≡ false;
  entry : l.entry ≡ record l.initial.entry { written = l.entry.written };
  within : l.entry.written ≤ length l.entry.put;
  goes : (t : Replay) → Going l.initial.state t l.initial.entry → NoneWaits t.past → Going l.state t l.entry;
  flushed : (start : SinkView) (t : Replay) → Going l.initial.state t l.initial.entry → NoneWaits t.past → t.setting.takes_fds ≡ g.W.Sink.takes l.initial.half.sink → IsUnfailed t.past.outbox
      → IsFine t.past.outbox.writer l.initial.half.writing → Sinks start (g.W.Sink.view l.initial.half.sink) t.past.outbox
      → Flushed start (g.W.Sink.view l.initial.half.sink) (g.W.Sink.view l.half.sink)
      (past_after (plan t l.initial.entry.lane l.initial.entry.words) l.entry t.past).outbox false l.half.writing;
  grows : (g.W.Sink.view l.initial.half.sink).faults ≤ (g.W.Sink.view l.half.sink).faults;
  takes : g.W.Sink.takes l.half.sink ≡ g.W.Sink.takes l.initial.half.sink;
  uncounted : (g.W.Sink.view l.half.sink).closes ≡ (g.W.Sink.view l.initial.half.sink).closes;
  same : g.W.Sink.lent l.half.sink ≡ g.W.Sink.lent l.initial.half.sink;
}

abbrev pub decreases-loop-message : goal.decreases-loop-message
decreases-loop-message g l = length l.entry.put - l.entry.written
