-- So many fronts were read, and the lines of their messages were written.
use Rattle.std.proofs.Common.{◌≡◌, ◌≤◌, ◌-◌, ◌^◌, [], IfSome}
use Rattle.wire_framing.specs.Source.{Widens}
use Rattle.watch_tool.proofs.Appending.{GainsSome}
use Rattle.watch_tool.proofs.Went.{Went}
use Rattle.watch_tool.proofs.monitoring.watch.Given as goal

abbrev pub invariant-loop-fronts : goal.invariant-loop-fronts
invariant-loop-fronts g l = record {
  few : l.count ≤ l.fronts;
  within : l.fronts ≤ 2 ^ 64 - 2;
  empty : l.kept.items ≡ [];
  went : IfSome (g.S.Source.view l.initial.half.source).left (λ bytes. Went l.rules bytes l.fronts l.count (g.S.Source.view l.initial.half.source) (g.S.Source.view l.half.source)
      (g.K.Sink.view l.initial.sink) (g.K.Sink.view l.sink));
  source : (g.S.Source.view l.initial.half.source).faults ≤ (g.S.Source.view l.half.source).faults;
  sink : (g.K.Sink.view l.sink).faults ≡ (g.K.Sink.view l.initial.sink).faults;
  width : Widens (g.S.Source.view l.initial.half.source) (g.S.Source.view l.half.source) 65536;
  from : g.S.Source.lent l.half.source ≡ g.S.Source.lent l.initial.half.source;
  appends : GainsSome (g.K.Sink.view l.initial.sink) (g.K.Sink.view l.sink);
  uncounted : (g.K.Sink.view l.sink).closes ≡ (g.K.Sink.view l.initial.sink).closes;
  fds : g.K.Sink.takes l.sink ≡ g.K.Sink.takes l.initial.sink;
  to : g.K.Sink.lent l.sink ≡ g.K.Sink.lent l.initial.sink;
}

abbrev pub decreases-loop-fronts : goal.decreases-loop-fronts
decreases-loop-fronts g l = 2 ^ 64 - 2 - l.fronts
