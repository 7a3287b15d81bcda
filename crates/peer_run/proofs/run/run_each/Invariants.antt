use Rattle.std.proofs.Common.{◌≡◌, ◌≤◌, [], map, reverse, take}
use Rattle.peer_route.specs.Replay.{Setting}
use Rattle.peer_run.specs.{Names.{command_of}, Runs.{Begins, Running}}
use Rattle.peer_turns.specs.Objects.{AreServed}
use Rattle.peer_run.proofs.run.run_each.Given as goal

abbrev pub invariant-loop-command : goal.invariant-loop-command
invariant-loop-command g l = record {
  stands : (setting : Setting) → Begins setting l.initial.state (g.W.Sink.takes l.initial.writer.sink) l.initial.writer.writing → Running setting
      (g.S.Source.view l.initial.reader.source) (g.W.Sink.view l.initial.writer.sink) l.state (g.S.Source.view l.reader.source) (g.W.Sink.view l.writer.sink) l.writer.writing (reverse l.entries.items);
  objects : (setting : Setting) → Begins setting l.initial.state (g.W.Sink.takes l.initial.writer.sink) l.initial.writer.writing
      → AreServed setting (record { meanings = g.R.Registry.meanings; first = l.initial.service }) (reverse l.entries.items) l.service;
  commands : map command_of l.entries.items ≡ take l.command-index l.commands;
  takes : g.W.Sink.takes l.writer.sink ≡ g.W.Sink.takes l.initial.writer.sink;
  empty : l.kept.items ≡ [];
  from : g.S.Source.lent l.reader.source ≡ g.S.Source.lent l.initial.reader.source;
  to : g.W.Sink.lent l.writer.sink ≡ g.W.Sink.lent l.initial.writer.sink;
  source : (g.S.Source.view l.initial.reader.source).faults ≤ (g.S.Source.view l.reader.source).faults;
  sink : (g.W.Sink.view l.initial.writer.sink).faults ≤ (g.W.Sink.view l.writer.sink).faults;
}
