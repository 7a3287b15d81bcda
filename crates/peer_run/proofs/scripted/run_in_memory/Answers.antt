use Rattle.std.proofs.Common.{refl, ap, Some}
use Rattle.peer_run.specs.Names.{SourceView}
use Rattle.peer_turns.specs.Objects.{handed}
use Rattle.peer_run.proofs.InMemory.{in_memory}
use Rattle.peer_run.proofs.scripted.run_in_memory.Goals as goal

pub returns : goal.returns
returns g c = in_memory (handed g.B.Interface.meaning g.B.Interface.state c.args.boxes.items) _ _ _ _ _ c.args.setup.now.pieces.items _ _ _ _ _ _ _ c.in_ok-transcript.transcript.entries.items c.run_peer_of.new.sink.bytes.items c.requires.runs c.deref.ensures.value (ap (λ (v : SourceView). v.left) c.new-source.ensures) (ap (λ (v : SourceView). v.stop) c.new-source.ensures)
    (ap Some c.sink_of-sink.ensures.bytes) (ap Some c.sink_of-sink.ensures.room) refl c.sink_of-sink.ensures.fds c.in_ok-transcript.ensures.run
