use Rattle.std.proofs.Common.{refl, inl}
use Rattle.peer_turns.specs.Objects.{handed}
use Rattle.peer_run.specs.Program.{Whole, Failed}
use Rattle.peer_run.proofs.Closing.{tells, transcript_of, part_memory, only_memory}
use Rattle.peer_run.proofs.scripted.run_commands.Goals as goal

pub returns-in-Ok-write_transcript : goal.returns-in-Ok-write_transcript
returns-in-Ok-write_transcript g c = λ before after told read.
    let w = c.in-Ok-write_transcript.ensures.text in
    Whole _ (transcript_of (handed g.B.Interface.meaning g.B.Interface.state c.args.boxes.items) before after _ _ told read (tells (handed g.B.Interface.meaning g.B.Interface.state c.args.boxes.items) c.args.setup.now c.args.commands.now _ _ _ c.in-Ok.ensures c.bytes.ensures)) w.0 w.2

pub returns-in-Err-Failed : goal.returns-in-Err-Failed
returns-in-Err-Failed g c = λ before after told read.
    let w = rw c.in-Err-Failed.field-0-is at c.in-Err-Failed.ensures.text in
    Failed refl w.1.2 (inl (0, _, transcript_of (handed g.B.Interface.meaning g.B.Interface.state c.args.boxes.items) before after _ _ told read (tells (handed g.B.Interface.meaning g.B.Interface.state c.args.boxes.items) c.args.setup.now c.args.commands.now _ _ _ c.in-Ok.ensures c.bytes.ensures), w.0, w.1.0))

pub returns-in-Ok : goal.returns-in-Ok
returns-in-Ok g c = λ before after told read.
    let w = rw c.in-Err-Memory-write_transcript.field-0-is at c.in-Err-Memory-write_transcript.ensures.text in
    part_memory _ _ _ _ 0 _ _ w.0 (transcript_of (handed g.B.Interface.meaning g.B.Interface.state c.args.boxes.items) before after _ _ told read (tells (handed g.B.Interface.meaning g.B.Interface.state c.args.boxes.items) c.args.setup.now c.args.commands.now _ _ _ c.in-Ok.ensures c.bytes.ensures)) w.1.0 w.1.2 c.say_memory.ensures

pub returns : goal.returns
returns g c = λ before after told read. only_memory _ _ _ _ c.say_memory-in-Err-Memory.ensures
