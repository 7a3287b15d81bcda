use Rattle.std.proofs.Common.{refl, inl, inr}
use Rattle.peer_turns.specs.Objects.{handed}
use Rattle.peer_run.specs.Program.{InputFault}
use Rattle.peer_run.proofs.Closing.{says_ends, only_memory, limit_of, line_of, not_passed}
use Rattle.peer_run.proofs.scripted.run_script.Goals as goal

pub returns-in-Err-Limit : goal.returns-in-Err-Limit
returns-in-Err-Limit g c = says_ends _ _ _ _ 3 _ (limit_of (handed g.B.Interface.meaning g.B.Interface.state c.args.boxes.items) _ _ (rw c.in-Err-Limit.field-0-is at c.in-Err-Limit.ensures.told)) c.say-in-Err-Limit.ensures

pub returns-in-Err-Memory : goal.returns-in-Err-Memory
returns-in-Err-Memory g c = only_memory _ _ _ _ c.say_memory.ensures

pub returns-in-Err-InputFault : goal.returns-in-Err-InputFault
returns-in-Err-InputFault g c = says_ends _ _ _ _ 4 _ (InputFault refl (rw c.in-Err-InputFault.field-0-is at c.in-Err-InputFault.ensures.faults) (not_passed _ (g.I.Source.view c.args.input.now) (rw c.in-Err-InputFault.field-0-is at c.in-Err-InputFault.ensures.limit)) refl) c.say.ensures

pub returns : goal.returns
returns g c =
    let is = line_of (handed g.B.Interface.meaning g.B.Interface.state c.args.boxes.items) _ _ _ (rw c.in-Err-Line.field-0-is at c.in-Err-Line.ensures.faults).0 (rw c.in-Err-Line.field-0-is at c.in-Err-Line.ensures.told) in
    elim c.say_line.ensures [
      | inl says ↦ says_ends _ _ _ _ 3 _ is says
      | inr says ↦ only_memory _ _ _ _ says
    ]

pub returns-in-Ok : goal.returns-in-Ok
returns-in-Ok g c =
    c.run_commands.ensures (g.I.Source.view c.args.input.now) (g.I.Source.view c.read_script.new.input) c.in-Ok.ensures.faults.0 (rw (c.as_slice.ensures.value) c.in-Ok.ensures.told)
