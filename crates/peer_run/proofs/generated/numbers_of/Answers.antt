-- The numbers are those of a history of the generated script.
use Rattle.std.proofs.Common.{◌∙◌, ap, length}
use Rattle.peer_script.specs.Reading.{script_with}
use Rattle.peer_turns.specs.Objects.{handed}
use Rattle.peer_run.proofs.Numbered.{is_generated}
use Rattle.peer_run.proofs.generated.numbers_of.Goals as goal

pub returns : goal.returns
returns g c = is_generated (handed g.B.Interface.meaning g.B.Interface.state c.args.boxes.items) _ c.args.count _ _ _ _
    (ap (script_with c.in_ok-setup.setup) c.as_slice.ensures.value ∙ c.in_ok-setup.ensures.exact) c.in_ok-transcript.ensures (ap length c.bytes.ensures)
    (rw (c.new-text.ensures.items, c.as_slice-2.ensures.value) at c.in_ok-put_gen_line.ensures)
