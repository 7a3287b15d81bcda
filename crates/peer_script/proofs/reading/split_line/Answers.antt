use Rattle.std.proofs.Common.{arith, length, length-take, length-drop}
use Rattle.peer_script.proofs.Lines.{parts_at, no_end, none_before, is_end}
use Rattle.peer_script.proofs.reading.split_line.Goals as goal

pub returns : goal.returns
returns c =
    let text = c.args.text.now in
    let at = c.in-Some.at in
    let first = c.in-Some.ensures in (
      parts_at at text first.0.high (none_before at text (omega (arith, first.0.high)) first.0.before) (is_end _ first.1),
      simp (length-take, length-drop) (omega (arith, first.0.high)),
    )

pub returns-in_default : goal.returns-in_default
returns-in_default c =
    let text = c.args.text.now in
    no_end (length text) text (omega arith) (none_before (length text) text (omega arith) c.in_default.ensures)
