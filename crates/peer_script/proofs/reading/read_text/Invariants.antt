use Rattle.std.proofs.Common.{◌≡◌, ◌+◌, ◌≤◌, length}
use Rattle.peer_script.specs.Script.{parts}
use Rattle.peer_script.specs.Reading.{read_lines, script_of, said}
use Rattle.peer_script.proofs.reading.read_text.Given as goal

abbrev pub invariant-loop-line : goal.invariant-loop-line
invariant-loop-line l =
    record {
      said : script_of l.text ≡ read_lines (record { stage = l.progress.stage; script = said l.progress }) l.number (parts l.rest);
      numbered : l.number + length l.rest ≤ 1 + length l.text;
    }

abbrev pub decreases-loop-line : goal.decreases-loop-line
decreases-loop-line l = length l.rest
