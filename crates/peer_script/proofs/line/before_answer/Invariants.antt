use Rattle.std.proofs.Common.{◌≡◌, ◌++◌, ◌-◌, ◌≤◌, length, take, drop}
use Rattle.peer_script.specs.Script.{before_answer}
use Rattle.peer_script.proofs.line.before_answer.Given as goal

abbrev pub invariant-loop-at : goal.invariant-loop-at
invariant-loop-at l = (l.at ≤ length l.line) × (before_answer l.line ≡ take l.at l.line ++ before_answer (drop l.at l.line))

abbrev pub decreases-loop-at : goal.decreases-loop-at
decreases-loop-at l = length l.line - l.at
