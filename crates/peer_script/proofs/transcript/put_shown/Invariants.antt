use Rattle.std.proofs.Common.{◌≡◌, ◌++◌, ◌≤◌, take, drop}
use Rattle.peer_script.specs.Transcript.{shown_text}
use Rattle.peer_script.proofs.transcript.put_shown.Given as goal

-- what was put, and what is still to be put as it is, are what the bytes so far are shown as
abbrev pub invariant-loop-at : goal.invariant-loop-at
invariant-loop-at l = (l.from ≤ l.at) × (l.text.items ++ drop l.from (take l.at l.bytes) ≡ l.initial.text.items ++ shown_text (take l.at l.bytes))
