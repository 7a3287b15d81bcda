use Rattle.std.proofs.Common.{arith}
use Rattle.peer_script.proofs.Heads.{no_words, more_words}
use Rattle.peer_script.proofs.line.head_line.Goals as goal
use Rattle.peer_script.proofs.line.head_line.Goals.{in_default-via-then-words-lt1, in_default-via-else-words-lt1+else-words-lt2+else-words-lt3}

pub returns-in_default : goal.returns-in_default
returns-in_default c = elim c.in_default.branch [
  | in_default-via-then-words-lt1 w ↦ no_words _ _ (grind arith)
  | in_default-via-else-words-lt1+else-words-lt2+else-words-lt3 w ↦ more_words _ _ (grind arith)
]
