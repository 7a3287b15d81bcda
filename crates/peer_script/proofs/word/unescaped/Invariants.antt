use Rattle.std.proofs.Common.{◌≡◌, length}
use Rattle.std.specs.Io.KnownBytes.{prepend_known}
use Rattle.peer_script.specs.Word.{unescaped}
use Rattle.peer_script.proofs.word.unescaped.Given as goal

abbrev pub invariant-loop-rest : goal.invariant-loop-rest
invariant-loop-rest l = prepend_known l.bytes.items (unescaped l.rest) ≡ unescaped l.word

abbrev pub decreases-loop-rest : goal.decreases-loop-rest
decreases-loop-rest l = length l.rest
