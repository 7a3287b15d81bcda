use Rattle.std.proofs.Common.{◌≡◌, length}
use Rattle.std.specs.Io.KnownBytes.{prepend_known}
use Rattle.peer_words.specs.Hex.{hex_pairs}
use Rattle.peer_words.proofs.hex.read_hex.Given as goal

abbrev pub invariant-loop-rest : goal.invariant-loop-rest
invariant-loop-rest l = prepend_known l.bytes.items (hex_pairs l.rest) ≡ hex_pairs l.word

abbrev pub decreases-loop-rest : goal.decreases-loop-rest
decreases-loop-rest l = length l.rest
