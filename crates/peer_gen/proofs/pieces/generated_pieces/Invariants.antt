use Rattle.std.proofs.Common.{◌≡◌, flat_map}
use Rattle.peer_script.specs.Reading.{given}
use Rattle.peer_gen.specs.Generated.{first_blocks, block_source}
use Rattle.peer_gen.proofs.pieces.generated_pieces.Given as goal

abbrev pub invariant-loop-before : goal.invariant-loop-before
invariant-loop-before l = given l.pieces.items ≡ flat_map block_source (first_blocks l.count l.before)
