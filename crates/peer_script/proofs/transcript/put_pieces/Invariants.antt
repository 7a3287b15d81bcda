use Rattle.std.proofs.Common.{◌≡◌, ◌++◌, take}
use Rattle.std.specs.List.{flat_map}
use Rattle.peer_script.specs.Reading.{given}
use Rattle.peer_script.specs.Transcript.{given_text}
use Rattle.peer_script.proofs.transcript.put_pieces.Given as goal

abbrev pub invariant-loop-piece : goal.invariant-loop-piece
invariant-loop-piece l = l.text.items ≡ l.initial.text.items ++ flat_map given_text (given (take l.piece-index l.pieces))
