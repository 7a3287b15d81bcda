use Rattle.peer_script.proofs.Written.{nothing_written, some_text}
use Rattle.peer_script.proofs.transcript.write_transcript.Goals as goal

pub returns-clause-text : goal.returns-clause-text
returns-clause-text g c = nothing_written (Unit {0}) _ _ (some_text _ _ _)
