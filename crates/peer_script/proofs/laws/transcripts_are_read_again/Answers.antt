use Rattle.peer_script.proofs.Readings.{reading_of_text}
use Rattle.peer_script.proofs.Reread.{transcript_again}
use Rattle.peer_script.proofs.laws.transcripts_are_read_again.Goals as goal

pub returns : goal.returns
returns c = λ s entries sent n q i o p e bytes. reading_of_text _ _ (transcript_again s entries sent n q i o p e bytes)
