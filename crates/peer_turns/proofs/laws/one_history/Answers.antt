use Rattle.peer_turns.proofs.Transcripts.{same_history}
use Rattle.peer_turns.proofs.laws.one_history.Goals as goal

pub returns : goal.returns
returns g c = λ functions setting first one other es fs stop bytes room. same_history setting (record { meanings = g.R.Registry.meanings; first = first }) one other es fs stop bytes room functions
