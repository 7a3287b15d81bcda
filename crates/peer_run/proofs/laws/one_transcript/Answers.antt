use Rattle.peer_run.proofs.OneText.{one_text}
use Rattle.peer_run.proofs.laws.one_transcript.Goals as goal

pub returns : goal.returns
returns g c = λ functions first. one_text (record { meanings = g.R.Registry.meanings; first = first }) functions
