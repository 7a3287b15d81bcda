use Rattle.peer_turns.proofs.Replies.{one_changes}
use Rattle.peer_turns.proofs.laws.a_call_changes_one_object.Goals as goal

pub returns : goal.returns
returns g c = λ setting first last e older m. one_changes setting (record { meanings = g.R.Registry.meanings; first = first }) last e older m
