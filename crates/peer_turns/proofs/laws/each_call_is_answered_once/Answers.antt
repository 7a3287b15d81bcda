use Rattle.peer_turns.proofs.Replies.{once}
use Rattle.peer_turns.proofs.laws.each_call_is_answered_once.Goals as goal

pub returns : goal.returns
returns g c = λ setting first last newer e older m. once setting (record { meanings = g.R.Registry.meanings; first = first }) last newer e older m
