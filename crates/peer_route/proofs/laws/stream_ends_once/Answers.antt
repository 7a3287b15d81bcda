use Rattle.peer_route.proofs.Drained.{ended}
use Rattle.peer_route.proofs.laws.stream_ends_once.Goals as goal

pub returns : goal.returns
returns c = ended
