use Rattle.peer_route.proofs.Read.{once}
use Rattle.peer_route.proofs.laws.answered_once.Goals as goal

pub returns : goal.returns
returns c = once
