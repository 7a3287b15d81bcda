use Rattle.peer_route.proofs.Read.{dropped}
use Rattle.peer_route.proofs.laws.dropped_for_good.Goals as goal

pub returns : goal.returns
returns c = dropped
