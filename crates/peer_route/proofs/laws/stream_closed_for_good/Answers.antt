use Rattle.peer_route.proofs.ClosedStreams.{closed_for_good}
use Rattle.peer_route.proofs.laws.stream_closed_for_good.Goals as goal

pub returns : goal.returns
returns c = closed_for_good
