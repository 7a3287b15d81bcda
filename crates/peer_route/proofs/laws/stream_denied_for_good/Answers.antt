use Rattle.peer_route.proofs.ClosedStreams.{denied_for_good}
use Rattle.peer_route.proofs.laws.stream_denied_for_good.Goals as goal

pub returns : goal.returns
returns c = denied_for_good
