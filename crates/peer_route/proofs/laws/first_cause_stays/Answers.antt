use Rattle.peer_route.proofs.Writers.{writer_stays, closing_stays}
use Rattle.peer_route.proofs.laws.first_cause_stays.Goals as goal

pub returns : goal.returns
returns c = record { closing = closing_stays; writer = writer_stays }
