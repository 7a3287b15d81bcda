use Rattle.peer_route.proofs.Read.{spent_other, poll_other}
use Rattle.peer_route.proofs.laws.spent_changes_no_other.Goals as goal

pub returns : goal.returns
returns c = record { event = spent_other; entry = poll_other }
