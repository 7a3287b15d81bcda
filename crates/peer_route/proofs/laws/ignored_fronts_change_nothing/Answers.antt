use Rattle.peer_route.proofs.Passed.{entry}
use Rattle.peer_route.proofs.laws.ignored_fronts_change_nothing.Goals as goal

pub returns-clause-entry : goal.returns-clause-entry
returns-clause-entry c = entry
