use Rattle.peer_route.proofs.Spoken.{refused_changes_nothing}
use Rattle.peer_route.proofs.laws.refused_changes_nothing.Goals as goal

pub returns : goal.returns
returns c = refused_changes_nothing
