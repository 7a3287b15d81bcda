use Rattle.object_standard.proofs.Ascending.{each_ascending}
use Rattle.object_standard.proofs.standing_interfaces.standing.Goals as goal

pub returns-clause-ascending : goal.returns-clause-ascending
returns-clause-ascending c = each_ascending c.described.result (λ list. list.items) c.described.ensures
