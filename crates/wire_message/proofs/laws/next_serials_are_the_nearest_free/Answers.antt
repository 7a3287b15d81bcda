use Rattle.wire_message.proofs.Nearest.{nearest, none_left}
use Rattle.wire_message.proofs.laws.next_serials_are_the_nearest_free.Goals as goal

pub returns-clause-next : goal.returns-clause-next
returns-clause-next c = nearest

pub returns-clause-none : goal.returns-clause-none
returns-clause-none c = none_left
