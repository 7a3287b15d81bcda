use Rattle.peer_calls.proofs.NextSerial.{next_is, none_is}
use Rattle.peer_calls.proofs.laws.drawn_serials_are_the_nearest_free.Goals as goal

pub returns-clause-next : goal.returns-clause-next
returns-clause-next c = next_is

pub returns-clause-none : goal.returns-clause-none
returns-clause-none c = none_is
