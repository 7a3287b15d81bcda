use Rattle.wire_message.proofs.SerialOrder.{Searched}
use Rattle.wire_message.proofs.serials.next_after.Given as goal

abbrev pub invariant-loop : goal.invariant-loop
invariant-loop g l = Searched (g.T.Taken.is_taken l.taken) l.last l.counter l.candidate g.S.Counts.weight (g.S.Counts.counted l.initial.steps) (g.S.Counts.counted l.steps)
