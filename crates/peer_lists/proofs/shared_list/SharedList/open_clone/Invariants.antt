-- So many messages were given back.
use Rattle.peer_lists.proofs.Cloning.{Fills}
use Rattle.peer_lists.proofs.shared_list.SharedList.open_clone.Given as goal

abbrev pub invariant-loop : goal.invariant-loop
invariant-loop l = Fills l.fn.self l.fn.original l.stream l.counter l.self
