-- Those that came have their numbers, and the others are still to come.
use Rattle.std.proofs.Common.{◌≡◌, ◌++◌}
use Rattle.peer_service.specs.Service.{shelf_from}
use Rattle.peer_service.proofs.shelf.numbered.Given as goal

abbrev pub invariant-loop-object : goal.invariant-loop-object
invariant-loop-object g l =
    (l.shelf.items ≡ shelf_from g.B.Interface.state 0 l.yielded) × (l.yielded ++ l.object-iterator.rest.items ≡ l.fn.boxes.items)
