-- The interfaces so far are told, in order.
use Rattle.std.proofs.Common.{◌≡◌, ◌++◌}
use Rattle.std.specs.List.{AllZip}
use Rattle.object_interface.specs.declared.description.DescribedInterface.{DescribedInterface}
use Rattle.peer_objects.specs.Standard.{Describes}
use Rattle.peer_objects.proofs.server.ObjectServer.tell.Given as goal

abbrev pub invariant-loop-name : goal.invariant-loop-name
invariant-loop-name g l = record {
  all : l.yielded ++ l.name-iterator.rest.items ≡ l.object.1;
  told : AllZip (λ row (i : DescribedInterface). (i.name ≡ row.0) × Describes g.B.Interface.meaning g.B.Interface.state l.self.1 row i.description) l.yielded l.interfaces;
}
