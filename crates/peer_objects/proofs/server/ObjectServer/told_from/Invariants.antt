-- The objects so far are told, in order.
use Rattle.std.proofs.Common.{◌≡◌, ◌++◌}
use Rattle.std.specs.List.{AllZip}
use Rattle.object_tree.specs.Objects.{from_path}
use Rattle.peer_objects.specs.Standard.{TellsObject}
use Rattle.peer_objects.proofs.server.ObjectServer.told_from.Given as goal

abbrev pub invariant-loop-object : goal.invariant-loop-object
invariant-loop-object g l = record {
  all : l.yielded ++ l.object-iterator.rest.items ≡ from_path l.self.0 l.path;
  told : AllZip (TellsObject g.B.Interface.meaning g.B.Interface.state l.self.1) l.yielded l.list.items;
}
