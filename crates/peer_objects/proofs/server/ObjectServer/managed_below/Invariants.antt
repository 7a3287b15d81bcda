-- The objects so far are told, in order.
use Rattle.std.proofs.Common.{◌≡◌, ◌++◌}
use Rattle.std.specs.List.{AllZip}
use Rattle.object_tree.specs.Objects.{below}
use Rattle.peer_objects.specs.Standard.{ManagesObject}
use Rattle.peer_objects.proofs.server.ObjectServer.managed_below.Given as goal

abbrev pub invariant-loop-object : goal.invariant-loop-object
invariant-loop-object g l = record {
  all : l.yielded ++ l.object-iterator.rest.items ≡ below l.self.0 l.path;
  told : AllZip (ManagesObject g.B.Interface.meaning g.B.Interface.state l.self.1) l.yielded l.list.items;
}
