-- The interfaces so far but the standard ones are told, in order.
use Rattle.std.proofs.Common.{◌≡◌, ◌++◌, ℕ, List, filter, not}
use Rattle.std.specs.List.{AllZip}
use Rattle.object_tree.specs.Standard.{is_standard}
use Rattle.peer_objects.specs.Standard.{ManagesInterface}
use Rattle.peer_objects.proofs.server.ObjectServer.manage.Given as goal

abbrev pub invariant-loop-name : goal.invariant-loop-name
invariant-loop-name g l = record {
  all : l.yielded ++ l.name-iterator.rest.items ≡ l.object.1;
  told : AllZip (ManagesInterface g.B.Interface.meaning g.B.Interface.state l.self.1) (filter (λ (row : List ℕ × ℕ). not (is_standard row.0)) l.yielded) l.interfaces;
}
