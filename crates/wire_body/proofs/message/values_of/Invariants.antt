use Rattle.std.proofs.Common.{◌≡◌, ◌++◌, map}
use Rattle.wire_tree.specs.Datum.{type_of}
use Rattle.wire_tree.specs.DatumView.{datum_of}
use Rattle.wire_body.specs.Arguments.{AllAreTypes, AreAllWellTyped}
use Rattle.wire_body.proofs.message.values_of.Given as goal

abbrev pub invariant-loop-tree : goal.invariant-loop-tree
invariant-loop-tree l = record {
  so_far : l.values.items ≡ map datum_of l.yielded;
  well_typed : AreAllWellTyped (map datum_of l.yielded);
  types : AllAreTypes (map type_of (map datum_of l.tree-iterator.rest.items));
  all : l.yielded ++ l.tree-iterator.rest.items ≡ l.fn.trees.items;
}
