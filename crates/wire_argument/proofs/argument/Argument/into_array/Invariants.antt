use Rattle.std.proofs.Common.{◌≡◌, map}
use Rattle.wire_tree.specs.DatumView.{datum_of}
use Rattle.wire_argument.proofs.argument.Argument.into_array.Given as goal

abbrev pub invariant-loop-item : goal.invariant-loop-item
invariant-loop-item g l = (map datum_of l.trees.items ≡ map g.Self.Argument.datum l.yielded) × (map g.Self.Argument.read (map g.Self.Argument.datum l.yielded) ≡ l.yielded)
