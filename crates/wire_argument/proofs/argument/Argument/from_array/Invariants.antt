use Rattle.std.proofs.Common.{◌≡◌, map}
use Rattle.wire_tree.specs.Datum.{data_of, AreElements}
use Rattle.wire_tree.specs.DatumView.{datum_of}
use Rattle.wire_argument.proofs.argument.Argument.from_array.Given as goal

abbrev pub invariant-loop-each : goal.invariant-loop-each
invariant-loop-each g l =
    (l.items.items ≡ map g.Self.Argument.read (map datum_of l.yielded)) × AreElements g.Self.Argument.kind (data_of (map datum_of l.each-iterator.rest.items))
