use Rattle.std.proofs.Common.{◌≡◌, map}
use Rattle.wire_tree.specs.Datum.{entries_of, entry_type, AreElements}
use Rattle.wire_tree.specs.DatumView.{pair_of}
use Rattle.wire_argument.specs.Kinds.{both}
use Rattle.wire_argument.proofs.dict.entries_read.Given as goal

abbrev pub invariant-loop-each : goal.invariant-loop-each
invariant-loop-each g l =
    (l.entries.items ≡ map (both g.K.Argument.read g.V.Argument.read) (map pair_of l.yielded))
    × AreElements (entry_type g.K.Key.basic g.V.Argument.kind) (entries_of (map pair_of l.each-iterator.rest.items))
