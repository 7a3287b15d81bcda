use Rattle.std.proofs.Common.{◌≡◌, map}
use Rattle.wire_tree.specs.DatumView.{pair_of}
use Rattle.wire_argument.specs.Kinds.{both}
use Rattle.wire_argument.proofs.dict.trees_of.Given as goal

abbrev pub invariant-loop-entry : goal.invariant-loop-entry
invariant-loop-entry g l =
    (map pair_of l.trees.items ≡ map (both g.K.Argument.datum g.V.Argument.datum) l.yielded)
    × (map (both g.K.Argument.read g.V.Argument.read) (map (both g.K.Argument.datum g.V.Argument.datum) l.yielded) ≡ l.yielded)
