use Rattle.std.proofs.Common.{drop}
use Rattle.wire_tree.specs.Datum.{data_of}
use Rattle.wire_codec.proofs.Writes.{Writing}
use Rattle.wire_body.proofs.bodies.write_each.Given as goal

-- whatever a writing of the values that are left does, it is a writing of all
abbrev pub invariant-loop-value : goal.invariant-loop-value
invariant-loop-value l = Writing (data_of l.values) (data_of (drop l.value-index l.values)) l.fn.encoder l.encoder
