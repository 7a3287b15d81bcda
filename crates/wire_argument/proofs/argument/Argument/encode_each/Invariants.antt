use Rattle.std.proofs.Common.{map, drop}
use Rattle.wire_tree.specs.Datum.{data_of}
use Rattle.wire_codec.proofs.Writes.{Writing}
use Rattle.wire_argument.proofs.argument.Argument.encode_each.Given as goal

-- whatever a writing of the items that are left does, it is a writing of all
abbrev pub invariant-loop-each : goal.invariant-loop-each
invariant-loop-each g l =
    Writing (data_of (map g.Self.Argument.datum l.items)) (data_of (map g.Self.Argument.datum (drop l.each-index l.items))) l.fn.encoder l.encoder
