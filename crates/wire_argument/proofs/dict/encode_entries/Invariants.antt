use Rattle.std.proofs.Common.{map, drop}
use Rattle.wire_tree.specs.Datum.{data_of, entries_of, entry}
use Rattle.wire_codec.proofs.Writes.{Writing}
use Rattle.wire_argument.specs.Kinds.{both}
use Rattle.wire_argument.proofs.dict.encode_entries.Given as goal

-- whatever a writing of the entries that are left does, it is a writing of all
abbrev pub invariant-loop-each : goal.invariant-loop-each
invariant-loop-each g l =
    Writing (entries_of (map (both g.K.Argument.datum g.V.Argument.datum) l.entries))
    (data_of (map (λ e. entry (both g.K.Argument.datum g.V.Argument.datum e)) (drop l.each-index l.entries))) l.fn.encoder l.encoder
