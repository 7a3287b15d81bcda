use Rattle.std.proofs.Common.{take}
use Rattle.wire_tree.specs.Datum.{entry, entry_type}
use Rattle.wire_argument.specs.Kinds.{both}
use Rattle.wire_argument.proofs.Dicts.{Checked}
use Rattle.wire_argument.proofs.dict.DictArgument.check.Given as goal

-- what the check of the first entries found
abbrev pub invariant-loop-each : goal.invariant-loop-each
invariant-loop-each g l =
    Checked (λ e. entry (both g.K.Argument.datum g.V.Argument.datum e)) (λ e. both g.K.Argument.read g.V.Argument.read (both g.K.Argument.datum g.V.Argument.datum e))
    (entry_type g.K.Key.basic g.V.Argument.kind) (take l.each-index l.each-items) l.room l.deep
