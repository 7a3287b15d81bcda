use Rattle.std.proofs.Common.{◌≡◌, ◌-◌, take}
use Rattle.wire_argument.proofs.Passing.{Passing}
use Rattle.wire_argument.proofs.array.check_each.Given as goal

-- what was found of the items so far
abbrev pub invariant-loop-item : goal.invariant-loop-item
invariant-loop-item g l = Passing g.T.Argument.datum g.T.Argument.read l.deep l.room (take l.item-index l.items) × (l.inner ≡ l.room - 1)
