use Rattle.std.proofs.Common.{◌≡◌, map, take}
use Rattle.wire_tree.specs.Packed.{numbers_bits}
use Rattle.wire_argument.proofs.numbers.unpacked.Given as goal

-- those so far are the first numbers
abbrev pub invariant-loop-index : goal.invariant-loop-index
invariant-loop-index g l = l.items.items ≡ map g.T.Number.of_bits (take l.index (numbers_bits l.numbers))
