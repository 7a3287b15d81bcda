use Rattle.std.proofs.Common.{◌≡◌, map, take}
use Rattle.wire_argument.proofs.numbers.converted.Given as goal

-- those so far have the bits of the first items, of which each is what its bits are
abbrev pub invariant-loop-each : goal.invariant-loop-each
invariant-loop-each g l =
    (map g.U.Number.bits l.others.items ≡ map g.T.Number.bits (take l.each-index l.items))
    × (map g.T.Number.of_bits (map g.T.Number.bits (take l.each-index l.items)) ≡ take l.each-index l.items)
