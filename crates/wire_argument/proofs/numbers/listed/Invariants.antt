use Rattle.std.proofs.Common.{◌≡◌, map, take}
use Rattle.wire_tree.specs.DatumView.{datum_of}
use Rattle.wire_argument.specs.Kinds.{bits_in}
use Rattle.wire_argument.proofs.numbers.listed.Given as goal

-- those so far are the first values
abbrev pub invariant-loop-each : goal.invariant-loop-each
invariant-loop-each g l = l.items.items ≡ map (λ d. g.T.Number.of_bits (bits_in d)) (map datum_of (take l.each-index l.trees))
