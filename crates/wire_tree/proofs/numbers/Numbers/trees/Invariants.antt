use Rattle.std.proofs.Common.{◌≡◌, map, take}
use Rattle.wire_tree.specs.Datum.{num}
use Rattle.wire_tree.specs.DatumView.{datum_of}
use Rattle.wire_tree.specs.Packed.{numbers_bits, numbers_type}
use Rattle.wire_tree.proofs.numbers.Numbers.trees.Given as goal

-- the trees so far are those of the first numbers
abbrev pub invariant-loop-index : goal.invariant-loop-index
invariant-loop-index l = map datum_of l.trees.items ≡ map (num (numbers_type l.self)) (take l.index (numbers_bits l.self))
