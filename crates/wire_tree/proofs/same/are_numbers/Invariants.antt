use Rattle.std.proofs.Common.{◌≡◌, length, map, take}
use Rattle.wire_tree.specs.Datum.{num}
use Rattle.wire_tree.specs.DatumView.{datum_of}
use Rattle.wire_tree.specs.Packed.{numbers_bits, numbers_type}
use Rattle.wire_tree.proofs.same.are_numbers.Given as goal

abbrev pub invariant-loop-i : goal.invariant-loop-i
invariant-loop-i l = (map datum_of (take l.i l.trees) ≡ map (num (numbers_type l.numbers)) (take l.i (numbers_bits l.numbers))) × (length l.trees ≡ length (numbers_bits l.numbers))
