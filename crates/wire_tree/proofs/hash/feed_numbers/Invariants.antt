use Rattle.std.proofs.Common.{◌≡◌, fold, map, take}
use Rattle.wire_tree.specs.Datum.{data_of, num}
use Rattle.wire_tree.specs.Equal.{writes_of}
use Rattle.wire_tree.specs.Packed.{numbers_bits, numbers_type}
use Rattle.wire_tree.proofs.hash.feed_numbers.Given as goal

abbrev pub invariant-loop-i : goal.invariant-loop-i
invariant-loop-i g l = (l.state ≡ fold g.H.Hasher.write l.initial.state (writes_of (data_of (map (num (numbers_type l.numbers)) (take l.i (numbers_bits l.numbers))))))
