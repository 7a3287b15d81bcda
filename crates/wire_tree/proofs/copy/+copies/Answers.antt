use Rattle.std.proofs.Common.{arith}
use Rattle.wire_tree.proofs.Parts.{size_item, size_pair}
use Rattle.wire_tree.proofs.copy.+copies.Goals as goal

pub copies_of-copy_of-requires : goal.copies_of-copy_of-requires
copies_of-copy_of-requires t c =
    (omega (arith, size_item c.args.trees.now c.loop-each.each-index c.each-item.result c.loop-each-test.true c.each-item.is), tt)

pub copies_of_pairs-copy_of-requires : goal.copies_of_pairs-copy_of-requires
copies_of_pairs-copy_of-requires t c =
    (omega (arith, size_pair c.args.pairs.now c.loop-each.each-index c.each-item.result c.loop-each-test.true c.each-item.is), tt)

pub copies_of_pairs-copy_of-requires-in-loop-each : goal.copies_of_pairs-copy_of-requires-in-loop-each
copies_of_pairs-copy_of-requires-in-loop-each t c =
    (omega (arith, size_pair c.args.pairs.now c.loop-each.each-index c.each-item.result c.loop-each-test.true c.each-item.is), tt)
