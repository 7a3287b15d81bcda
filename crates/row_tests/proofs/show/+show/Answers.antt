use Rattle.std.proofs.Common.{arith}
use Rattle.wire_tree.proofs.Parts.{size_item, size_pair}
use Rattle.row_tests.proofs.show.+show.Goals as goal

pub show_all-show-requires : goal.show_all-show-requires
show_all-show-requires t c =
    (omega (arith, size_item c.args.trees.now c.loop-each.each-index c.each-item.result c.loop-each-test.true c.each-item.is), tt)

pub show_pairs-show-requires : goal.show_pairs-show-requires
show_pairs-show-requires t c =
    (omega (arith, size_pair c.args.pairs.now c.loop-each.each-index c.each-item.result c.loop-each-test.true c.each-item.is), tt)

pub show_pairs-show-requires-in-loop-each : goal.show_pairs-show-requires-in-loop-each
show_pairs-show-requires-in-loop-each t c =
    (omega (arith, size_pair c.args.pairs.now c.loop-each.each-index c.each-item.result c.loop-each-test.true c.each-item.is), tt)
