use Rattle.std.proofs.Common.{[], ◌++◌, false, codes, arith}
use Rattle.std.proofs.Output.{has_written_append, has_written_of_eq}
use Rattle.wire_tree.specs.DatumView.{datum_of}
use Rattle.wire_tree.specs.Printing.{datum_text}
use Rattle.wire_tree.proofs.Parts.{size_item, size_pair}
use Rattle.wire_tree.proofs.Printed.{written, item_written, all_written, texts_listed, pair_text, entries_listed}
use Rattle.wire_tree.proofs.display.+printed.Goals as goal

pub write_trees-write_tree-requires : goal.write_trees-write_tree-requires
write_trees-write_tree-requires g t c κs p =
    (omega (arith, size_item c.args.trees.now c.loop-i.i c.index-trees-i.result c.loop-i-test.true c.index-trees-i.is), p)

pub write_trees-loop-i-preserved : goal.write_trees-loop-i-preserved
write_trees-loop-i-preserved g t c = λ plain.
    let before = c.loop-i.invariant plain in
    let led = written _ _ _ _ c.in_ok-write_str.ensures.writes before.plain in
    item_written _ (λ told t. datum_text told (datum_of t)) c.args.trees.now _ _ _ _ c.args.first c.args.later c.loop-i.i c.index-trees-i.result _ c.told_at.result
    c.loop-i-test.true c.index-trees-i.is c.lead_at.ensures c.told_at.ensures before led (written _ _ _ _ c.in_ok-write_tree.ensures led.plain)

pub write_trees-returns : goal.write_trees-returns
write_trees-returns g t c = λ plain ok.
    has_written_of_eq _ _ _ _ _ (texts_listed datum_of c.args.trees.now [] c.args.first c.args.later)
    (all_written _ (λ told t. datum_text told (datum_of t)) c.args.trees.now _ _ c.args.first c.args.later c.loop-i.i c.loop-i-test.false (c.loop-i.invariant plain))

pub write_entries-write_tree-requires : goal.write_entries-write_tree-requires
write_entries-write_tree-requires g t c κs p =
    (omega (arith, size_pair c.args.pairs.now c.loop-i.i c.index-pairs-i.result c.loop-i-test.true c.index-pairs-i.is), p)

pub write_entries-write_tree-requires-in-loop-i : goal.write_entries-write_tree-requires-in-loop-i
write_entries-write_tree-requires-in-loop-i g t c κs p =
    (omega (arith, size_pair c.args.pairs.now c.loop-i.i c.index-pairs-i.result c.loop-i-test.true c.index-pairs-i.is), p)

pub write_entries-loop-i-preserved : goal.write_entries-loop-i-preserved
write_entries-loop-i-preserved g t c = λ plain.
    let key_text = datum_text c.told_at-telling.result (datum_of c.index-pairs-i.result.0) in
    let value_text = datum_text c.told_at-telling.result (datum_of c.index-pairs-i.result.1) in
    let before = c.loop-i.invariant plain in
    let led = written _ _ _ _ c.in_ok-write_str.ensures.writes before.plain in
    let key = written _ _ _ _ c.in_ok-write_tree.ensures led.plain in
    let colon = written _ _ _ _ c.in_ok-write_str-2.ensures.writes key.plain in
    let value = written _ _ _ _ c.in_ok-write_tree-2.ensures colon.plain in
    item_written _ pair_text c.args.pairs.now _ _ _ _ c.args.told false c.loop-i.i c.index-pairs-i.result _ c.told_at-telling.result
    c.loop-i-test.true c.index-pairs-i.is c.lead_at.ensures c.told_at-telling.ensures before led
    (has_written_append _ _ key_text _ (codes ": " ++ value_text) _ key (has_written_append _ _ (codes ": ") _ value_text _ colon value))

pub write_entries-returns : goal.write_entries-returns
write_entries-returns g t c = λ plain ok.
    has_written_of_eq _ _ _ _ _ (entries_listed c.args.pairs.now [] c.args.told)
    (all_written _ pair_text c.args.pairs.now _ _ c.args.told false c.loop-i.i c.loop-i-test.false (c.loop-i.invariant plain))
