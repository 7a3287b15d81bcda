use Rattle.std.proofs.Common.{◌++◌, ◌∙◌, add-one, arith, length, map, take, sym, ap}
use Rattle.std.proofs.lemmas.List.{length-map}
use Rattle.std.specs.Hash.{fed_then, fed_along}
use Rattle.wire_tree.specs.Datum.{array, data_of, entries_of}
use Rattle.wire_tree.specs.DatumView.{datum_of, pair_of}
use Rattle.wire_tree.specs.Packed.{numbers_bits, numbers_data}
use Rattle.wire_tree.specs.Equal.{writes, writes_of, writes_in}
use Rattle.wire_tree.proofs.Parts.{size_item, size_pair}
use Rattle.wire_tree.proofs.Fed.{fed_array, fed_dict, writes_of-take, writes_in-take}
use Rattle.wire_tree.proofs.hash.+feeding.Goals as goal

pub feed_all-feed-requires : goal.feed_all-feed-requires
feed_all-feed-requires g t c κs p =
    (omega (arith, size_item c.args.trees.now c.loop-each.each-index c.each-item.result c.loop-each-test.true c.each-item.is), p)

pub feed_pairs-feed-requires : goal.feed_pairs-feed-requires
feed_pairs-feed-requires g t c κs p =
    (omega (arith, size_pair c.args.pairs.now c.loop-each.each-index c.each-item.result c.loop-each-test.true c.each-item.is), p)

pub feed_pairs-feed-requires-in-loop-each : goal.feed_pairs-feed-requires-in-loop-each
feed_pairs-feed-requires-in-loop-each g t c κs p =
    (omega (arith, size_pair c.args.pairs.now c.loop-each.each-index c.each-item.result c.loop-each-test.true c.each-item.is), p)

pub feed_all-loop-each-preserved : goal.feed_all-loop-each-preserved
feed_all-loop-each-preserved g t c =
    rw add-one
    (fed_along g.H.Hasher.write _ _
    (sym (writes_of-take datum_of c.args.trees.now c.loop-each.each-index c.each-item.result c.loop-each-test.true c.each-item.is))
    (fed_then g.H.Hasher.write _ _ _ (writes_of (data_of (map datum_of (take c.loop-each.each-index c.args.trees.now)))) (writes (datum_of c.each-item.result))
    c.loop-each.invariant c.feed.ensures))

pub feed_pairs-loop-each-preserved : goal.feed_pairs-loop-each-preserved
feed_pairs-loop-each-preserved g t c =
    rw add-one
    (fed_along g.H.Hasher.write _ _
    (sym (writes_in-take c.args.pairs.now c.loop-each.each-index c.each-item.result c.loop-each-test.true c.each-item.is))
    (fed_then g.H.Hasher.write _ _ _ (writes_in (entries_of (map pair_of (take c.loop-each.each-index c.args.pairs.now))) ++ writes (datum_of c.each-item.result.0))
    (writes (datum_of c.each-item.result.1))
    (fed_then g.H.Hasher.write _ _ _ (writes_in (entries_of (map pair_of (take c.loop-each.each-index c.args.pairs.now)))) (writes (datum_of c.each-item.result.0))
    c.loop-each.invariant c.feed.ensures)
    c.feed-in-loop-each.ensures))

pub feed-returns-in-Array : goal.feed-returns-in-Array
feed-returns-in-Array g t c =
    fed_array g.H.Hasher.write c.args.state.now c.write_u8.new.self c.write_usize.new.self c.feed_all.new.state _ (length c.as_slice-elements.result.now)
    (map datum_of c.as_slice-elements.result.now) c.in-Array.field-0
    (ap datum_of c.in-Array.is ∙ ap (λ ds. array c.in-Array.field-0 (data_of ds)) (sym c.as_slice-elements.ensures)) (sym (length-map c.as_slice-elements.result.now datum_of))
    c.write_u8.ensures c.write_usize.ensures c.feed_all.ensures

pub feed-returns-in-Numbers : goal.feed-returns-in-Numbers
feed-returns-in-Numbers g t c =
    fed_array g.H.Hasher.write c.args.state.now c.write_u8-in-Numbers.new.self c.write_usize-in-Numbers.new.self c.feed_numbers.new.state _ c.len.result
    (numbers_data c.in-Numbers.numbers) _ (ap datum_of c.in-Numbers.is) (c.len.ensures ∙ sym (length-map (numbers_bits c.in-Numbers.numbers) _))
    c.write_u8-in-Numbers.ensures c.write_usize-in-Numbers.ensures c.feed_numbers.ensures

pub feed-returns-in-Dict : goal.feed-returns-in-Dict
feed-returns-in-Dict g t c =
    fed_dict g.H.Hasher.write c.args.state.now c.write_u8-in-Dict.new.self c.write_usize-in-Dict.new.self c.feed_pairs.new.state _ c.as_slice-entries.result.now c.in-Dict.entries
    c.in-Dict.field-0 c.in-Dict.field-1
    (ap datum_of c.in-Dict.is) c.as_slice-entries.ensures c.write_u8-in-Dict.ensures c.write_usize-in-Dict.ensures c.feed_pairs.ensures
