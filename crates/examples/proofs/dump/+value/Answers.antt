use Rattle.std.proofs.Common.{ap, arith}
use Rattle.wire_tree.specs.Datum.{entries_of, size_of, sizes_of}
use Rattle.wire_tree.specs.DatumView.{datum_of}
use Rattle.wire_tree.specs.declared.tree.Tree.{Tree}
use Rattle.wire_tree.proofs.Parts.{size_item, size_pair}
use Rattle.examples.proofs.dump.+value.Goals as goal

pub print_list-print_value-requires : goal.print_list-print_value-requires
print_list-print_value-requires t c =
    (omega (arith, size_item c.args.trees.now c.loop-tree.tree-index c.tree-item.result c.loop-tree-test.true c.tree-item.is), tt)

pub print_value-print_value-requires-in-loop-key : goal.print_value-print_value-requires-in-loop-key
print_value-print_value-requires-in-loop-key t c =
    let pair = size_pair c.as_slice-key-items.result.now c.loop-key.key-index c.loop-key-item.result c.loop-key-test.true c.loop-key-item.is in
    let same = ap (λ es. sizes_of (entries_of es)) c.as_slice-key-items.ensures in
    let whole = ap (λ (tree : Tree). size_of (datum_of tree)) c.in-Dict.is in
    (omega (arith, pair, same, whole), tt)

pub print_value-print_value-requires-in-loop-key-2 : goal.print_value-print_value-requires-in-loop-key-2
print_value-print_value-requires-in-loop-key-2 t c =
    let pair = size_pair c.as_slice-key-items.result.now c.loop-key.key-index c.loop-key-item.result c.loop-key-test.true c.loop-key-item.is in
    let same = ap (λ es. sizes_of (entries_of es)) c.as_slice-key-items.ensures in
    let whole = ap (λ (tree : Tree). size_of (datum_of tree)) c.in-Dict.is in
    (omega (arith, pair, same, whole), tt)
