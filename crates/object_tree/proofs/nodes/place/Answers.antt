use Rattle.std.proofs.Common.{◌≡◌, arith, string_bytes, ◌+◌, ◌-◌, ◌/◌, slice_index_or, Less}
use Rattle.object_tree.specs.Keyed.{listed}
use Rattle.object_tree.specs.Objects.{text_cmp}
use Rattle.object_tree.proofs.Listed.{listed_length, listed_at, place_most}
use Rattle.object_tree.proofs.Placed.{place_after, place_before}
use Rattle.object_tree.proofs.nodes.place.Goals as goal

pub halve-init : goal.halve-init
halve-init c = (omega arith, omega (arith, place_most (listed c.args.list.now) c.args.path.now, listed_length c.args.list.now), omega arith)

pub halve-preserved-then-lt : goal.halve-preserved-then-lt
halve-preserved-then-lt c =
    let m = c.halve.low + (c.halve.high - c.halve.low) / 2 in
    let at = listed_at c.args.list.now (c.halve.low + (c.halve.high - c.halve.low) / 2) c.index-list-middle.result (omega (arith, c.halve.invariant.2, c.halve-test.true)) in
    let value = c.as_str.ensures.value in
    let test = c.lt.ensures in
    let less : text_cmp (string_bytes (slice_index_or c.args.list.now (c.halve.low + (c.halve.high - c.halve.low) / 2) c.index-list-middle.result).0) c.args.path.now ≡ Less = grind arith in
    (omega (arith, place_after (listed c.args.list.now) c.args.path.now (c.halve.low + (c.halve.high - c.halve.low) / 2) _ c.requires.sorted at less), c.halve.invariant.1, c.halve.invariant.2)

pub halve-preserved : goal.halve-preserved
halve-preserved c =
    let at = listed_at c.args.list.now (c.halve.low + (c.halve.high - c.halve.low) / 2) c.index-list-middle.result (omega (arith, c.halve.invariant.2, c.halve-test.true)) in
    let value = c.as_str.ensures.value in
    let test = c.lt.ensures in
    (c.halve.invariant.0, place_before (listed c.args.list.now) c.args.path.now (c.halve.low + (c.halve.high - c.halve.low) / 2) _ at (λ (l : text_cmp (string_bytes (slice_index_or c.args.list.now (c.halve.low + (c.halve.high - c.halve.low) / 2) c.index-list-middle.result).0) c.args.path.now ≡ Less). grind arith), omega (arith, c.halve.invariant.2, c.halve-test.true))
