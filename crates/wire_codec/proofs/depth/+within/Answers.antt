use Rattle.std.proofs.Common.{◌≡◌, ◌≤◌, ◌+◌, suc, take, add-one, arith, sym, ◌∙◌, ap}
use Rattle.wire_tree.specs.DatumView.{datum_of, entry_of}
use Rattle.wire_encoding.specs.Encoding.{depth, depths}
use Rattle.std.proofs.lemmas.Bool.Decides.{nat_tests}
use Rattle.wire_tree.specs.Packed.{numbers_type, numbers_bits}
use Rattle.wire_tree.proofs.Parts.{entries_are}
use Rattle.wire_codec.proofs.DepthLaws.{depth_item, depth_take, packed_depths}
use Rattle.wire_codec.proofs.depth.+within.Goals as goal

pub are_within-returns-then-not-is_within : goal.are_within-returns-then-not-is_within
are_within-returns-then-not-is_within t c = (
  λ h. absurd (cc),
  λ s. let k : depth (datum_of c.each-item.result) ≤ c.args.room =
      omega (arith, depth_item datum_of c.args.trees.now c.loop-each.each-index c.each-item.result c.loop-each-test.true c.each-item.is) in
      sym c.if-not-is_within.true ∙ c.is_within.ensures.1 k,
)

pub are_within-loop-each-preserved : goal.are_within-loop-each-preserved
are_within-loop-each-preserved t c =
    rw add-one
    (depth_take datum_of c.args.trees.now c.loop-each.each-index c.each-item.result c.args.room c.loop-each-test.true c.each-item.is c.loop-each.invariant
    (c.is_within.ensures.0 c.if-not-is_within.false))

pub pairs_within-returns-then-not-pair_within : goal.pairs_within-returns-then-not-pair_within
pairs_within-returns-then-not-pair_within t c = (
  λ h. absurd (cc),
  λ s. let k : depth (entry_of c.each-item.result) ≤ c.args.room =
      omega (arith, depth_item entry_of c.args.pairs.now c.loop-each.each-index c.each-item.result c.loop-each-test.true c.each-item.is, ap depths (entries_are c.args.pairs.now)) in
      sym c.if-not-pair_within.true ∙ c.pair_within.ensures.1 (omega arith),
)

pub pairs_within-loop-each-preserved : goal.pairs_within-loop-each-preserved
pairs_within-loop-each-preserved t c =
    let before = ap depths (entries_are (take c.loop-each.each-index c.args.pairs.now)) in
    let more = depth_take entry_of c.args.pairs.now c.loop-each.each-index c.each-item.result c.args.room c.loop-each-test.true c.each-item.is
    (omega (arith, before, c.loop-each.invariant)) (omega (arith, c.pair_within.ensures.0 c.if-not-pair_within.false)) in
    rw add-one (omega (arith, more, ap depths (entries_are (take (suc c.loop-each.each-index) c.args.pairs.now))))

pub is_within-returns-in-Numbers : goal.is_within-returns-in-Numbers
is_within-returns-in-Numbers t c =
    let one : depth (datum_of c.args.tree.now) ≡ 1 =
    ap (λ u. depth (datum_of u)) c.in-Numbers.is ∙ ap (λ k. k + 1) (packed_depths (numbers_type c.in-Numbers.field-0) (numbers_bits c.in-Numbers.field-0)) in
    grind (arith, nat_tests, one)
