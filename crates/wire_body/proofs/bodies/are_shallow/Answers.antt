use Rattle.std.proofs.Common.{◌≤◌, add-one, ap, arith, sym, ◌∙◌}
use Rattle.wire_tree.specs.DatumView.{datum_of}
use Rattle.wire_encoding.specs.Encoding.{depth}
use Rattle.wire_body.proofs.BodyLaws.{depth_value, depth_more}
use Rattle.wire_body.proofs.bodies.are_shallow.Goals as goal

pub returns-then-not-is_within : goal.returns-then-not-is_within
returns-then-not-is_within c = (
  λ h. absurd (cc),
  λ s. let k : depth (datum_of c.tree.result.now) ≤ 64 =
      omega (arith, ap depth c.tree.ensures.tree, depth_value c.args.values.now c.loop-value.value-index c.value-item.result c.loop-value-test.true c.value-item.is) in
      sym c.if-not-is_within.true ∙ c.is_within.ensures.1 k,
)

pub loop-value-preserved : goal.loop-value-preserved
loop-value-preserved c =
    rw add-one
    (depth_more c.args.values.now c.loop-value.value-index c.value-item.result c.loop-value-test.true c.value-item.is c.loop-value.invariant
    (omega (arith, ap depth c.tree.ensures.tree, c.is_within.ensures.0 c.if-not-is_within.false)))
