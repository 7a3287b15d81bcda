use Rattle.std.proofs.Common.{◌≡◌, length, add-one, arith, sym, ◌∙◌}
use Rattle.wire_tree.proofs.Parts.{size_item}
use Rattle.wire_tree.proofs.Types.{types-length, types-item, types-take}
use Rattle.wire_tree.proofs.typed.+of_type.Goals as goal

pub have_types-returns-then-trees-types : goal.have_types-returns-then-trees-types
have_types-returns-then-trees-types t c = (
  λ f. absurd (cc),
  λ e. let k : length c.args.trees.now ≡ length c.args.types.now = types-length c.args.trees.now c.args.types.now e in absurd (c.if-trees-types.true k),
)

pub have_types-has_type-requires : goal.have_types-has_type-requires
have_types-has_type-requires t c =
    (omega (arith, size_item c.args.trees.now c.loop-i.i c.index-trees-i.result c.loop-i-test.true c.index-trees-i.is), tt)

pub have_types-returns-then-not-has_type : goal.have_types-returns-then-not-has_type
have_types-returns-then-not-has_type t c = (
  λ f. absurd (cc),
  λ e. sym c.if-not-has_type.true ∙ c.has_type.ensures.1
      (types-item c.args.trees.now c.args.types.now c.loop-i.i c.index-trees-i.result c.index-types-i.result e c.loop-i-test.true c.index-trees-i.is c.index-types-i.is),
)

pub have_types-loop-i-preserved : goal.have_types-loop-i-preserved
have_types-loop-i-preserved t c =
    rw add-one (
      types-take c.args.trees.now c.args.types.now c.loop-i.i c.index-trees-i.result c.index-types-i.result c.loop-i.invariant.0 c.loop-i-test.true
          (omega (arith, c.loop-i-test.true, c.loop-i.invariant.1)) c.index-trees-i.is c.index-types-i.is (c.has_type.ensures.0 c.if-not-has_type.false),
      c.loop-i.invariant.1,
    )
