use Rattle.std.proofs.Common.{◌<◌, length, get_or, arith, sym, ◌∙◌}
use Rattle.wire_tree.specs.Datum.{num}
use Rattle.wire_tree.specs.DatumView.{datum_of}
use Rattle.wire_tree.specs.Packed.{numbers_bits, numbers_type}
use Rattle.wire_tree.proofs.Lists.{seen-item}
use Rattle.wire_tree.proofs.Packed.{any_default}
use Rattle.wire_tree.proofs.same.are_numbers.Goals as goal

pub returns-then-not-is_number_at : goal.returns-then-not-is_number_at
returns-then-not-is_number_at c =
    let h : c.loop-i.i < length (numbers_bits c.args.numbers.now) = omega (arith, c.loop-i.invariant.1, c.loop-i-test.true) in (
      λ p. absurd (cc),
      λ e. sym c.if-not-is_number_at.true ∙ c.is_number_at.ensures.1
          (seen-item datum_of (num (numbers_type c.args.numbers.now)) c.args.trees.now (numbers_bits c.args.numbers.now) c.loop-i.i c.index-trees-i.result
          (get_or (numbers_bits c.args.numbers.now) c.loop-i.i 0) e c.loop-i-test.true c.index-trees-i.is (any_default (numbers_bits c.args.numbers.now) c.loop-i.i 0 _ h)),
    )
