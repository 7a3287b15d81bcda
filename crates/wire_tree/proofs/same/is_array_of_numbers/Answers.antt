use Rattle.std.proofs.Common.{◌≡◌, refl, sym, ap, ◌∙◌}
use Rattle.std.specs.Prelude.{map}
use Rattle.wire_signature.specs.SingleType.{basic}
use Rattle.wire_tree.specs.Datum.{array, data_of, num_type}
use Rattle.wire_tree.specs.DatumView.{datum_of}
use Rattle.wire_tree.specs.Packed.{numbers_type}
use Rattle.wire_tree.proofs.Lists.{arrays-one}
use Rattle.wire_tree.proofs.same.is_array_of_numbers.Goals as goal

pub returns-then-is_basic : goal.returns-then-is_basic
returns-then-is_basic c =
    let t = basic (num_type (numbers_type c.args.numbers.now)) in
    let k : c.args.element.now ≡ basic (num_type (numbers_type c.args.numbers.now)) = c.if-is_basic.ensures.0 refl ∙ ap basic c.basic.ensures in
    let own = ap (λ u. array u (data_of (map datum_of c.args.trees.now))) k in (
      λ p. own ∙ ap (λ ds. array t (data_of ds)) (c.are_numbers.ensures.0 p),
      λ e. c.are_numbers.ensures.1 (arrays-one t _ _ (sym own ∙ e)),
    )
