use Rattle.std.proofs.Common.{ap, ◌∙◌}
use Rattle.wire_signature.specs.SingleType.{basic}
use Rattle.wire_tree.specs.Datum.{num, num_type, array, data_of}
use Rattle.std.specs.Prelude.{map}
use Rattle.wire_tree.specs.Packed.{numbers_bits, numbers_type}
use Rattle.wire_tree.proofs.Packed.{arrays-one-type}
use Rattle.wire_tree.proofs.same.are_same_numbers.Goals as goal

pub returns : goal.returns
returns c = (
  λ p. let k = c.are_same_bits.ensures.0 p in
      ap (λ n. array (basic (num_type n)) (data_of (map (num n) (numbers_bits c.args.numbers.now)))) k.0
      ∙ ap (λ bits. array (basic (num_type (numbers_type c.args.others.now))) (data_of (map (num (numbers_type c.args.others.now)) bits))) k.1,
  λ e. c.are_same_bits.ensures.1 (arrays-one-type _ _ _ _ e),
)
