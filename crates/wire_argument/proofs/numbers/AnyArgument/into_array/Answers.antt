use Rattle.std.proofs.Common.{◌∙◌, sym, ap, map}
use Rattle.wire_signature.specs.SingleType.{basic}
use Rattle.wire_tree.specs.Datum.{array, num, num_type, data_of}
use Rattle.wire_tree.specs.Packed.{numbers_bits}
use Rattle.wire_argument.specs.Kinds.{bits_in}
use Rattle.wire_argument.proofs.NumberLists.{data_bits, bits_back}
use Rattle.wire_argument.proofs.numbers.AnyArgument.into_array.Goals as goal

pub returns-clause-value : goal.returns-clause-value
returns-clause-value g c =
    let packed = c.in_ok-packed.field-0 in
    ap (λ n. array (basic (num_type n)) (data_of (map (num n) (numbers_bits packed)))) c.in_ok-packed.ensures.kind
    ∙ ap (λ xs. array (basic (num_type g.T.Number.fixed)) (data_of (map (num g.T.Number.fixed) xs))) (c.in_ok-packed.ensures.bits ∙ ap (map g.T.Number.bits) c.as_slice.ensures.value)
    ∙ ap (λ ds. array (basic (num_type g.T.Number.fixed)) (data_of ds)) (data_bits g.T.Number.bits g.T.Number.fixed c.args.items.now.items)

pub returns-clause-round : goal.returns-clause-round
returns-clause-round g c =
    ap (map (λ d. g.T.Number.of_bits (bits_in d))) (sym (data_bits g.T.Number.bits g.T.Number.fixed c.args.items.now.items))
    ∙ bits_back g.T.Number.of_bits g.T.Number.fixed (map g.T.Number.bits c.args.items.now.items)
    ∙ ap (λ xs. map g.T.Number.of_bits (map g.T.Number.bits xs)) (sym c.as_slice.ensures.value) ∙ c.in_ok-packed.ensures.round ∙ c.as_slice.ensures.value
