use Rattle.std.proofs.Common.{◌∙◌, sym, ap, map, subst}
use Rattle.wire_signature.specs.SingleType.{basic, array as array_of}
use Rattle.wire_tree.specs.Datum.{num_type}
use Rattle.wire_tree.specs.DatumView.{datum_of}
use Rattle.wire_tree.specs.Packed.{numbers_bits, numbers_type}
use Rattle.wire_tree.proofs.Lists.{list_of-data_of}
use Rattle.wire_argument.specs.Arguments.{TellsRead}
use Rattle.wire_argument.specs.Kinds.{bits_in}
use Rattle.wire_argument.proofs.Elements.{tells}
use Rattle.wire_argument.proofs.NumberLists.{bits_listed}
use Rattle.wire_argument.proofs.numbers.numbers_in.Goals as goal

pub returns-in-Numbers : goal.returns-in-Numbers
returns-in-Numbers g c =
    let numbers = c.in-Numbers.numbers in
    rw c.in-Numbers.is
    (subst
    (λ xs. TellsRead (λ v. v.items) c.unpacked.result xs (array_of (basic (num_type (numbers_type numbers)))) (array_of (basic (num_type g.T.Number.fixed))))
    (sym (bits_listed g.T.Number.of_bits (numbers_type numbers) (numbers_bits numbers))) c.unpacked.ensures)

pub returns-then-is_basic : goal.returns-then-is_basic
returns-then-is_basic g c =
    rw c.in-Array.is
    (tells (λ v. v.items) c.listed.result (map (λ d. g.T.Number.of_bits (bits_in d)) (map datum_of c.as_slice.result.now)) _ _ _
    (ap (map (λ d. g.T.Number.of_bits (bits_in d))) (c.as_slice.ensures ∙ sym (list_of-data_of c.in-Array.trees)))
    (ap array_of (c.is_basic.ensures.0 c.if-is_basic.true ∙ ap basic (c.basic.ensures ∙ ap num_type c.fixed.ensures)))
    c.listed.ensures.value c.listed.ensures.error)
