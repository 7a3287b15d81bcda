use Rattle.std.proofs.Common.{rules, ◌≡◌, ◌∙◌, sym}
use Rattle.wire_tree.specs.Datum.{num_type}
use Rattle.wire_tree.specs.Packed.{fixed_type}
use Rattle.wire_tree.specs.DatumView.{datum_of}
use Rattle.wire_argument.proofs.NumberLists.{other_number}
use Rattle.wire_argument.proofs.numbers.bits_of.Goals as goal

pub returns-else-eq-clause-none : goal.returns-else-eq-clause-none
returns-else-eq-clause-none c =
    let no : c.in-Some.basic ≡ num_type (fixed_type c.args.fixed) → ⊥ = search rules in
    other_number (datum_of c.args.tree.now) c.in-Some.basic c.in-Some.bits (fixed_type c.args.fixed) (sym c.in-Some.is ∙ c.number_of.ensures) no
