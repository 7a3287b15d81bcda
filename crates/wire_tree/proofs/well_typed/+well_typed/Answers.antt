use Rattle.std.proofs.Common.{add-one, arith, refl, sym, ◌∙◌}
use Rattle.wire_tree.specs.DatumView.{datum_of}
use Rattle.wire_tree.proofs.Packed.{numbers-elements}
use Rattle.wire_tree.proofs.Parts.{size_item, size_pair}
use Rattle.wire_tree.proofs.Checked.{well_typed-item, well_typed-take, element-item, element-take, entry-item, entry-take}
use Rattle.wire_tree.proofs.well_typed.+well_typed.Goals as goal

pub are_well_typed-is_well_typed-requires : goal.are_well_typed-is_well_typed-requires
are_well_typed-is_well_typed-requires t c =
    (omega (arith, size_item c.args.fields.now c.loop-each.each-index c.each-item.result c.loop-each-test.true c.each-item.is), tt)

pub are_elements-is_element-requires : goal.are_elements-is_element-requires
are_elements-is_element-requires t c =
    (omega (arith, size_item c.args.elements.now c.loop-each.each-index c.each-item.result c.loop-each-test.true c.each-item.is), tt)

pub are_entries-is_entry-requires : goal.are_entries-is_entry-requires
are_entries-is_entry-requires t c =
    (omega (arith, size_pair c.args.entries.now c.loop-each.each-index c.each-item.result c.loop-each-test.true c.each-item.is), tt)

pub are_well_typed-returns-then-not-branch : goal.are_well_typed-returns-then-not-branch
are_well_typed-returns-then-not-branch t c = (
  λ h. absurd (cc),
  λ s. sym c.if-not-branch.true ∙ c.in_ok-is_well_typed.ensures.1
      (well_typed-item datum_of c.args.fields.now c.loop-each.each-index c.each-item.result s c.loop-each-test.true c.each-item.is),
)

pub are_well_typed-loop-each-preserved : goal.are_well_typed-loop-each-preserved
are_well_typed-loop-each-preserved t c =
    rw add-one
    (well_typed-take c.args.fields.now c.loop-each.each-index c.each-item.result c.loop-each.invariant c.loop-each-test.true c.each-item.is
    (c.in_ok-is_well_typed.ensures.0 c.if-not-branch.false))

pub are_elements-returns-then-not-branch : goal.are_elements-returns-then-not-branch
are_elements-returns-then-not-branch t c = (
  λ h. absurd (cc),
  λ s. sym c.if-not-branch.true ∙ c.in_ok-is_element.ensures.1
      (element-item datum_of c.args.element.now c.args.elements.now c.loop-each.each-index c.each-item.result s c.loop-each-test.true c.each-item.is),
)

pub are_elements-loop-each-preserved : goal.are_elements-loop-each-preserved
are_elements-loop-each-preserved t c =
    rw add-one
    (element-take datum_of c.args.element.now c.args.elements.now c.loop-each.each-index c.each-item.result c.loop-each.invariant c.loop-each-test.true c.each-item.is
    (c.in_ok-is_element.ensures.0 c.if-not-branch.false))

pub are_entries-returns-then-not-branch : goal.are_entries-returns-then-not-branch
are_entries-returns-then-not-branch t c = (
  λ h. absurd (cc),
  λ s. sym c.if-not-branch.true ∙ c.in_ok-is_entry.ensures.1
      (entry-item c.args.key c.args.value.now c.args.entries.now c.loop-each.each-index c.each-item.result s c.loop-each-test.true c.each-item.is),
)

pub are_entries-loop-each-preserved : goal.are_entries-loop-each-preserved
are_entries-loop-each-preserved t c =
    rw add-one
    (entry-take c.args.key c.args.value.now c.args.entries.now c.loop-each.each-index c.each-item.result c.loop-each.invariant c.loop-each-test.true c.each-item.is
    (c.in_ok-is_entry.ensures.0 c.if-not-branch.false))

pub is_well_typed-returns-in-Numbers : goal.is_well_typed-returns-in-Numbers
is_well_typed-returns-in-Numbers t c = rw c.in-Numbers.is (λ told. numbers-elements _ _ c.numbers_fit.ensures, λ elements. refl)
