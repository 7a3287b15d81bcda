use Rattle.std.proofs.Common.{map, sym, ◌∙◌, ap}
use Rattle.std.proofs.lemmas.Slice.Eq.{slice_eq-Decides}
use Rattle.std.specs.Cmp.{booleans_Decides}
use Rattle.wire_tree.specs.Packed.{bit, numbers_bits, numbers_type}
use Rattle.wire_tree.proofs.Packed.{booleans-one}
use Rattle.wire_tree.proofs.same.are_same_bits.Goals as goal

pub returns-in-Booleans-Booleans : goal.returns-in-Booleans-Booleans
returns-in-Booleans-Booleans c =
    let b = c.in-Booleans-Booleans in
    let k = slice_eq-Decides booleans_Decides b.x.items b.y.items c.eq-in-Booleans-Booleans.result c.eq-in-Booleans-Booleans.ensures in (
      λ p. (ap numbers_type b.is-0 ∙ sym (ap numbers_type b.is-1), ap numbers_bits b.is-0 ∙ ap (map bit) (k.0 p) ∙ sym (ap numbers_bits b.is-1)),
      λ e. k.1 (booleans-one b.x.items b.y.items (sym (ap numbers_bits b.is-0) ∙ e.1 ∙ ap numbers_bits b.is-1)),
    )
