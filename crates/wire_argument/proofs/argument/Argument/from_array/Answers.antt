use Rattle.std.proofs.Common.{map, ap, sym, subst, ◌∙◌}
use Rattle.wire_tree.specs.Datum.{data_of, AreElements}
use Rattle.wire_tree.specs.DatumView.{datum_of}
use Rattle.wire_argument.proofs.TypeTexts.{written}
use Rattle.wire_argument.proofs.Elements.{elements_typed}
use Rattle.wire_argument.proofs.argument.Argument.from_array.Goals as goal

pub loop-each-init : goal.loop-each-init
loop-each-init g c =
    let w = written c.write_kind.result c.is_ok-written.result g.Self.Argument.kind _ _ c.is_ok-written.ensures.value c.new-text.ensures c.write_kind.ensures in
    let found = c.in_ok-each-items.ensures g.Self.Argument.kind g.met.Self.Argument.has_fields w in (
      c.new-items.ensures.items,
      subst (λ ds. AreElements g.Self.Argument.kind (data_of ds)) (sym (ap (map datum_of) c.into_iter-each-iterator.ensures.into_iter_gives.0 ∙ found.0))
          (elements_typed _ g.Self.Argument.kind c.requires found.1),
    )
