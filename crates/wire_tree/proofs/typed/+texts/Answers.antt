use Rattle.std.proofs.Common.{◌++◌, add-one, arith, map, take, sym, ◌∙◌, ap, append_assoc, string_bytes}
use Rattle.wire_signature.specs.SingleType.{type_text, types_text}
use Rattle.wire_tree.specs.Datum.{data_of, type_of, types_of}
use Rattle.wire_tree.specs.DatumView.{datum_of}
use Rattle.wire_tree.proofs.Parts.{size_item, types_text-take}
use Rattle.wire_tree.proofs.typed.+texts.Goals as goal

pub write_types-write_type-requires : goal.write_types-write_type-requires
write_types-write_type-requires t c =
    (omega (arith, size_item c.args.trees.now c.loop-each.each-index c.each-item.result c.loop-each-test.true c.each-item.is), tt)

pub write_types-loop-each-preserved : goal.write_types-loop-each-preserved
write_types-loop-each-preserved t c =
    rw add-one
    (c.in_ok-write_type.ensures ∙ ap (λ r. r ++ type_text (type_of (datum_of c.each-item.result))) c.loop-each.invariant
    ∙ append_assoc (string_bytes c.args.out.now) (types_text (types_of (data_of (map datum_of (take c.loop-each.each-index c.args.trees.now))))) (type_text (type_of (datum_of c.each-item.result)))
    ∙ ap (λ r. string_bytes c.args.out.now ++ r)
    (sym (types_text-take c.args.trees.now c.loop-each.each-index c.each-item.result c.loop-each-test.true c.each-item.is)))
