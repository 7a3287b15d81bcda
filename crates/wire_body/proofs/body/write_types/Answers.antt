use Rattle.std.proofs.Common.{◌++◌, add-one, map, take, sym, ◌∙◌, ap, append_assoc, string_bytes}
use Rattle.wire_signature.specs.SingleType.{single_types_of, type_text, types_text}
use Rattle.wire_tree.specs.Datum.{type_of}
use Rattle.wire_body.proofs.SignatureTexts.{types_text-take, fields-take}
use Rattle.wire_body.proofs.body.write_types.Goals as goal

pub loop-each-preserved : goal.loop-each-preserved
loop-each-preserved c =
    rw add-one (
      c.in_ok-write_type.ensures.text ∙ ap (λ r. r ++ type_text (type_of c.each-item.result)) c.loop-each.invariant.0
          ∙ append_assoc (string_bytes c.args.out.now) (types_text (single_types_of (map type_of (take c.loop-each.each-index c.args.values.now)))) (type_text (type_of c.each-item.result))
          ∙ ap (λ r. string_bytes c.args.out.now ++ r)
          (sym (types_text-take c.args.values.now c.loop-each.each-index c.each-item.result c.loop-each-test.true c.each-item.is)),
      fields-take c.args.values.now c.loop-each.each-index c.each-item.result c.loop-each-test.true c.each-item.is c.loop-each.invariant.1 c.in_ok-write_type.ensures.fields,
    )
