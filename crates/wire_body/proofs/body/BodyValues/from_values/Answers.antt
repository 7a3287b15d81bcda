use Rattle.std.proofs.Common.{◌++◌, Ok, map, ap, ◌∙◌, refl}
use Rattle.wire_signature.specs.SingleType.{IsSignature, single_types_of, types_text}
use Rattle.wire_tree.specs.Datum.{type_of}
use Rattle.wire_body.proofs.SignatureTexts.{kinds_tell}
use Rattle.wire_body.proofs.body.BodyValues.from_values.Goals as goal

pub invariant_of-result : goal.invariant_of-result
invariant_of-result c =
    rw (← c.as_slice.ensures.value)
    (kinds_tell (Ok c.in_ok-signature.signature) (map type_of c.as_slice.result.now) c.as_str.result.now c.in_ok-write_types.ensures.fields
    (c.as_str.ensures.value ∙ c.in_ok-write_types.ensures.text ∙ ap (λ r. r ++ types_text (single_types_of (map type_of c.as_slice.result.now))) c.new-text.ensures.bytes)
    c.in_ok-signature.ensures.told).0

pub returns : goal.returns
returns c =
    let k = kinds_tell (Ok c.in_ok-signature.signature) (map type_of c.as_slice.result.now) c.as_str.result.now c.in_ok-write_types.ensures.fields
    (c.as_str.ensures.value ∙ c.in_ok-write_types.ensures.text ∙ ap (λ r. r ++ types_text (single_types_of (map type_of c.as_slice.result.now))) c.new-text.ensures.bytes)
    c.in_ok-signature.ensures.told in
    let s : IsSignature (map type_of c.args.values.items) = rw (← c.as_slice.ensures.value) k.1 in (refl, s)
