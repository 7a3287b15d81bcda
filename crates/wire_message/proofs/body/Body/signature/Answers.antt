use Rattle.std.proofs.Common.{is_some, refl}
use Rattle.wire_signature.specs.Parsing.{types_in}
use Rattle.wire_signature.proofs.Exact.{is_some-types_in}
use Rattle.wire_message.proofs.body.Body.signature.Goals as goal

pub signature_str-text-requires : goal.signature_str-text-requires
signature_str-text-requires c =
    let text = c.signature_text.result.now in
    (is_some-types_in (is_some (types_in text)) text refl).0 c.signature_text.ensures.valid
