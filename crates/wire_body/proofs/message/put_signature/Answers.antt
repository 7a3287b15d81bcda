use Rattle.std.proofs.Common.{◌∙◌, ◌++◌, ap}
use Rattle.wire_signature.specs.SingleType.{single_types_of, types_text}
use Rattle.wire_body.proofs.SignatureTexts.{theirs}
use Rattle.wire_body.proofs.message.put_signature.Goals as goal

pub returns-then-is_signature : goal.returns-then-is_signature
returns-then-is_signature g c =
    let text = c.in_ok-write_kinds.ensures ∙ ap (λ r. r ++ types_text (single_types_of g.T.ToBody.kinds)) c.requires in
    let k = c.is_signature.ensures.valid.0 c.if-is_signature.true in
    record { valid = (theirs g.T.ToBody.kinds k.0 c.as_bytes.result.now g.met.T.ToBody.all_have_fields (c.as_bytes.ensures ∙ text) k.1).1; text = text }
