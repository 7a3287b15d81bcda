use Rattle.std.proofs.Common.{◌++◌, ap, ◌∙◌}
use Rattle.wire_signature.specs.SingleType.{single_types_of, types_text}
use Rattle.wire_body.proofs.SignatureTexts.{kinds_tell, not_ascii}
use Rattle.wire_body.proofs.message.signature_of.Goals as goal

pub returns-in-Some : goal.returns-in-Some
returns-in-Some g c =
    kinds_tell c.try_from.result g.T.ToBody.kinds c.in-Some.text.now g.met.T.ToBody.all_have_fields
    (c.in-Some.ensures.0 ∙ c.as_bytes.ensures ∙ c.in_ok-write_kinds.ensures ∙ ap (λ r. r ++ types_text (single_types_of g.T.ToBody.kinds)) c.new-text.ensures) c.try_from.ensures.told

pub returns : goal.returns
returns g c =
    absurd (not_ascii g.T.ToBody.kinds c.as_bytes.result.now
    (c.as_bytes.ensures ∙ c.in_ok-write_kinds.ensures ∙ ap (λ r. r ++ types_text (single_types_of g.T.ToBody.kinds)) c.new-text.ensures) c.in-None.ensures)
