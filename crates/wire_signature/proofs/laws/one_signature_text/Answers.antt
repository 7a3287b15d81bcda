use Rattle.std.proofs.Common.{sym, ◌∙◌}
use Rattle.wire_signature.proofs.laws.one_signature_text.Goals as goal

pub returns : goal.returns
returns c = λ ts b d h k. h.text ∙ sym k.text
