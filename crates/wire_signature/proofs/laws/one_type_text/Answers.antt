use Rattle.std.proofs.Common.{sym, ◌∙◌}
use Rattle.wire_signature.proofs.laws.one_type_text.Goals as goal

pub returns : goal.returns
returns c = λ t b d h k. h.text ∙ sym k.text
