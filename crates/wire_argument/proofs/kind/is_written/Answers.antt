use Rattle.std.proofs.Common.{◌∙◌, subst}
use Rattle.wire_argument.specs.Arguments.{IsWritten}
use Rattle.wire_argument.proofs.TypeTexts.{kind_tells}
use Rattle.wire_argument.proofs.kind.is_written.Goals as goal

pub returns-then-written : goal.returns-then-written
returns-then-written c =
    λ kind f w. kind_tells c.eq.result c.args.value_type.now kind _ _ c.put_text-end.ensures.text.valid f c.put_text-end.ensures.text.text
    (c.as_bytes.ensures ∙ subst (λ b. IsWritten b c.args.text.now kind) c.if-written.true w) c.eq.ensures
