use Rattle.std.proofs.Common.{arith}
use Rattle.wire_message.proofs.Each.{spans_with}
use Rattle.wire_message.proofs.field_offsets.FieldsOf+Span.set_value.Goals as goal

pub returns-in-Text-clause-spans : goal.returns-in-Text-clause-spans
returns-in-Text-clause-spans c = λ n s h. rw c.set_text.ensures (spans_with n c.args.code _ c.args.self.now (omega arith, omega arith) s)
