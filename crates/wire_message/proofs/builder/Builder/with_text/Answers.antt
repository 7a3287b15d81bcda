use Rattle.wire_message.proofs.Setting.{set_text}
use Rattle.wire_message.proofs.builder.Builder.with_text.Goals as goal

pub invariant_of-result : goal.invariant_of-result
invariant_of-result c = rw c.set_text.ensures (set_text _ c.args.code c.args.text c.self.invariant c.requires)
