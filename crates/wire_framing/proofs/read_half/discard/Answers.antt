use Rattle.std.proofs.Common.{◌∙◌, ap, drop}
use Rattle.wire_framing.proofs.Kept.{discarded}
use Rattle.wire_framing.proofs.read_half.discard.Goals as goal

pub returns-in_default : goal.returns-in_default
returns-in_default c = discarded c.args.error.now c.args.bytes.now.items c.remove_front.new.bytes.items c.in_default.not-Memory (c.remove_front.ensures ∙ ap (λ k. drop k c.args.bytes.now.items) (rw c.deref.ensures.value at c.consumed-count.ensures.value))
