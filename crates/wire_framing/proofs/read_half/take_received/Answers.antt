use Rattle.std.proofs.Common.{◌∙◌, ap, drop, Err}
use Rattle.wire_message.specs.declared.received.Received.{Received}
use Rattle.wire_framing.specs.Kept.{rest_of}
use Rattle.wire_framing.proofs.Kept.{spent_own}
use Rattle.wire_framing.proofs.read_half.take_received.Goals as goal

pub returns-in-Ok-clause-rest : goal.returns-in-Ok-clause-rest
returns-in-Ok-clause-rest c =
    let took = c.in-Ok.ensures in
    let bytes = c.args.bytes.now.items in
    took.rest ∙ ap (λ n. drop n bytes) (spent_own bytes c.in-Ok.received c.requires took.found)

pub returns-in-Err-clause-rest : goal.returns-in-Err-clause-rest
returns-in-Err-clause-rest c = c.discard.ensures ∙ ap (rest_of {A = Received} (Err c.in-Err.error)) c.in-Err.ensures.rest
