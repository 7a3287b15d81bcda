use Rattle.wire_body.proofs.Rows.{IsSignature-each}
use Rattle.wire_body.proofs.message.to.Goals as goal

pub into_values-requires : goal.into_values-requires
into_values-requires g c = IsSignature-each g.T.ToBody.kinds c.in_ok-signature.ensures.1
