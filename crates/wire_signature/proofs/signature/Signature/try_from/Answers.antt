use Rattle.wire_signature.proofs.Exact.{signature_told}
use Rattle.wire_signature.proofs.signature.Signature.try_from.Goals as goal

pub returns-clause-told : goal.returns-clause-told
returns-clause-told c = signature_told _ _ c.read.ensures
