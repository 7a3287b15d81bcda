use Rattle.std.proofs.Common.{arith}
use Rattle.wire_signature.specs.SingleType.{SignatureText}
use Rattle.wire_signature.proofs.Exact.{types_valid}
use Rattle.wire_signature.proofs.signature.Signature.read.Goals as goal

pub invariant_of-result : goal.invariant_of-result
invariant_of-result c =
    let k : SignatureText c.in_ok-types.types.items c.as_bytes.result.now =
    types_valid _ _ _ c.in_ok-types.ensures (omega (arith, c.as_bytes.ensures.len)) in k.valid
