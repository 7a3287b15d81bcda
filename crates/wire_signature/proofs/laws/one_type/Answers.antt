use Rattle.wire_signature.proofs.Exact.{TypeText-one}
use Rattle.wire_signature.proofs.laws.one_type.Goals as goal

pub returns : goal.returns
returns c = TypeText-one
