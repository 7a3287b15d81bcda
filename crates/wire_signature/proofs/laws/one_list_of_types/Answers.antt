use Rattle.wire_signature.proofs.Exact.{SignatureText-one}
use Rattle.wire_signature.proofs.laws.one_list_of_types.Goals as goal

pub returns : goal.returns
returns c = SignatureText-one
