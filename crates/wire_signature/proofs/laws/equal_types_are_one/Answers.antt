use Rattle.wire_signature.proofs.Equal.{signatures_decide, types_decide}
use Rattle.wire_signature.proofs.laws.equal_types_are_one.Goals as goal

pub returns-clause-types : goal.returns-clause-types
returns-clause-types c = types_decide

pub returns-clause-signatures : goal.returns-clause-signatures
returns-clause-signatures c = signatures_decide
