use Rattle.wire_signature.proofs.Exact.{type_told}
use Rattle.wire_signature.proofs.value_type.ValueType.try_from.Goals as goal

pub returns-clause-told : goal.returns-clause-told
returns-clause-told c = type_told _ _ c.read.ensures
