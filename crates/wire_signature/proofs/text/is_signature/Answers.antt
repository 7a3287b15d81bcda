use Rattle.wire_signature.proofs.Exact.{is_some-types_in}
use Rattle.wire_signature.proofs.text.is_signature.Goals as goal

pub returns-clause-valid : goal.returns-clause-valid
returns-clause-valid c = is_some-types_in _ _ c.has_types.ensures
