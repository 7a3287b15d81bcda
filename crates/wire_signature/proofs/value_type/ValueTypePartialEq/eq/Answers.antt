use Rattle.std.proofs.Common.{subst}
use Rattle.wire_signature.specs.SingleType.{IsType}
use Rattle.wire_signature.proofs.Equal.{types_test}
use Rattle.wire_signature.proofs.value_type.ValueTypePartialEq.eq.Goals as goal

pub returns : goal.returns
returns c =
    types_test c.is_same.result c.args.self.now c.args.other.now
    (subst IsType c.self.view_is c.self.invariant) (subst IsType c.other.view_is c.other.invariant) c.is_same.ensures
