use Rattle.std.proofs.Common.{drop}
use Rattle.wire_body.proofs.Behind.{Behind}
use Rattle.wire_body.proofs.bodies.decode_body.Given as goal

abbrev pub invariant-loop-value_type : goal.invariant-loop-value_type
invariant-loop-value_type l = Behind l.order l.types (drop l.value_type-index l.types) l.values.items l.at l.bytes
