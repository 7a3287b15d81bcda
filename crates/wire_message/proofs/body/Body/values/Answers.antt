use Rattle.std.proofs.Common.{refl, sym}
use Rattle.wire_message.proofs.BodyFound.{begins, begins_none, one_types, types_encoded}
use Rattle.wire_message.proofs.body.Body.values.Goals as goal

pub from_parts-requires : goal.from_parts-requires
from_parts-requires c = sym (types_encoded _ 0 c.in_ok-types.types c.in-Ok.values.items _ c.in-Ok.ensures.found)

pub returns-in-Ok : goal.returns-in-Ok
returns-in-Ok c =
    let there =
    begins (λ ds. ds) c.order.result c.in_ok-types.types c.in_ok-types.types c.body_bytes.result.now c.in-Ok.values.items c.from_parts.result c.in-Ok._count c.from_parts.result refl
    c.from_parts.ensures c.in_ok-types.ensures.types.valid c.in-Ok.ensures.found c.in-Ok.ensures.only refl in
    (c.in_ok-types.types, c.in_ok-types.ensures.types, rw (← c.self.view_is) (rw (c.order.ensures, c.body_bytes.ensures) at there))

pub returns-in-Err-Malformed : goal.returns-in-Err-Malformed
returns-in-Err-Malformed c = λ types h.
    let one = one_types c.args.self.now c.in_ok-types.types types c.in_ok-types.ensures.types h in
    let none = begins_none c.order.result c.in_ok-types.types c.body_bytes.result.now (rw c.in-Err-Malformed.field-0-is at c.in-Err-Malformed.ensures.error) in
    rw (← c.self.view_is, ← one) (rw (c.order.ensures, c.body_bytes.ensures) at none)
