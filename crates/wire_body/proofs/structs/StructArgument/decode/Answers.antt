use Rattle.std.proofs.Common.{arith}
use Rattle.std.proofs.lemmas.Result.{err_from_is_err_and}
use Rattle.wire_signature.specs.SingleType.{single_types_of}
use Rattle.wire_body.proofs.Inside.{no_room, padding_refused, struct_refused, struct_found}
use Rattle.wire_body.proofs.structs.StructArgument.decode.Goals as goal

pub returns-then-room-eq0 : goal.returns-then-room-eq0
returns-then-room-eq0 g c = no_room g.T.ToBody.read _ (single_types_of g.T.ToBody.kinds) _ _ (omega arith)

pub returns-in_err-inside : goal.returns-in_err-inside
returns-in_err-inside g c =
    let p = err_from_is_err_and c.from_residual.result c.from_residual.ensures.1 in
    rw (p.1, p.2) (padding_refused g.T.ToBody.read _ (single_types_of g.T.ToBody.kinds) _ _ (omega arith) _ c.in_err-inside.ensures)

pub returns-in_err-fields : goal.returns-in_err-fields
returns-in_err-fields g c =
    let p = err_from_is_err_and c.from_residual-in_err-fields.result c.from_residual-in_err-fields.ensures.1 in
    rw (p.1, p.2) (struct_refused g.T.ToBody.read _ (single_types_of g.T.ToBody.kinds) _ _ (omega arith) _ c.in_ok-inside.ensures _ c.in_err-fields.ensures)

pub returns : goal.returns
returns g c = struct_found g.T.ToBody.read _ (single_types_of g.T.ToBody.kinds) _ _ (omega arith) _ c.in_ok-inside.ensures _ c.in_ok-fields.ensures
