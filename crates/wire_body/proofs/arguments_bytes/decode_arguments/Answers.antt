use Rattle.std.proofs.Common.{arith}
use Rattle.std.proofs.lemmas.Result.{err_from_is_err_and}
use Rattle.wire_number.proofs.Steps.{bytes_from}
use Rattle.wire_body.proofs.BodyFronts.{arguments_there, arguments_explained}
use Rattle.wire_body.proofs.arguments_bytes.decode_arguments.Goals as goal

pub returns-in_err-arguments-clause-error : goal.returns-in_err-arguments-clause-error
returns-in_err-arguments-clause-error g c =
    let p = err_from_is_err_and c.from_residual.result c.from_residual.ensures.1 in
    rw (p.1, p.2) (arguments_explained g.T.ToBody.read c.args.order g.T.ToBody.kinds c.args.bytes.now c.in_err-arguments.field-0.0 (rw c.new.ensures at c.in_err-arguments.ensures))

pub returns-clause-found : goal.returns-clause-found
returns-clause-found g c =
    arguments_there g.T.ToBody.read c.args.order g.T.ToBody.kinds c.args.bytes.now c.requires (bytes_from c.args.bytes.now (λ i. omega (arith, c.type_inv.bytes i)))
    c.in_ok-arguments.arguments _ (rw c.new.ensures at c.in_ok-arguments.ensures)
