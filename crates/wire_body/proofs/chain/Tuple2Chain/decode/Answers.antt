use Rattle.std.proofs.lemmas.Result.{err_from_is_err_and}
use Rattle.wire_body.proofs.Found.{first_refused, rest_refused, both_found}
use Rattle.wire_body.proofs.chain.Tuple2Chain.decode.Goals as goal

pub returns-in_err-first : goal.returns-in_err-first
returns-in_err-first g c =
    let p = err_from_is_err_and c.from_residual.result c.from_residual.ensures.1 in
    rw (p.1, p.2) (first_refused g.A.Argument.read g.R.Chain.read _ _ _ _ _ c.in_err-first.ensures)

pub returns-in_err-rest : goal.returns-in_err-rest
returns-in_err-rest g c =
    let p = err_from_is_err_and c.from_residual-in_err-rest.result c.from_residual-in_err-rest.ensures.1 in
    rw (p.1, p.2) (rest_refused g.A.Argument.read g.R.Chain.read _ _ _ _ _ _ c.in_ok-first.ensures _ c.in_err-rest.ensures)

pub returns : goal.returns
returns g c = both_found g.A.Argument.read g.R.Chain.read _ _ _ _ _ _ c.in_ok-first.ensures _ _ c.in_ok-rest.ensures
