use Rattle.std.proofs.lemmas.Result.{err_from_is_err_and}
use Rattle.wire_codec.proofs.Writes.{first_refused, rest_written}
use Rattle.wire_body.proofs.lent.Tuple2RefLent.encode.Goals as goal

pub returns-in_err-encode : goal.returns-in_err-encode
returns-in_err-encode g c =
    let p = err_from_is_err_and c.from_residual.result c.from_residual.ensures.1 in
    rw (p.1, p.2) (first_refused _ _ _ _ _ c.in_err-encode.ensures)

pub returns : goal.returns
returns g c = rest_written _ _ _ _ _ _ c.in_ok-encode.ensures c.encode-2.ensures
