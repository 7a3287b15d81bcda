use Rattle.std.proofs.lemmas.Result.{err_from_is_err_and}
use Rattle.wire_codec.proofs.Writes.{struct_refused, entry_written, key_refused}
use Rattle.wire_argument.proofs.dict.encode_entry.Goals as goal

pub returns-in_err-pad : goal.returns-in_err-pad
returns-in_err-pad g c =
    let p = err_from_is_err_and c.from_residual.result c.from_residual.ensures.1 in rw (p.1, p.2) (struct_refused _ _ _ _ c.in_err-pad.ensures)

pub returns-in_err-encode : goal.returns-in_err-encode
returns-in_err-encode g c =
    let p = err_from_is_err_and c.from_residual-in_err-encode.result c.from_residual-in_err-encode.ensures.1 in
    rw (p.1, p.2) (key_refused _ _ (g.V.Argument.datum c.args.value.now) _ _ _ c.in_ok-pad.ensures c.in_err-encode.ensures)

pub returns : goal.returns
returns g c = entry_written _ _ _ _ _ _ _ c.in_ok-pad.ensures c.in_ok-encode.ensures c.encode-2.ensures
