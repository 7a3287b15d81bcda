use Rattle.std.proofs.lemmas.Result.{err_from_is_err_and}
use Rattle.wire_tree.specs.Datum.{data_of}
use Rattle.wire_codec.proofs.Writes.{struct_written, struct_refused}
use Rattle.wire_body.proofs.Inside.{all_well_typed}
use Rattle.wire_body.proofs.structs.StructArgument.encode.Goals as goal

pub returns-in_err-pad : goal.returns-in_err-pad
returns-in_err-pad g c =
    let p = err_from_is_err_and c.from_residual.result c.from_residual.ensures.1 in
    rw (p.1, p.2) (struct_refused _ (data_of (g.T.ToBody.datums c.args.self.now)) _ _ c.in_err-pad.ensures)

pub encode-requires : goal.encode-requires
encode-requires g c = record { well_typed = rw c.self.view_is (all_well_typed (g.T.ToBody.datums c.args.self.now) c.requires.well_typed) }

pub returns : goal.returns
returns g c =
    rw (← c.self.view_is) (struct_written _ (data_of (g.T.ToBody.datums c.self.inside.fields)) _ _ _ c.in_ok-pad.ensures c.encode.ensures)
