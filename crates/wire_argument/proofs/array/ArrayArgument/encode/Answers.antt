use Rattle.std.proofs.Common.{map}
use Rattle.std.proofs.lemmas.Result.{err_from_is_err_and}
use Rattle.wire_tree.specs.Datum.{data_of}
use Rattle.wire_codec.proofs.Writes.{array_written, opening_refused, stays_open}
use Rattle.wire_argument.proofs.Elements.{elements_well}
use Rattle.wire_argument.proofs.array.ArrayArgument.encode.Goals as goal

pub returns-in_err-array : goal.returns-in_err-array
returns-in_err-array g c =
    let p = err_from_is_err_and c.from_residual.result c.from_residual.ensures.1 in
    rw (p.1, p.2) (opening_refused _ g.T.Argument.kind _ (data_of (map g.T.Argument.datum c.args.self.now)) _ _ c.alignment.ensures c.in_err-array.ensures)

pub encode_each-written-requires-clause-well_typed : goal.encode_each-written-requires-clause-well_typed
encode_each-written-requires-clause-well_typed g c = rw c.as_slice.ensures (elements_well g.T.Argument.kind (data_of (map g.T.Argument.datum c.args.self.now)) c.requires.well_typed)

pub close_array-requires : goal.close_array-requires
close_array-requires g c = stays_open _ _ _ _ c.in_ok-array.ensures _ _ _ _ c.encode_each-written.ensures

pub returns : goal.returns
returns g c =
    array_written _ g.T.Argument.kind _ (data_of (map g.T.Argument.datum c.args.self.now)) _ _ _ _ _ c.alignment.ensures c.in_ok-array.ensures
    (rw c.as_slice.ensures at c.encode_each-written.ensures) c.close_array.ensures
