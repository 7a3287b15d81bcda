use Rattle.std.proofs.Common.{map, refl, arith}
use Rattle.std.proofs.lemmas.Result.{err_from_is_err_and}
use Rattle.wire_signature.specs.declared.basic.BasicType.TheVariants as basics
use Rattle.wire_signature.specs.SingleType.{basic}
use Rattle.wire_tree.specs.Datum.{byte, num, data_of}
use Rattle.wire_codec.proofs.Writes.{array_written, opening_refused, stays_open, elements_placed}
use Rattle.wire_codec.proofs.PackedWrites.{numbers_written}
use Rattle.wire_argument.proofs.bytes.BytesArgument.encode.Goals as goal

pub returns-in_err-array : goal.returns-in_err-array
returns-in_err-array c =
    let p = err_from_is_err_and c.from_residual.result c.from_residual.ensures.1 in
    rw (p.1, p.2) (opening_refused _ (basic basics.Byte) 1 (data_of (map (num byte) c.args.self.now)) _ _ refl c.in_err-array.ensures)

pub close_array-requires : goal.close_array-requires
close_array-requires c = stays_open _ _ _ _ c.in_ok-array.ensures _ _ _ _ c.write_bytes-written.ensures

pub returns : goal.returns
returns c =
    array_written _ (basic basics.Byte) 1 (data_of (map (num byte) c.args.self.now)) _ _ _ _ _ refl c.in_ok-array.ensures
    (numbers_written _ byte c.args.self.now 1 _ _ refl (elements_placed _ _ _ _ c.in_ok-array.ensures (omega arith)) (rw c.as_slice.ensures.value at c.write_bytes-written.ensures)) c.close_array.ensures
