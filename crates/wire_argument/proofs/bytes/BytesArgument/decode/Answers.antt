use Rattle.std.proofs.Common.{arith}
use Rattle.std.proofs.lemmas.Result.{err_from_is_err_and}
use Rattle.wire_signature.specs.declared.basic.BasicType.TheVariants as basics
use Rattle.wire_signature.specs.SingleType.{basic}
use Rattle.wire_number.specs.ReaderView.{cursor_of}
use Rattle.wire_argument.proofs.ArrayReads.{none_inside}
use Rattle.wire_argument.proofs.ByteReads.{bytes_found, bytes_refused, no_bytes}
use Rattle.wire_argument.proofs.bytes.BytesArgument.decode.Goals as goal

pub returns-then-room-eq0 : goal.returns-then-room-eq0
returns-then-room-eq0 c = none_inside _ c.args.room c.args.order (basic basics.Byte) (cursor_of c.args.reader) (omega arith)

pub returns-in_err-bytes-in-Some : goal.returns-in_err-bytes-in-Some
returns-in_err-bytes-in-Some c =
    let p = err_from_is_err_and c.from_residual.result c.from_residual.ensures.1 in
    rw (p.1, p.2)
    (bytes_refused _ c.args.room c.args.order (cursor_of c.args.reader) (cursor_of c.in-Some.inner) (cursor_of c.in-Some.after) (omega arith) c.in-Some.ensures
    (c.in_err-bytes-in-Some.ensures c.args.order c.in-Some.inner.place))

pub returns-in_ok-bytes-in-Some : goal.returns-in_ok-bytes-in-Some
returns-in_ok-bytes-in-Some c =
    bytes_found c.args.room c.args.order (cursor_of c.args.reader) (cursor_of c.in-Some.inner) (cursor_of c.in-Some.after) c.in_ok-bytes-in-Some.bytes (omega arith) c.in-Some.ensures
    (c.in_ok-bytes-in-Some.ensures c.args.order c.in-Some.inner.place)

pub returns-in-None : goal.returns-in-None
returns-in-None c = no_bytes c.args.room c.args.order (cursor_of c.args.reader) (omega arith) c.in-None.ensures
