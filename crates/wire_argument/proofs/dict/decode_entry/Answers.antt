use Rattle.std.proofs.Common.{◌-◌, arith}
use Rattle.std.proofs.lemmas.Result.{err_from_is_err_and}
use Rattle.wire_number.specs.Reading.{made}
use Rattle.wire_number.specs.ReaderView.{cursor_of}
use Rattle.wire_encoding.specs.Reading.{value_at}
use Rattle.wire_encoding.proofs.Loops.{refuses_as}
use Rattle.wire_argument.proofs.Dicts.{pair_shut, pair_none, key_none, key_found}
use Rattle.wire_argument.proofs.dict.decode_entry.Goals as goal

pub returns-then-room-eq0 : goal.returns-then-room-eq0
returns-then-room-eq0 g c =
    pair_shut g.K.Argument.read g.V.Argument.read c.args.room c.args.order g.K.Key.basic g.V.Argument.kind (cursor_of c.args.reader) (omega arith)

pub returns-in_default : goal.returns-in_default
returns-in_default g c =
    pair_none g.K.Argument.read g.V.Argument.read c.args.room c.args.order g.K.Key.basic g.K.Argument.kind g.V.Argument.kind (cursor_of c.args.reader) (omega arith) g.met.K.Key.is_basic
    c.in_default.ensures

pub returns-in_err-key : goal.returns-in_err-key
returns-in_err-key g c =
    let p = err_from_is_err_and c.from_residual.result c.from_residual.ensures.1 in
    rw (p.1, p.2)
    (refuses_as _ (made g.K.Argument.read (value_at (c.args.room - 1) c.args.order g.K.Argument.kind (cursor_of c.in-Some.first))) _
    (key_none g.K.Argument.read g.V.Argument.read c.args.room c.args.order g.K.Key.basic g.K.Argument.kind g.V.Argument.kind (cursor_of c.args.reader) (cursor_of c.in-Some.first)
    (omega arith) g.met.K.Key.is_basic c.in-Some.ensures)
    c.in_err-key.ensures)

pub returns-in_err-value : goal.returns-in_err-value
returns-in_err-value g c =
    let p = err_from_is_err_and c.from_residual-in_err-value.result c.from_residual-in_err-value.ensures.1 in
    rw (p.1, p.2)
    (refuses_as _ (made g.V.Argument.read (value_at (c.args.room - 1) c.args.order g.V.Argument.kind (cursor_of c.in_ok-key.middle))) _
    (key_found g.K.Argument.read g.V.Argument.read c.args.room c.args.order g.K.Key.basic g.K.Argument.kind g.V.Argument.kind (cursor_of c.args.reader) (cursor_of c.in-Some.first)
    (c.in_ok-key.key, cursor_of c.in_ok-key.middle) _ (omega arith) g.met.K.Key.is_basic c.in-Some.ensures c.in_ok-key.ensures)
    c.in_err-value.ensures)

pub returns : goal.returns
returns g c =
    key_found g.K.Argument.read g.V.Argument.read c.args.room c.args.order g.K.Key.basic g.K.Argument.kind g.V.Argument.kind (cursor_of c.args.reader) (cursor_of c.in-Some.first)
    (c.in_ok-key.key, cursor_of c.in_ok-key.middle) _ (omega arith) g.met.K.Key.is_basic c.in-Some.ensures c.in_ok-key.ensures c.in_ok-value.ensures
