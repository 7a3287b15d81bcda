use Rattle.std.proofs.Common.{◌-◌, ◌∙◌, Some, length, arith, ap, sym}
use Rattle.std.proofs.lemmas.Result.{err_from_is_err_and}
use Rattle.wire_number.specs.Reading.{made}
use Rattle.wire_number.specs.ReaderView.{cursor_of}
use Rattle.wire_encoding.specs.Reading.{many_at}
use Rattle.wire_encoding.proofs.Loops.{refuses_as}
use Rattle.wire_argument.specs.Entries.{pair_at}
use Rattle.wire_argument.specs.Kinds.{both}
use Rattle.wire_argument.proofs.Dicts.{dict_shut, dict_read, array_found, array_refused, array_none}
use Rattle.wire_argument.proofs.dict.DictArgument.decode.Goals as goal

pub returns-then-room-eq0 : goal.returns-then-room-eq0
returns-then-room-eq0 g c = dict_shut _ c.args.room c.args.order g.K.Key.basic g.V.Argument.kind (cursor_of c.args.reader) (omega arith)

pub returns-in_default : goal.returns-in_default
returns-in_default g c =
    dict_read (both g.K.Argument.read g.V.Argument.read) c.args.room c.args.order g.K.Key.basic g.V.Argument.kind (cursor_of c.args.reader) (omega arith)
    ∙ array_none 8 _ c.args.order (cursor_of c.args.reader) c.in_default.ensures

pub returns-in_err-entries : goal.returns-in_err-entries
returns-in_err-entries g c =
    let p = err_from_is_err_and c.from_residual.result c.from_residual.ensures.1 in
    rw (p.1, p.2)
    (refuses_as _
    (many_at (length c.in-Some.elements.rest.now) (λ c'. made (both g.K.Argument.read g.V.Argument.read) (pair_at (c.args.room - 1) c.args.order g.K.Key.basic g.V.Argument.kind c'))
    (cursor_of c.in-Some.elements)) _
    (λ none. dict_read (both g.K.Argument.read g.V.Argument.read) c.args.room c.args.order g.K.Key.basic g.V.Argument.kind (cursor_of c.args.reader) (omega arith)
    ∙ array_refused 8 _ c.args.order (cursor_of c.args.reader) (cursor_of c.in-Some.elements, cursor_of c.in-Some.after) c.in-Some.ensures none)
    c.in_err-entries.ensures)

pub returns : goal.returns
returns g c =
    dict_read (both g.K.Argument.read g.V.Argument.read) c.args.room c.args.order g.K.Key.basic g.V.Argument.kind (cursor_of c.args.reader) (omega arith)
    ∙ array_found 8 _ c.args.order (cursor_of c.args.reader) (cursor_of c.in-Some.elements, cursor_of c.in-Some.after) c.in_ok-entries.entries.items c.in-Some.ensures
    c.in_ok-entries.ensures
    ∙ ap (λ es. Some (es, cursor_of c.in-Some.after)) (sym c.from_vec.ensures)
