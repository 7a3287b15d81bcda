use Rattle.std.proofs.Common.{◌-◌, length, map, Some, sym, ◌∙◌, ap, arith}
use Rattle.std.proofs.lemmas.Result.{err_from_is_err_and}
use Rattle.wire_signature.specs.SingleType.{array as array_of, alignment}
use Rattle.wire_number.specs.Reading.{made, ◌>>=◌}
use Rattle.wire_number.specs.ReaderView.{cursor_of}
use Rattle.wire_tree.specs.Datum.{array, data_of}
use Rattle.wire_tree.proofs.Lists.{list_of-data_of}
use Rattle.wire_encoding.specs.Reading.{many_at, value_at}
use Rattle.wire_encoding.proofs.Loops.{refuses_as, value_in_room}
use Rattle.wire_encoding.proofs.Packed.{elements_start}
use Rattle.wire_encoding.proofs.Shift.{boundary_some}
use Rattle.wire_argument.specs.Kinds.{elements_in}
use Rattle.wire_argument.proofs.ArrayReads.{array_made, no_array, none_inside, begun}
use Rattle.wire_argument.proofs.array.ArrayArgument.decode.Goals as goal

pub returns-then-room-eq0 : goal.returns-then-room-eq0
returns-then-room-eq0 g c = none_inside _ c.args.room c.args.order g.T.Argument.kind (cursor_of c.args.reader) (omega arith)

pub decode_each-requires : goal.decode_each-requires
decode_each-requires g c =
    let t = g.T.Argument.kind in
    elements_start c.args.order (alignment t) (cursor_of c.args.reader) (cursor_of c.in-Some.inner, cursor_of c.in-Some.after)
    (begun c.args.order _ _ (cursor_of c.args.reader) _ c.alignment.ensures c.in-Some.ensures) (boundary_some t)

pub returns-in_err-items-in-Some : goal.returns-in_err-items-in-Some
returns-in_err-items-in-Some g c =
    let t = g.T.Argument.kind in
    let p = err_from_is_err_and c.from_residual.result c.from_residual.ensures.1 in
    rw (p.1, p.2)
    (refuses_as _ (many_at (length c.in-Some.inner.rest.now) (λ k. made g.T.Argument.read (value_at (c.args.room - 1) c.args.order t k)) (cursor_of c.in-Some.inner)) _
    (λ none.
    ap (made (λ d. map g.T.Argument.read (elements_in d))) (value_in_room c.args.room c.args.order (array_of t) (cursor_of c.args.reader) (omega arith))
    ∙ array_made g.T.Argument.read (λ ds. array t (data_of ds)) (λ d. map g.T.Argument.read (elements_in d)) (alignment t) (value_at (c.args.room - 1) c.args.order t) c.args.order (cursor_of c.args.reader)
    (cursor_of c.in-Some.inner, cursor_of c.in-Some.after) (λ ds. ap (map g.T.Argument.read) (list_of-data_of ds))
    (begun c.args.order _ _ (cursor_of c.args.reader) _ c.alignment.ensures c.in-Some.ensures)
    ∙ ap (λ o. o >>= λ ys. Some (ys, cursor_of c.in-Some.after)) none)
    c.in_err-items-in-Some.ensures)

pub returns-in_ok-items-in-Some : goal.returns-in_ok-items-in-Some
returns-in_ok-items-in-Some g c =
    let t = g.T.Argument.kind in
    ap (made (λ d. map g.T.Argument.read (elements_in d))) (value_in_room c.args.room c.args.order (array_of t) (cursor_of c.args.reader) (omega arith))
    ∙ array_made g.T.Argument.read (λ ds. array t (data_of ds)) (λ d. map g.T.Argument.read (elements_in d)) (alignment t) (value_at (c.args.room - 1) c.args.order t) c.args.order (cursor_of c.args.reader)
    (cursor_of c.in-Some.inner, cursor_of c.in-Some.after) (λ ds. ap (map g.T.Argument.read) (list_of-data_of ds))
    (begun c.args.order _ _ (cursor_of c.args.reader) _ c.alignment.ensures c.in-Some.ensures)
    ∙ ap (λ o. o >>= λ ys. Some (ys, cursor_of c.in-Some.after)) c.in_ok-items-in-Some.ensures
    ∙ ap (λ ys. Some (ys, cursor_of c.in-Some.after)) (sym c.from_vec.ensures)

pub returns-in-None : goal.returns-in-None
returns-in-None g c =
    let t = g.T.Argument.kind in
    ap (made (λ d. map g.T.Argument.read (elements_in d))) (value_in_room c.args.room c.args.order (array_of t) (cursor_of c.args.reader) (omega arith))
    ∙ no_array (λ ds. array t (data_of ds)) (λ d. map g.T.Argument.read (elements_in d)) (alignment t) (value_at (c.args.room - 1) c.args.order t) c.args.order (cursor_of c.args.reader)
    (begun c.args.order _ _ (cursor_of c.args.reader) _ c.alignment.ensures c.in-None.ensures)
