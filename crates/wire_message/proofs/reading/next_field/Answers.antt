use Rattle.std.proofs.Common.{Some, None, option_map, ap, ◌∙◌, arith}
use Rattle.wire_number.specs.Reading.{Cursor, made}
use Rattle.wire_number.specs.ReaderView.{cursor_of}
use Rattle.wire_message.specs.HeaderField.{known}
use Rattle.wire_message.proofs.HeaderFields.{next-unaligned, next-known, next-ignored, bytes-behind}
use Rattle.wire_message.proofs.reading.next_field.Goals as goal

pub returns-in_err-start : goal.returns-in_err-start
returns-in_err-start c = rw c.from_residual.ensures (ap (made known) (next-unaligned c.args.order (cursor_of c.args.reader) c.in_err-start.ensures))

pub returns-in_err-count : goal.returns-in_err-count
returns-in_err-count c =
    rw c.from_residual-in_err-count.ensures
    (next-ignored c.args.order (cursor_of c.args.reader) (cursor_of c.in_ok-start.start) c.in_ok-start.ensures (omega (arith, c.first_byte.ensures, c.if-first_byte-gt-LAST_CODE.true)) (omega (arith, c.first_byte.ensures))
    ∙ ap (option_map (λ k. (None, k))) c.in_err-count.ensures.found)

pub returns-then-first_byte-gt-LAST_CODE : goal.returns-then-first_byte-gt-LAST_CODE
returns-then-first_byte-gt-LAST_CODE c =
    next-ignored c.args.order (cursor_of c.args.reader) (cursor_of c.in_ok-start.start) c.in_ok-start.ensures (omega (arith, c.first_byte.ensures, c.if-first_byte-gt-LAST_CODE.true)) (omega (arith, c.first_byte.ensures))
    ∙ ap (option_map (λ k. (None, k))) c.in_ok-count.ensures.found
    ∙ ap (λ (k : Cursor). Some (None, k)) (bytes-behind c.in_ok-count.count (cursor_of c.args.reader) _ c.in_ok-after.ensures)

pub returns-in_err-field : goal.returns-in_err-field
returns-in_err-field c =
    rw c.from_residual-in_err-field.ensures
    (next-known c.args.order (cursor_of c.args.reader) (cursor_of c.in_ok-start.start) c.in_ok-start.ensures (omega (arith, c.first_byte.ensures, c.if-first_byte-gt-LAST_CODE.false)) ∙ ap (made Some) c.in_err-field.ensures)

pub returns : goal.returns
returns c =
    next-known c.args.order (cursor_of c.args.reader) (cursor_of c.in_ok-start.start) c.in_ok-start.ensures (omega (arith, c.first_byte.ensures, c.if-first_byte-gt-LAST_CODE.false)) ∙ ap (made Some) c.in_ok-field.ensures
