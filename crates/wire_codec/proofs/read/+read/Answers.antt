use Rattle.std.proofs.Common.{◌+◌, ◌-◌, length, None, arith, ◌∙◌, ap}
use Rattle.std.proofs.lemmas.Bool.Decides.{nat_tests}
use Rattle.std.proofs.lemmas.List.{map-append}
use Rattle.std.proofs.lemmas.Result.{err_from_is_err_and}
use Rattle.wire_tree.specs.Datum.{entry_type}
use Rattle.wire_encoding.specs.Reading.{value_at}
use Rattle.wire_number.specs.ReaderView.{cursor_of}
use Rattle.wire_number.specs.declared.reader.Reader.{Reader}
use Rattle.wire_encoding.proofs.Loops.{many_none, joined, joined_more, joined_field, joined_done, joined_fields, fields_next, refuses_as, value_in_room}
use Rattle.wire_tree.specs.Packed.{fixed_type}
use Rattle.wire_codec.proofs.PackedReads.{begun, numbers_begin, array_found, array_refused}
use Rattle.wire_codec.proofs.read.+read.Goals as goal

pub read_value-returns-else-room-eq0 : goal.read_value-returns-else-room-eq0
read_value-returns-else-room-eq0 t c =
    rw (value_in_room c.args.room c.args.order c.args.value_type.now (cursor_of c.args.reader) (omega arith)) c.read_kind.ensures

pub read_items-returns-in_err-item : goal.read_items-returns-in_err-item
read_items-returns-in_err-item t c =
    let p = err_from_is_err_and c.from_residual.result c.from_residual.ensures.1 in
    rw (p.1, p.2)
    (refuses_as _ (value_at c.args.room c.args.order c.args.element.now (cursor_of c.loop.left)) _
    (λ none. c.loop.invariant ∙ ap (joined _) (many_none (length c.args.elements.rest.now - c.loop.counter - 1) _ _ (cursor_of c.loop.left) (omega arith) (grind (arith, nat_tests)) none))
    c.in_err-item.ensures)

pub read_items-loop-preserved : goal.read_items-loop-preserved
read_items-loop-preserved t c =
    rw (c.in_ok-push.ensures.items, map-append)
    (joined_more (length c.args.elements.rest.now - (c.loop.counter + 1)) _ _ (cursor_of c.loop.left) _ _ _ c.loop.invariant (omega arith) (grind (arith, nat_tests)) c.in_ok-item.ensures)

pub read_entries-returns-in_err-pair : goal.read_entries-returns-in_err-pair
read_entries-returns-in_err-pair t c =
    let p = err_from_is_err_and c.from_residual.result c.from_residual.ensures.1 in
    rw (p.1, p.2)
    (refuses_as _ (value_at c.args.room c.args.order (entry_type c.args.key c.args.value.now) (cursor_of c.loop.left)) _
    (λ none. c.loop.invariant ∙ ap (joined _) (many_none (length c.args.entries.rest.now - c.loop.counter - 1) _ _ (cursor_of c.loop.left) (omega arith) (grind (arith, nat_tests)) none))
    c.in_err-pair.ensures)

pub read_entries-loop-preserved : goal.read_entries-loop-preserved
read_entries-loop-preserved t c =
    rw (c.in_ok-push.ensures.items, map-append)
    (joined_more (length c.args.entries.rest.now - (c.loop.counter + 1)) _ _ (cursor_of c.loop.left) _ _ _ c.loop.invariant (omega arith) (grind (arith, nat_tests)) c.in_ok-pair.ensures)

pub read_fields-returns-in_err-item : goal.read_fields-returns-in_err-item
read_fields-returns-in_err-item t c =
    let p = err_from_is_err_and c.from_residual-in_err-item.result c.from_residual-in_err-item.ensures.1 in
    rw (p.1, p.2)
    (refuses_as _ (value_at c.args.room c.args.order c.each-item.result (cursor_of c.loop-each.stand)) _
    (λ none. c.loop-each.invariant ∙ ap (joined_fields _) (fields_next _ _ c.loop-each.each-index _ _ None (omega arith) c.each-item.is none))
    c.in_err-item.ensures)

pub read_fields-loop-each-preserved : goal.read_fields-loop-each-preserved
read_fields-loop-each-preserved t c =
    rw (c.in_ok-push.ensures.items, map-append)
    (joined_field _ _ c.loop-each.each-index _ _ _ _ _ c.loop-each.invariant (omega arith) c.each-item.is c.in_ok-item.ensures)

pub read_fields-returns : goal.read_fields-returns
read_fields-returns t c = joined_done _ _ c.loop-each.each-index _ _ _ c.loop-each.invariant (omega arith)

pub read_array-read_packed-requires : goal.read_array-read_packed-requires
read_array-read_packed-requires t c =
    let x : Reader × Reader = (c.in_ok-elements.elements, c.in_ok-elements.after) in
    numbers_begin c.args.element.now (fixed_type c.in-Some.fixed) c.args.order (cursor_of c.args.reader) (cursor_of x.0, cursor_of x.1) c.in-Some.ensures.some
    (begun c.args.order c.boundary.result c.args.element.now (cursor_of c.args.reader) c.elements.result x c.boundary.ensures.exact c.in_ok-elements.ensures.ok_part c.elements.ensures)

pub read_array-returns-in_err-numbers-in-Some : goal.read_array-returns-in_err-numbers-in-Some
read_array-returns-in_err-numbers-in-Some t c =
    let x : Reader × Reader = (c.in_ok-elements.elements, c.in_ok-elements.after) in
    let p = err_from_is_err_and c.from_residual-in_err-numbers-in-Some.result c.from_residual-in_err-numbers-in-Some.ensures.1 in
    rw (p.1, p.2)
    (array_refused _ c.args.element.now (fixed_type c.in-Some.fixed) c.args.room c.args.order (cursor_of c.args.reader) (cursor_of x.0, cursor_of x.1) c.in-Some.ensures.some
    (begun c.args.order c.boundary.result c.args.element.now (cursor_of c.args.reader) c.elements.result x c.boundary.ensures.exact c.in_ok-elements.ensures.ok_part c.elements.ensures)
    c.in_err-numbers-in-Some.ensures.found)

pub read_array-returns-in_ok-numbers-in-Some : goal.read_array-returns-in_ok-numbers-in-Some
read_array-returns-in_ok-numbers-in-Some t c =
    let x : Reader × Reader = (c.in_ok-elements.elements, c.in_ok-elements.after) in
    array_found c.args.element.now (fixed_type c.in-Some.fixed) _ c.args.room c.args.order (cursor_of c.args.reader) (cursor_of x.0, cursor_of x.1) _ c.in-Some.ensures.some
    c.in_ok-numbers-in-Some.ensures.kind
    (begun c.args.order c.boundary.result c.args.element.now (cursor_of c.args.reader) c.elements.result x c.boundary.ensures.exact c.in_ok-elements.ensures.ok_part c.elements.ensures)
    c.in_ok-numbers-in-Some.ensures.found
