use Rattle.std.proofs.Common.{length, map-id, Some, ◌∙◌, ap, refl, subst, sym}
use Rattle.std.proofs.lemmas.Result.{err_from_is_err_and}
use Rattle.wire_tree.specs.Datum.{boolean, uint16, uint32, uint64}
use Rattle.wire_tree.specs.Packed.{fixed_type, type16, type32, type64}
use Rattle.wire_tree.specs.declared.numbers.Fixed.{Fixed}
use Rattle.wire_number.specs.ReaderView.{cursor_of}
use Rattle.wire_encoding.specs.Reading.{many_at, num_value_at}
use Rattle.wire_encoding.specs.ReaderView.{Refuses}
use Rattle.wire_codec.proofs.PackedReads.{found_as, refused_as, same_16, same_32, same_64}
use Rattle.wire_codec.proofs.read_packed.read_packed.Goals as goal

pub returns-in_err-read_bytes-in-Byte-clause-found : goal.returns-in_err-read_bytes-in-Byte-clause-found
returns-in_err-read_bytes-in-Byte-clause-found c =
    let p = err_from_is_err_and c.from_residual.result c.from_residual.ensures.1 in
    rw (p.1, p.2)
    (subst (λ (f : Fixed). Refuses c.in_err-read_bytes-in-Byte.field-0.0 (many_at (length c.args.elements.rest.now) (num_value_at (fixed_type f) c.args.order) (cursor_of c.args.elements))) (sym c.in-Byte.is)
    (c.in_err-read_bytes-in-Byte.ensures c.args.order c.args.elements.place))

pub returns-in_ok-read_bytes-in-Byte-clause-found : goal.returns-in_ok-read_bytes-in-Byte-clause-found
returns-in_ok-read_bytes-in-Byte-clause-found c =
    ap (λ f. many_at (length c.args.elements.rest.now) (num_value_at (fixed_type f) c.args.order) (cursor_of c.args.elements)) c.in-Byte.is
    ∙ c.in_ok-read_bytes-in-Byte.ensures c.args.order c.args.elements.place

pub returns-in_err-read_numbers-in-Boolean-clause-found : goal.returns-in_err-read_numbers-in-Boolean-clause-found
returns-in_err-read_numbers-in-Boolean-clause-found c =
    let p = err_from_is_err_and c.from_residual-in_err-read_numbers-in-Boolean.result c.from_residual-in_err-read_numbers-in-Boolean.ensures.1 in
    rw (p.1, p.2)
    (refused_as _ c.args.fixed boolean boolean c.args.order (length c.args.elements.rest.now) (cursor_of c.args.elements) (ap fixed_type c.in-Boolean.is) (λ c. refl) c.requires
    c.in_err-read_numbers-in-Boolean.ensures.found)

pub returns-in_ok-read_numbers-in-Boolean-clause-found : goal.returns-in_ok-read_numbers-in-Boolean-clause-found
returns-in_ok-read_numbers-in-Boolean-clause-found c =
    found_as c.args.fixed boolean boolean c.args.order (length c.args.elements.rest.now) (cursor_of c.args.elements) _ (ap fixed_type c.in-Boolean.is) (λ c. refl) c.requires
    c.in_ok-read_numbers-in-Boolean.ensures.found

pub returns-in_err-read_numbers-in-Of16-clause-found : goal.returns-in_err-read_numbers-in-Of16-clause-found
returns-in_err-read_numbers-in-Of16-clause-found c =
    let p = err_from_is_err_and c.from_residual-in_err-read_numbers-in-Of16.result c.from_residual-in_err-read_numbers-in-Of16.ensures.1 in
    rw (p.1, p.2)
    (refused_as _ c.args.fixed (type16 c.in-Of16.fixed) uint16 c.args.order (length c.args.elements.rest.now) (cursor_of c.args.elements) (ap fixed_type c.in-Of16.is)
    (same_16 c.in-Of16.fixed c.args.order) c.requires c.in_err-read_numbers-in-Of16.ensures.found)

pub returns-in_ok-read_numbers-in-Of16-clause-found : goal.returns-in_ok-read_numbers-in-Of16-clause-found
returns-in_ok-read_numbers-in-Of16-clause-found c =
    found_as c.args.fixed (type16 c.in-Of16.fixed) uint16 c.args.order (length c.args.elements.rest.now) (cursor_of c.args.elements) _ (ap fixed_type c.in-Of16.is)
    (same_16 c.in-Of16.fixed c.args.order) c.requires (c.in_ok-read_numbers-in-Of16.ensures.found ∙ ap Some (map-id _))

pub returns-in_err-read_numbers-in-Of32-clause-found : goal.returns-in_err-read_numbers-in-Of32-clause-found
returns-in_err-read_numbers-in-Of32-clause-found c =
    let p = err_from_is_err_and c.from_residual-in_err-read_numbers-in-Of32.result c.from_residual-in_err-read_numbers-in-Of32.ensures.1 in
    rw (p.1, p.2)
    (refused_as _ c.args.fixed (type32 c.in-Of32.fixed) uint32 c.args.order (length c.args.elements.rest.now) (cursor_of c.args.elements) (ap fixed_type c.in-Of32.is)
    (same_32 c.in-Of32.fixed c.args.order) c.requires c.in_err-read_numbers-in-Of32.ensures.found)

pub returns-in_ok-read_numbers-in-Of32-clause-found : goal.returns-in_ok-read_numbers-in-Of32-clause-found
returns-in_ok-read_numbers-in-Of32-clause-found c =
    found_as c.args.fixed (type32 c.in-Of32.fixed) uint32 c.args.order (length c.args.elements.rest.now) (cursor_of c.args.elements) _ (ap fixed_type c.in-Of32.is)
    (same_32 c.in-Of32.fixed c.args.order) c.requires (c.in_ok-read_numbers-in-Of32.ensures.found ∙ ap Some (map-id _))

pub returns-in_err-read_numbers-in-Of64-clause-found : goal.returns-in_err-read_numbers-in-Of64-clause-found
returns-in_err-read_numbers-in-Of64-clause-found c =
    let p = err_from_is_err_and c.from_residual-in_err-read_numbers-in-Of64.result c.from_residual-in_err-read_numbers-in-Of64.ensures.1 in
    rw (p.1, p.2)
    (refused_as _ c.args.fixed (type64 c.in-Of64.fixed) uint64 c.args.order (length c.args.elements.rest.now) (cursor_of c.args.elements) (ap fixed_type c.in-Of64.is)
    (same_64 c.in-Of64.fixed c.args.order) c.requires c.in_err-read_numbers-in-Of64.ensures.found)

pub returns-in_ok-read_numbers-in-Of64-clause-found : goal.returns-in_ok-read_numbers-in-Of64-clause-found
returns-in_ok-read_numbers-in-Of64-clause-found c =
    found_as c.args.fixed (type64 c.in-Of64.fixed) uint64 c.args.order (length c.args.elements.rest.now) (cursor_of c.args.elements) _ (ap fixed_type c.in-Of64.is)
    (same_64 c.in-Of64.fixed c.args.order) c.requires (c.in_ok-read_numbers-in-Of64.ensures.found ∙ ap Some (map-id _))
