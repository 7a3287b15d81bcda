use Rattle.std.proofs.Common.{map, arith, refl, ap, subst}
use Rattle.std.proofs.lemmas.Result.{err_from_is_err_and}
use Rattle.wire_tree.specs.Datum.{data_of, entries_of, entry_type, AreElements, AreWellTyped, size_of, sizes_of}
use Rattle.wire_tree.specs.DatumView.{datum_of, pair_of, entry_of}
use Rattle.wire_tree.proofs.Parts.{size_item, size_pair, entries_are}
use Rattle.wire_tree.proofs.Checked.{well_typed-item}
use Rattle.wire_encoding.specs.Encoding.{encoding, ArraysFit}
use Rattle.wire_codec.proofs.Writes.{Writing, elements_well_typed, write_next, write_done, write_refused, stays_open, array_written, opening_refused, struct_written, struct_refused, variant_written, variant_refused, entry_written, key_refused}
use Rattle.wire_codec.proofs.write.+write.Goals as goal

pub write_value-write_array-requires : goal.write_value-write_array-requires
write_value-write_array-requires t c =
    let s : AreElements c.in-Array.element (data_of c.in-Array.elements) = rw c.in-Array.is at c.requires.well_typed in (
      omega (arith, ap (λ ds. sizes_of (data_of ds)) c.as_slice.ensures, ap (λ u. size_of (datum_of u)) c.in-Array.is),
      rw c.as_slice.ensures (elements_well_typed _ _ s),
    )

pub write_value-write_dict-requires : goal.write_value-write_dict-requires
write_value-write_dict-requires t c =
    let s : AreElements (entry_type c.in-Dict.field-0 c.in-Dict.field-1) (entries_of c.in-Dict.entries) = rw c.in-Dict.is at c.requires.well_typed in (
      omega (arith, ap (λ es. sizes_of (entries_of es)) c.as_slice-in-Dict.ensures, ap (λ u. size_of (datum_of u)) c.in-Dict.is),
      rw c.as_slice-in-Dict.ensures (elements_well_typed _ _ s),
    )

pub write_value-returns-in-Dict : goal.write_value-returns-in-Dict
write_value-returns-in-Dict t c = rw c.in-Dict.is (rw c.as_slice-in-Dict.ensures at c.write_dict.ensures c.in-Dict.field-0 c.in-Dict.field-1)

pub write_items-loop-each-init : goal.write_items-loop-each-init
write_items-loop-each-init t c = λ r new h. h

pub write_items-write_value-requires : goal.write_items-write_value-requires
write_items-write_value-requires t c = (
  omega (arith, size_item c.args.trees.now c.loop-each.each-index c.each-item.result c.loop-each-test.true c.each-item.is),
  well_typed-item datum_of c.args.trees.now c.loop-each.each-index c.each-item.result c.requires.well_typed c.loop-each-test.true c.each-item.is,
)

pub write_items-returns-in_err-write_value : goal.write_items-returns-in_err-write_value
write_items-returns-in_err-write_value t c =
    let p = err_from_is_err_and c.from_residual.result c.from_residual.ensures.1 in
    rw (p.1, p.2)
    (write_refused datum_of _ _ c.loop-each.each-index _ _ c.loop-each.invariant c.each-item.result _ _ c.loop-each-test.true c.each-item.is c.in_err-write_value.ensures)

pub write_items-loop-each-preserved : goal.write_items-loop-each-preserved
write_items-loop-each-preserved t c =
    write_next datum_of _ _ c.loop-each.each-index _ _ c.loop-each.invariant c.each-item.result _ c.loop-each-test.true c.each-item.is c.in_ok-write_value.ensures

pub write_items-returns : goal.write_items-returns
write_items-returns t c = write_done datum_of _ _ c.loop-each.each-index _ _ c.loop-each.invariant (omega arith)

pub write_entries-write_entry-requires : goal.write_entries-write_entry-requires
write_entries-write_entry-requires t c =
    let s = well_typed-item entry_of c.args.pairs.now c.loop-each.each-index c.each-item.result (subst AreWellTyped (entries_are c.args.pairs.now) c.requires.well_typed) c.loop-each-test.true c.each-item.is in (
      omega (arith, size_pair c.args.pairs.now c.loop-each.each-index c.each-item.result c.loop-each-test.true c.each-item.is),
      (s.0, s.1.0),
    )

pub write_entries-loop-each-init : goal.write_entries-loop-each-init
write_entries-loop-each-init t c =
    subst (λ ds. Writing (entries_of (map pair_of c.args.pairs.now)) ds c.args.encoder.now c.args.encoder.now) (entries_are c.args.pairs.now) (λ r new h. h)

pub write_entries-returns-in_err-write_entry : goal.write_entries-returns-in_err-write_entry
write_entries-returns-in_err-write_entry t c =
    let p = err_from_is_err_and c.from_residual.result c.from_residual.ensures.1 in
    rw (p.1, p.2)
    (write_refused entry_of _ _ c.loop-each.each-index _ _ c.loop-each.invariant c.each-item.result _ _ c.loop-each-test.true c.each-item.is c.in_err-write_entry.ensures)

pub write_entries-loop-each-preserved : goal.write_entries-loop-each-preserved
write_entries-loop-each-preserved t c =
    write_next entry_of _ _ c.loop-each.each-index _ _ c.loop-each.invariant c.each-item.result _ c.loop-each-test.true c.each-item.is c.in_ok-write_entry.ensures

pub write_entries-returns : goal.write_entries-returns
write_entries-returns t c = write_done entry_of _ _ c.loop-each.each-index _ _ c.loop-each.invariant (omega arith)

pub write_array-returns-in_err-array : goal.write_array-returns-in_err-array
write_array-returns-in_err-array t c =
    let p = err_from_is_err_and c.from_residual.result c.from_residual.ensures.1 in
    rw (p.1, p.2) (opening_refused _ c.args.element.now _ (data_of (map datum_of c.args.elements.now)) _ _ c.boundary.ensures.exact c.in_err-array.ensures)

pub write_array-close_array-requires : goal.write_array-close_array-requires
write_array-close_array-requires t c = stays_open _ _ _ _ c.in_ok-array.ensures _ _ _ _ c.write_items-written.ensures

pub write_array-returns : goal.write_array-returns
write_array-returns t c =
    array_written _ c.args.element.now _ (data_of (map datum_of c.args.elements.now)) _ _ _ _ _ c.boundary.ensures.exact c.in_ok-array.ensures c.write_items-written.ensures
    c.close_array.ensures

pub write_dict-returns-in_err-array : goal.write_dict-returns-in_err-array
unfolding encoding ArraysFit
write_dict-returns-in_err-array t c =
    let p = err_from_is_err_and c.from_residual.result c.from_residual.ensures.1 in
    rw (p.1, p.2) (λ k v. opening_refused _ (entry_type k v) 8 (entries_of (map pair_of c.args.pairs.now)) _ _ refl c.in_err-array.ensures)

pub write_dict-close_array-requires : goal.write_dict-close_array-requires
write_dict-close_array-requires t c = stays_open _ _ _ _ c.in_ok-array.ensures _ _ _ _ c.write_entries-written.ensures

pub write_dict-returns : goal.write_dict-returns
unfolding encoding ArraysFit
write_dict-returns t c =
    λ k v. array_written _ (entry_type k v) 8 (entries_of (map pair_of c.args.pairs.now)) _ _ _ _ _ refl c.in_ok-array.ensures c.write_entries-written.ensures c.close_array.ensures

pub write_struct-returns-in_err-pad : goal.write_struct-returns-in_err-pad
write_struct-returns-in_err-pad t c =
    let p = err_from_is_err_and c.from_residual.result c.from_residual.ensures.1 in rw (p.1, p.2) (struct_refused _ _ _ _ c.in_err-pad.ensures)

pub write_struct-returns : goal.write_struct-returns
write_struct-returns t c = struct_written _ _ _ _ _ c.in_ok-pad.ensures c.write_items.ensures

pub write_variant-returns-in_err-put_type : goal.write_variant-returns-in_err-put_type
write_variant-returns-in_err-put_type t c =
    let p = err_from_is_err_and c.from_residual.result c.from_residual.ensures.1 in rw (p.1, p.2) (variant_refused _ _ _ _ c.in_err-put_type.ensures)

pub write_variant-returns : goal.write_variant-returns
write_variant-returns t c = variant_written _ _ _ _ _ c.in_ok-put_type.ensures c.write_value.ensures

pub write_entry-returns-in_err-pad : goal.write_entry-returns-in_err-pad
write_entry-returns-in_err-pad t c =
    let p = err_from_is_err_and c.from_residual.result c.from_residual.ensures.1 in rw (p.1, p.2) (struct_refused _ _ _ _ c.in_err-pad.ensures)

pub write_entry-returns-in_err-write_value : goal.write_entry-returns-in_err-write_value
write_entry-returns-in_err-write_value t c =
    let p = err_from_is_err_and c.from_residual-in_err-write_value.result c.from_residual-in_err-write_value.ensures.1 in
    rw (p.1, p.2) (key_refused _ _ (datum_of c.args.value.now) _ _ _ c.in_ok-pad.ensures c.in_err-write_value.ensures)

pub write_entry-returns : goal.write_entry-returns
write_entry-returns t c = entry_written _ _ _ _ _ _ _ c.in_ok-pad.ensures c.in_ok-write_value.ensures c.write_value-2.ensures
