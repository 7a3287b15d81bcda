use Rattle.std.proofs.Common.{◌≡◌, sym, ◌∙◌, ap}
use Rattle.std.proofs.lemmas.Result.{err_from_is_err_and}
use Rattle.wire_signature.specs.SingleType.{basic, alignment}
use Rattle.wire_tree.specs.Datum.{FixedType, num_type, data_of, width}
use Rattle.wire_tree.specs.Packed.{numbers_type, numbers_bits, numbers_data}
use Rattle.wire_encoding.proofs.Packed.{width_is}
use Rattle.wire_codec.proofs.Writes.{array_written, elements_placed, opening_refused, stays_open}
use Rattle.wire_codec.proofs.PackedWrites.{numbers_written}
use Rattle.wire_codec.proofs.write_packed.write_packed.Goals as goal

pub returns-in_err-array : goal.returns-in_err-array
returns-in_err-array c =
    let n : FixedType = numbers_type c.args.numbers.now in
    let same : c.width.result ≡ alignment (basic (num_type n)) = c.width.ensures.exact ∙ ap width c.fixed.ensures ∙ sym (width_is n).1 in
    let p = err_from_is_err_and c.from_residual.result c.from_residual.ensures.1 in
    rw (p.1, p.2) (opening_refused _ (basic (num_type n)) _ (data_of (numbers_data c.args.numbers.now)) _ _ same c.in_err-array.ensures)

pub close_array-requires : goal.close_array-requires
close_array-requires c = stays_open _ _ _ _ c.in_ok-array.ensures _ _ _ _ c.write_all-written.ensures

pub returns : goal.returns
returns c =
    let n : FixedType = numbers_type c.args.numbers.now in
    let wide : c.width.result ≡ width n = c.width.ensures.exact ∙ ap width c.fixed.ensures in
    let same : c.width.result ≡ alignment (basic (num_type n)) = wide ∙ sym (width_is n).1 in
    array_written _ (basic (num_type n)) _ (data_of (numbers_data c.args.numbers.now)) _ _ _ _ _ same c.in_ok-array.ensures
    (numbers_written _ n (numbers_bits c.args.numbers.now) _ _ _ wide (elements_placed _ _ _ _ c.in_ok-array.ensures c.width.ensures.some) c.write_all-written.ensures) c.close_array.ensures
