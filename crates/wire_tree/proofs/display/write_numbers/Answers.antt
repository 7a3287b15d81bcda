use Rattle.std.proofs.Common.{◌<◌, ◌≤◌, [], false, sym, subst, length, get_or, arith}
use Rattle.std.proofs.Output.{has_written_of_eq}
use Rattle.wire_tree.specs.Datum.{IsNumber, num}
use Rattle.wire_tree.specs.Packed.{numbers_bits, numbers_type}
use Rattle.wire_tree.specs.Printing.{datum_text}
use Rattle.wire_tree.proofs.Printed.{any_default, written, item_written, all_written, texts_listed}
use Rattle.wire_tree.proofs.display.write_numbers.Goals as goal

pub write_number-requires : goal.write_number-requires
write_number-requires g c = subst IsNumber (sym c.tree.ensures) tt

pub loop-i-preserved : goal.loop-i-preserved
loop-i-preserved g c = λ plain.
    let ns = c.args.numbers.now in
    let bits = numbers_bits ns in
    let here : c.loop-i.i < length bits = omega (arith, c.loop-i-test.true, c.len-i-end.ensures) in
    let before = c.loop-i.invariant plain in
    let led = written _ _ _ _ c.in_ok-write_str.ensures.writes before.plain in
    let item = rw c.tree.ensures at (written _ _ _ _ c.in_ok-write_number.ensures led.plain) in
    item_written _ (λ told n. datum_text told (num (numbers_type ns) n)) bits _ _ _ _ c.args.told false c.loop-i.i (get_or bits c.loop-i.i 0) _ c.told_at.result
    here (any_default bits c.loop-i.i 0 (get_or bits c.loop-i.i 0) here) c.lead_at.ensures c.told_at.ensures before led item

pub returns : goal.returns
returns g c = λ plain ok.
    let ns = c.args.numbers.now in
    let bits = numbers_bits ns in
    let end : length bits ≤ c.loop-i.i = omega (arith, c.loop-i-test.false, c.len-i-end.ensures) in
    has_written_of_eq _ _ _ _ _ (texts_listed (num (numbers_type ns)) bits [] c.args.told false)
    (all_written _ (λ told n. datum_text told (num (numbers_type ns) n)) bits _ _ c.args.told false c.loop-i.i end (c.loop-i.invariant plain))
