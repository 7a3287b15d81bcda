use Rattle.std.proofs.Common.{◌<◌, length, add-one, arith, fold, get_or, map, take, sym, ◌∙◌, ap}
use Rattle.std.proofs.lemmas.List.{take_all}
use Rattle.std.specs.Hash.{fed_then, fed_along}
use Rattle.wire_signature.specs.SingleType.{letter}
use Rattle.wire_tree.specs.Datum.{data_of, num}
use Rattle.wire_tree.specs.Equal.{writes, writes_of}
use Rattle.wire_tree.specs.Packed.{numbers_bits, numbers_type}
use Rattle.wire_tree.proofs.Fed.{fed_number, writes_of-take}
use Rattle.wire_tree.proofs.Packed.{any_default}
use Rattle.wire_tree.proofs.hash.feed_numbers.Goals as goal

pub loop-i-preserved : goal.loop-i-preserved
loop-i-preserved g c =
    let numbers = c.args.numbers.now in
    let h : c.loop-i.i < length (numbers_bits numbers) = omega (arith, c.loop-i-test.true, c.len-i-end.ensures) in
    rw add-one
    (fed_along g.H.Hasher.write _ _
    (sym (writes_of-take (num (numbers_type numbers)) (numbers_bits numbers) c.loop-i.i (get_or (numbers_bits numbers) c.loop-i.i 0) h (any_default (numbers_bits numbers) c.loop-i.i 0 _ h)))
    (fed_then g.H.Hasher.write _ _ _ (writes_of (data_of (map (num (numbers_type numbers)) (take c.loop-i.i (numbers_bits numbers)))))
    (writes (num (numbers_type numbers) (get_or (numbers_bits numbers) c.loop-i.i 0)))
    c.loop-i.invariant
    (fed_number g.H.Hasher.write _ _ (numbers_type numbers) _ _ _ (c.letter-letter.ensures ∙ ap letter c.basic.ensures) c.bits.ensures.value c.feed_number.ensures)))

pub returns : goal.returns
returns g c =
    let numbers = c.args.numbers.now in
    c.loop-i.invariant ∙ ap (λ xs. fold g.H.Hasher.write c.args.state.now (writes_of (data_of (map (num (numbers_type numbers)) xs))))
    (take_all c.loop-i.i (numbers_bits numbers) (omega (arith, c.loop-i-test.false, c.len-i-end.ensures)))
