use Rattle.std.proofs.Common.{◌≤◌, arith}
use Rattle.wire_signature.specs.SingleType.{single_types_of, type_count, types_count}
use Rattle.wire_signature.proofs.Fields.{type_count-item}
use Rattle.wire_signature.proofs.Puts.{puts_more, room_for}
use Rattle.wire_signature.proofs.texting.+text.Goals as goal

pub put_types-put_type-next-requires : goal.put_types-put_type-next-requires
put_types-put_type-next-requires t c =
    let k : type_count c.each-item.result ≤ types_count (single_types_of c.args.types.now) =
    type_count-item c.args.types.now c.loop-each.each-index c.each-item.result c.loop-each-test.true c.each-item.is in
    (omega arith, room_for c.args.types.now c.loop-each.each-index _ c.args.at _ c.loop-each-test.true c.each-item.is c.loop-each.invariant.0 c.requires)

pub put_types-loop-each-preserved : goal.put_types-loop-each-preserved
put_types-loop-each-preserved t c =
    puts_more c.args.types.now c.loop-each.each-index _ c.args.at c.loop-each.next _ c.args.out.now c.loop-each.out _ c.loop-each-test.true c.each-item.is c.loop-each.invariant
    c.put_type-next.ensures
