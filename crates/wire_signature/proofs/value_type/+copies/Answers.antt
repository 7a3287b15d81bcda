use Rattle.std.proofs.Common.{◌≤◌, arith}
use Rattle.wire_signature.specs.SingleType.{single_types_of, type_count, types_count}
use Rattle.wire_signature.proofs.Fields.{type_count-item}
use Rattle.wire_signature.proofs.value_type.+copies.Goals as goal

pub copies_of-copy_of-requires : goal.copies_of-copy_of-requires
copies_of-copy_of-requires t c =
    let k : type_count c.each-item.result ≤ types_count (single_types_of c.args.types.now) =
    type_count-item c.args.types.now c.loop-each.each-index c.each-item.result c.loop-each-test.true c.each-item.is in
    (omega arith, tt)
