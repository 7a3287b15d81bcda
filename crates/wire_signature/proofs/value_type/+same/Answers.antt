use Rattle.std.proofs.Common.{◌≡◌, ◌≤◌, arith}
use Rattle.wire_signature.specs.SingleType.{single_types_of, struct, type_count, types_count}
use Rattle.wire_signature.proofs.Fields.{type_count-item, structs-same}
use Rattle.wire_signature.proofs.value_type.+same.Goals as goal

pub is_same-returns-in-Struct-Struct : goal.is_same-returns-in-Struct-Struct
is_same-returns-in-Struct-Struct t c =
    let e : struct (single_types_of c.deref-in-Struct-Struct.result.now) ≡ c.args.value_type.now = grind arith in
    let f : struct (single_types_of c.deref-in-Struct-Struct-2.result.now) ≡ c.args.other.now = grind arith in
    structs-same c.are_same.result _ _ _ _ e f c.are_same.ensures

pub are_same-is_same-requires : goal.are_same-is_same-requires
are_same-is_same-requires t c =
    let k : type_count c.index-types-i.result ≤ types_count (single_types_of c.args.types.now) =
    type_count-item c.args.types.now c.loop-i.i c.index-types-i.result c.loop-i-test.true c.index-types-i.is in
    (omega arith, tt)
