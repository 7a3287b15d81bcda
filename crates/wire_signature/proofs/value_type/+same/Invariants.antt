use Rattle.std.proofs.Common.{◌≡◌, ◌+◌, ◌*◌, length, take}
use Rattle.wire_signature.specs.SingleType.{single_types_of, type_count, types_count}
use Rattle.wire_signature.proofs.value_type.+same.Given as goal

abbrev pub decreases-are_same : goal.decreases-are_same
decreases-are_same l = 2 * types_count (single_types_of l.types.now) + 1

abbrev pub decreases-is_same : goal.decreases-is_same
decreases-is_same l = 2 * type_count l.value_type.now

abbrev pub invariant-are_same-loop-i : goal.invariant-are_same-loop-i
invariant-are_same-loop-i l = (take l.i l.types ≡ take l.i l.others) × (length l.types ≡ length l.others)
