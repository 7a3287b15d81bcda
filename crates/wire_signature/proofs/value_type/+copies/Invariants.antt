use Rattle.std.proofs.Common.{◌≡◌, ◌+◌, ◌*◌, take}
use Rattle.wire_signature.specs.SingleType.{single_types_of, type_count, types_count}
use Rattle.wire_signature.proofs.value_type.+copies.Given as goal

abbrev pub decreases-copies_of : goal.decreases-copies_of
decreases-copies_of l = 2 * types_count (single_types_of l.types.now) + 1

abbrev pub decreases-copy_of : goal.decreases-copy_of
decreases-copy_of l = 2 * type_count l.value_type.now

abbrev pub invariant-copies_of-loop-each : goal.invariant-copies_of-loop-each
invariant-copies_of-loop-each l = l.copies.items ≡ take l.each-index l.types
