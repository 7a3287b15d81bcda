use Rattle.std.proofs.Common.{◌+◌, ◌*◌, take}
use Rattle.wire_signature.specs.SingleType.{single_types_of, type_count, types_count, types_text}
use Rattle.wire_signature.specs.Texting.{Puts}
use Rattle.wire_signature.proofs.texting.+text.Given as goal

abbrev pub decreases-put_types : goal.decreases-put_types
decreases-put_types l = 2 * types_count (single_types_of l.types.now) + 1

abbrev pub decreases-put_type : goal.decreases-put_type
decreases-put_type l = 2 * type_count l.value_type.now

abbrev pub invariant-put_types-loop-each : goal.invariant-put_types-loop-each
invariant-put_types-loop-each l = Puts (types_text (single_types_of (take l.each-index l.types))) l.at l.initial.out l.next l.out
