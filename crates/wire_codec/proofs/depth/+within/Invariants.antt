use Rattle.std.proofs.Common.{◌≤◌, ◌+◌, ◌*◌, map, take}
use Rattle.wire_tree.specs.Datum.{data_of, entries_of}
use Rattle.wire_tree.specs.DatumView.{datum_of, pair_of}
use Rattle.wire_encoding.specs.Encoding.{depths}
use Rattle.wire_codec.proofs.depth.+within.Given as goal

abbrev pub decreases-is_within : goal.decreases-is_within
decreases-is_within l = 4 * l.room

abbrev pub decreases-are_within : goal.decreases-are_within
decreases-are_within l = 4 * l.room + 2

abbrev pub decreases-pairs_within : goal.decreases-pairs_within
decreases-pairs_within l = 4 * l.room + 3

abbrev pub decreases-pair_within : goal.decreases-pair_within
decreases-pair_within l = 4 * l.room + 2

abbrev pub invariant-are_within-loop-each : goal.invariant-are_within-loop-each
invariant-are_within-loop-each l = depths (data_of (map datum_of (take l.each-index l.trees))) ≤ l.room

abbrev pub invariant-pairs_within-loop-each : goal.invariant-pairs_within-loop-each
invariant-pairs_within-loop-each l = depths (entries_of (map pair_of (take l.each-index l.pairs))) ≤ l.room
