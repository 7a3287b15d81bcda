use Rattle.std.proofs.Common.{◌≤◌, take}
use Rattle.wire_tree.specs.Datum.{data_of}
use Rattle.wire_encoding.specs.Encoding.{depths}
use Rattle.wire_body.proofs.bodies.are_shallow.Given as goal

abbrev pub invariant-loop-value : goal.invariant-loop-value
invariant-loop-value l = depths (data_of (take l.value-index l.values)) ≤ 64
