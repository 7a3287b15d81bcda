use Rattle.std.proofs.Common.{◌≡◌, ◌++◌, map, take, string_bytes}
use Rattle.wire_signature.specs.SingleType.{AllHaveFields, single_types_of, types_text}
use Rattle.wire_tree.specs.Datum.{type_of}
use Rattle.wire_body.proofs.body.write_types.Given as goal

abbrev pub invariant-loop-each : goal.invariant-loop-each
invariant-loop-each l =
    (string_bytes l.out ≡ string_bytes l.initial.out ++ types_text (single_types_of (map type_of (take l.each-index l.values))))
    × AllHaveFields (single_types_of (map type_of (take l.each-index l.values)))
