use Rattle.std.proofs.Common.{◌≡◌, ◌++◌, string_bytes, take}
use Rattle.std.specs.Prelude.{flat_map}
use Rattle.object_text.specs.Text.{interface_text}
use Rattle.object_text.proofs.nodes.put_each.Given as goal

abbrev pub invariant-loop-each : goal.invariant-loop-each
invariant-loop-each l = string_bytes l.out ≡ string_bytes l.initial.out ++ flat_map (interface_text l.indent) (take l.each-index l.interfaces)
