use Rattle.std.proofs.Common.{◌≡◌, ◌≤◌, ◌++◌, drop, length, string_bytes}
use Rattle.std.specs.Prelude.{flat_map}
use Rattle.object_text.specs.Text.{interface_text}
use Rattle.object_text.specs.Nodes.{told}
use Rattle.object_text.proofs.Among.{merged}
use Rattle.object_text.proofs.nodes.put_interfaces.Given as goal

-- what was put, with what is left of both lists, is the whole
abbrev pub invariant-loop-each : goal.invariant-loop-each
invariant-loop-each l =
    (string_bytes l.out ++ flat_map (interface_text l.indent) (merged (drop l.each-index l.own) (drop l.next l.standing)) ≡ string_bytes l.initial.out ++ flat_map (interface_text l.indent) (told l.standing l.own))
    × (l.next ≤ length l.standing)
