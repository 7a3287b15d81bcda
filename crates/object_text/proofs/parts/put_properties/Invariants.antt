use Rattle.std.proofs.Common.{◌≡◌, ◌++◌, string_bytes, take}
use Rattle.std.specs.Prelude.{flat_map}
use Rattle.object_text.specs.Text.{property_text}
use Rattle.object_text.proofs.parts.put_properties.Given as goal

abbrev pub invariant-loop-property : goal.invariant-loop-property
invariant-loop-property l = string_bytes l.out ≡ string_bytes l.initial.out ++ flat_map (property_text l.indent) (take l.property-index l.properties)
