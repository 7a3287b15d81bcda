use Rattle.std.proofs.Common.{◌≡◌, ◌++◌, string_bytes, take}
use Rattle.std.specs.Prelude.{flat_map}
use Rattle.object_text.specs.Text.{method_text}
use Rattle.object_text.proofs.parts.put_methods.Given as goal

abbrev pub invariant-loop-method : goal.invariant-loop-method
invariant-loop-method l = string_bytes l.out ≡ string_bytes l.initial.out ++ flat_map (method_text l.indent) (take l.method-index l.methods)
