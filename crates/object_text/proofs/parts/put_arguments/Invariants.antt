use Rattle.std.proofs.Common.{◌≡◌, ◌++◌, string_bytes, take}
use Rattle.std.specs.Prelude.{flat_map}
use Rattle.object_text.specs.Text.{argument_text}
use Rattle.object_text.proofs.parts.put_arguments.Given as goal

abbrev pub invariant-loop-argument : goal.invariant-loop-argument
invariant-loop-argument l = string_bytes l.out ≡ string_bytes l.initial.out ++ flat_map (argument_text l.indent l.more) (take l.argument-index l.arguments)
