use Rattle.std.proofs.Common.{◌≡◌, ◌++◌, replicate, string_bytes}
use Rattle.object_text.proofs.lines.put_indent.Given as goal

abbrev pub invariant-loop-space : goal.invariant-loop-space
invariant-loop-space l = string_bytes l.out ≡ string_bytes l.initial.out ++ replicate l._space 32
