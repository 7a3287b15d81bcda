use Rattle.std.proofs.Common.{◌≡◌, Ok}
use Rattle.std.specs.Prelude.{string_bytes}
use Rattle.watch_tool.specs.Rules.{rules_in}
use Rattle.watch_tool.proofs.Ruled.{before}
use Rattle.watch_tool.proofs.rules.rules_of.Given as goal

-- the rules of the texts before the index were read
abbrev pub invariant-loop-index : goal.invariant-loop-index
invariant-loop-index l = rules_in (before (λ text. string_bytes text) l.texts l.index) ≡ Ok l.rules.items
