use Rattle.std.proofs.Common.{◌≡◌, take}
use Rattle.rule_match.proofs.arguments.copies_of.Given as goal

abbrev pub invariant-loop-argument : goal.invariant-loop-argument
invariant-loop-argument l = l.copies.items ≡ take l.argument-index l.arguments
