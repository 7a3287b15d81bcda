use Rattle.std.proofs.Common.{◌≡◌}
use Rattle.object_standard.proofs.object_manager.texts.Given as goal

abbrev pub invariant-loop-name : goal.invariant-loop-name
invariant-loop-name l = l.texts.items ≡ l.yielded
