use Rattle.std.proofs.Common.{◌≡◌, map}
use Rattle.object_standard.proofs.Told.{told_interface}
use Rattle.object_standard.proofs.object_manager.told_interfaces.Given as goal

abbrev pub invariant-loop-interface : goal.invariant-loop-interface
invariant-loop-interface l = l.told.items ≡ map told_interface l.yielded
