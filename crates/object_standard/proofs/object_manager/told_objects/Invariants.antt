use Rattle.std.proofs.Common.{◌≡◌, map}
use Rattle.object_standard.proofs.Told.{told_object}
use Rattle.object_standard.proofs.object_manager.told_objects.Given as goal

abbrev pub invariant-loop-object : goal.invariant-loop-object
invariant-loop-object l = l.told.items ≡ map told_object l.yielded
