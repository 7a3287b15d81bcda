-- The signals so far are those of the objects so far.
use Rattle.std.proofs.Common.{◌≡◌, map}
use Rattle.object_signals.specs.Announcing.{tells_added}
use Rattle.object_signals.proofs.announced.announce_added.Given as goal

abbrev pub invariant-loop-object : goal.invariant-loop-object
invariant-loop-object l = l.list.items ≡ map (tells_added l.manager) l.yielded
