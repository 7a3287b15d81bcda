use Rattle.std.proofs.Common.{◌≡◌}
use Rattle.object_standard.specs.Properties.{sorted}
use Rattle.object_standard.proofs.properties.sorted.Given as goal

-- those so far are in their places
abbrev pub invariant-loop-name : goal.invariant-loop-name
invariant-loop-name l = l.by_name.entries ≡ sorted l.yielded
