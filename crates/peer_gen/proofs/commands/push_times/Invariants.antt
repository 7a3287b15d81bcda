use Rattle.std.proofs.Common.{◌≡◌, ◌++◌, replicate}
use Rattle.peer_gen.specs.Generated.{command}
use Rattle.peer_gen.proofs.commands.push_times.Given as goal

abbrev pub invariant-loop-time : goal.invariant-loop-time
invariant-loop-time l = l.commands.items ≡ l.initial.commands.items ++ replicate l._time (command l.words)
