use Rattle.std.proofs.Common.{◌≡◌, ◌+◌, ◌++◌, map}
use Rattle.std.specs.List.{range_with_len}
use Rattle.peer_gen.specs.Generated.{command, poll}
use Rattle.peer_gen.proofs.commands.push_polls.Given as goal

abbrev pub invariant-loop-index : goal.invariant-loop-index
invariant-loop-index l = l.commands.items ≡ l.initial.commands.items ++ map (λ index. command (poll (l.block.first + index))) (range_with_len 0 l.index)
