use Rattle.std.proofs.Common.{◌≡◌, ◌++◌, flat_map}
use Rattle.peer_gen.specs.Generated.{first_blocks, block_commands}
use Rattle.peer_gen.proofs.commands.push_blocks.Given as goal

abbrev pub invariant-loop-before : goal.invariant-loop-before
invariant-loop-before l = l.commands.items ≡ l.initial.commands.items ++ flat_map block_commands (first_blocks l.count l.before)
