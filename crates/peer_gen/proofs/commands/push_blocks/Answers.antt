use Rattle.peer_gen.specs.Generated.{block_commands}
use Rattle.peer_gen.proofs.Blocks.{block_more}
use Rattle.peer_gen.proofs.commands.push_blocks.Goals as goal

pub loop-before-preserved : goal.loop-before-preserved
loop-before-preserved c =
    block_more block_commands c.args.count c.loop-before.before c.after.result c.args.commands.now.items c.loop-before.commands.items c.push_block.new.commands.items c.after.ensures.value c.loop-before.invariant
    c.in_ok-push_block.ensures
