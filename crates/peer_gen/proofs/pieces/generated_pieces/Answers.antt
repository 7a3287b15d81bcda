use Rattle.std.proofs.Common.{[]}
use Rattle.peer_script.specs.Reading.{given}
use Rattle.peer_gen.specs.Generated.{block_source}
use Rattle.peer_gen.proofs.Blocks.{block_more}
use Rattle.peer_gen.proofs.pieces.generated_pieces.Goals as goal

pub loop-before-preserved : goal.loop-before-preserved
loop-before-preserved c =
    block_more block_source c.args.count c.loop-before.before c.after.result [] (given c.loop-before.pieces.items) (given c.push_block.new.pieces.items) c.after.ensures.value c.loop-before.invariant
    c.in_ok-push_block.ensures
