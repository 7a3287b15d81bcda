use Rattle.std.proofs.Common.{◌+◌, ◌-◌, ◌++◌, [], ◌∷◌, ◌∙◌, ap}
use Rattle.peer_script.specs.{Script.Gave, Reading.given}
use Rattle.peer_gen.specs.Generated.{return_to}
use Rattle.peer_gen.proofs.Blocks.{made_more}
use Rattle.peer_gen.proofs.pieces.push_returns.Goals as goal

pub loop-index-preserved : goal.loop-index-preserved
loop-index-preserved c =
    made_more (λ index. Gave (return_to (c.args.block.first + c.args.block.calls - index))) (given c.args.pieces.now.items) (given c.loop-index.pieces.items) (given c.push.new.pieces.items) c.loop-index.index
    c.loop-index.invariant (c.in_ok-push.ensures ∙ ap (λ bytes. given c.loop-index.pieces.items ++ Gave bytes ∷ []) c.in_ok-return_to.ensures)
