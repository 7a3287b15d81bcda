use Rattle.std.proofs.Common.{◌+◌, ◌≡◌, [], ◌∷◌, ◌++◌, ◌∙◌, ap, arith}
use Rattle.peer_gen.specs.Generated.{command, poll}
use Rattle.peer_gen.proofs.Blocks.{made_more}
use Rattle.peer_gen.proofs.commands.push_polls.Goals as goal

pub loop-index-preserved : goal.loop-index-preserved
loop-index-preserved c =
    let number : c.from-call.result ≡ c.args.block.first + c.loop-index.index = omega arith in
    made_more (λ index. command (poll (c.args.block.first + index))) c.args.commands.now.items c.loop-index.commands.items c.push.new.commands.items c.loop-index.index c.loop-index.invariant
    (c.in_ok-push.ensures ∙ ap (λ n. c.loop-index.commands.items ++ command (poll n) ∷ []) number)
