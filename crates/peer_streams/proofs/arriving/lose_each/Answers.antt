-- One after the other is lost.
use Rattle.std.proofs.{Common.{◌==◌, arith, take, ◌+◌, get_or}, lemmas.List.Folds.list_any_more}
use Rattle.peer_streams.specs.{Refinement.lost, Arriving.parts}
use Rattle.peer_streams.proofs.{ArrivingKept.{each_none, each_more}, Settling.lost_twice}
use Rattle.peer_streams.proofs.arriving.lose_each.Goals as goal

pub loop-stream-init : goal.loop-stream-init
loop-stream-init c made waiting was = each_none (lost c.args.index) (parts made c.args.states.now.entries c.args.lists.now) waiting was

pub loop-stream-preserved : goal.loop-stream-preserved
loop-stream-preserved c made waiting was =
    let xs = c.args.streams.now in
    let i = c.loop-stream.stream-index in
    let k = get_or xs i 0 in
    let so = c.loop-stream.invariant made waiting was in
    each_more (lost c.args.index) k (take i xs) waiting (parts made c.args.states.now.entries c.args.lists.now) (parts made c.loop-stream.states.entries c.loop-stream.lists) (parts made c.lose.new.states.entries c.lose.new.lists)
    (lost_twice c.args.index) so (c.lose.ensures made waiting so.kept) (take (i + 1) xs) (λ j. list_any_more (λ n. n == j) xs i 0 (omega arith))
