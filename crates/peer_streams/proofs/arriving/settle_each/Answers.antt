-- One after the other is settled.
use Rattle.std.proofs.{Common.{◌==◌, arith, take, ◌+◌, get_or}, lemmas.List.Folds.list_any_more}
use Rattle.peer_streams.specs.{Refinement.settled, Arriving.parts}
use Rattle.peer_streams.proofs.{ArrivingKept.{each_none, each_more}, Settling.settled_twice}
use Rattle.peer_streams.proofs.arriving.settle_each.Goals as goal

pub loop-stream-init : goal.loop-stream-init
loop-stream-init c made waiting was ready = (each_none (settled c.args.message.now) (parts made c.args.states.now.entries c.args.lists.now) waiting was, ready)

pub loop-stream-preserved : goal.loop-stream-preserved
loop-stream-preserved c made waiting was ready =
    let xs = c.args.streams.now in
    let i = c.loop-stream.stream-index in
    let k = get_or xs i 0 in
    let so = c.loop-stream.invariant made waiting was ready in (
      each_more (settled c.args.message.now) k (take i xs) waiting (parts made c.args.states.now.entries c.args.lists.now) (parts made c.loop-stream.states.entries c.loop-stream.lists) (parts made c.settle.new.states.entries c.settle.new.lists)
          (settled_twice c.args.message.now) so.0 (c.settle.ensures.changes made waiting so.0.kept (so.1 k)) (take (i + 1) xs) (λ j. list_any_more (λ n. n == j) xs i 0 (omega arith)),
      c.settle.ensures.ready so.1,
    )
