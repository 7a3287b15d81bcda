use Rattle.std.proofs.Common.{arith, ap, ◌∙◌, ◌≡◌}
use Rattle.std.specs.Prelude.{not}
use Rattle.wire_message.proofs.SerialOrder.{next-of, tried-among, all-among, none-free}
use Rattle.wire_message.proofs.serials.next_after.Goals as goal

-- all are pending
pub returns-then-count-from-clause-none : goal.returns-then-count-from-clause-none
returns-then-count-from-clause-none g c serial one within =
    all-among (g.T.Taken.is_taken c.args.taken.now) 4294967295 serial (omega (arith, c.count.ensures, c.if-count-from.true, c.from.ensures)) one within

-- the candidate isn't pending
pub returns-then-is_free-clause-next : goal.returns-then-is_free-clause-next
returns-then-is_free-clause-next g c = next-of (g.T.Taken.is_taken c.args.taken.now) c.args.last c.loop.counter c.loop.candidate _ (omega arith) c.loop.invariant.tries c.loop-test.true c.after-candidate.ensures (c.is_free.ensures.free ∙ ap not c.if-is_free.true)

pub returns-then-is_free-clause-cost : goal.returns-then-is_free-clause-cost
returns-then-is_free-clause-cost g c =
    omega (arith, c.loop.invariant.cost, tried-among (g.T.Taken.is_taken c.args.taken.now) c.args.last c.loop.counter c.loop.candidate (omega arith) c.loop.invariant.tries)

-- after a whole round all would be pending
pub unreachable-requires : goal.unreachable-requires
unreachable-requires g c =
    let e : c.loop.counter ≡ 4294967295 = omega arith in
    absurd (omega (arith, c.count.ensures, c.if-count-from.false, c.from.ensures, none-free (g.T.Taken.is_taken c.args.taken.now) c.args.last c.loop.candidate (omega arith) (rw e at c.loop.invariant.tries)))
