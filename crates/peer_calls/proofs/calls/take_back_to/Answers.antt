-- The last slot is emptied and taken away.
use Rattle.std.proofs.{Common.{◌≡◌, ◌-◌, length, arith, ap, sym, ◌∙◌, take}, lemmas.List.length-set}
use Rattle.peer_calls.specs.{Names.Slot}
use Rattle.peer_calls.proofs.Index.{taken_back}
use Rattle.peer_calls.proofs.calls.take_back_to.Goals as goal

pub loop-slots-preserved : goal.loop-slots-preserved
loop-slots-preserved c =
    let ss = c.loop-slots.slots in
    let last = c.len-last.result - 1 in
    let same : length c.forget.new.slots ≡ c.len-last.result = ap length c.forget.ensures.slots ∙ length-set ss last Slot.Gone ∙ sym c.len-last.ensures in
    let step = taken_back c.loop-slots.waiting c.forget.new.waiting ss c.forget.new.slots c.pop.new.self c.args.count last
    (omega (arith, c.loop-slots-test.true, c.len.ensures, c.len-last.ensures))
    (omega (arith, c.loop-slots-test.true, c.len.ensures, c.len-last.ensures))
    c.forget.ensures.slots
    (c.pop.ensures.rest ∙ ap (λ n. take (n - 1) c.forget.new.slots) same)
    c.forget.ensures.waiting in
    (step.0 ∙ c.loop-slots.invariant.0, λ j. step.1 (c.loop-slots.invariant.1 j))
