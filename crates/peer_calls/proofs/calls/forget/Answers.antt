-- A slot that waited leaves the map with its serial.
use Rattle.std.proofs.{Common.{refl, sym, ◌∙◌, ap, subst}, lemmas.Bool.eq-eqb}
use Rattle.peer_calls.specs.{Names.Slot, Refinement.{is_waiting, IsIndex}}
use Rattle.peer_calls.proofs.Index.{index_idle, index_removed}
use Rattle.peer_calls.proofs.calls.forget.Goals as goal

pub returns-in-Some-clause-waiting : goal.returns-in-Some-clause-waiting
returns-in-Some-clause-waiting c i =
    let serial = c.in-Some.serial in
    subst (IsIndex c.remove.new.self) (sym c.take.ensures.rest)
    (index_removed c.args.waiting.now c.remove.new.self c.args.slots.now serial c.args.call Slot.Gone (λ q. refl)
    (ap (is_waiting serial) (sym c.take.ensures.value) ∙ c.in-Some.ensures serial ∙ eq-eqb serial serial refl) c.remove.ensures.updates i)

pub returns-in_default-clause-waiting : goal.returns-in_default-clause-waiting
returns-in_default-clause-waiting c i =
    subst (IsIndex c.args.waiting.now) (sym c.take.ensures.rest)
    (index_idle c.args.waiting.now c.args.slots.now c.args.call Slot.Gone c.take.result (λ q. refl) c.in_default.ensures c.take.ensures.value i)
