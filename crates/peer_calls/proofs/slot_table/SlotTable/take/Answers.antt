-- What is stored under the number is taken out.
use Rattle.std.proofs.Common.{◌∙◌, ap, set, unwrap_or, None}
use Rattle.peer_calls.specs.{Names.Slot, Refinement.is_internal_slot}
use Rattle.peer_calls.proofs.Kept.{found, slots_set, count_has, kept_taken}
use Rattle.peer_calls.proofs.slot_table.SlotTable.take.Goals as goal

pub overflow_sub-self : goal.overflow_sub-self
overflow_sub-self c =
    count_has c.self.invariant c.args.call c.is_internal.result
    (c.is_internal.ensures ∙ ap is_internal_slot (c.unwrap_or-slot.ensures ∙ ap (λ o. unwrap_or o Slot.Gone) c.remove.ensures.value))

pub invariant_of-self : goal.invariant_of-self
invariant_of-self c =
    kept_taken c.self.invariant c.remove.new.self c.args.call c.is_internal.result
    (c.is_internal.ensures ∙ ap is_internal_slot (c.unwrap_or-slot.ensures ∙ ap (λ o. unwrap_or o Slot.Gone) c.remove.ensures.value))
    c.remove.ensures.updates

pub returns-clause-value : goal.returns-clause-value
returns-clause-value c = c.unwrap_or-slot.ensures ∙ found c.self.invariant c.args.call c.args.self.now c.self.view_is c.remove.result c.remove.ensures.value

pub returns-clause-rest : goal.returns-clause-rest
returns-clause-rest c =
    slots_set c.self.inside.made c.self.inside.kept c.remove.new.self c.args.call None c.remove.ensures.updates
    ∙ ap (λ ss. set ss c.args.call Slot.Gone) c.self.view_is
