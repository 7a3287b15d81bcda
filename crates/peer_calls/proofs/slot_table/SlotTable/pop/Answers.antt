-- The last slot is emptied, and the list ends before it.
use Rattle.std.proofs.{Common.{◌≡◌, ◌-◌, length, get_or, sym, ◌∙◌, ap, arith, take, refl}, lemmas.List.{length-set, take-set, get_or-set_same}}
use Rattle.std.specs.{BTreeMap.get, Ordering.nat_cmp}
use Rattle.peer_calls.specs.{Names.Slot, Keeping.{slot_at}}
use Rattle.peer_calls.proofs.Kept.{found, slots_length, slots_take, kept_popped}
use Rattle.peer_calls.proofs.slot_table.SlotTable.pop.Goals as goal

pub overflow_sub-last : goal.overflow_sub-last
overflow_sub-last c = omega (arith, ap length c.self.view_is, slots_length c.self.inside.made c.self.inside.kept, c.requires)

pub invariant_of-self : goal.invariant_of-self
invariant_of-self c =
    let last = c.self.inside.made - 1 in
    let ss = c.args.self.now in
    let len : length ss ≡ c.self.inside.made = sym (sym (slots_length c.self.inside.made c.self.inside.kept) ∙ ap length c.self.view_is) in
    let same : c.self-2.inside.made ≡ length ss =
    sym (slots_length c.self-2.inside.made c.self-2.inside.kept) ∙ ap length (c.self-2.view_is ∙ c.take-slot.ensures.rest) ∙ length-set ss last Slot.Gone in
    let gone : slot_at c.self-2.inside.kept last ≡ Slot.Gone =
    found c.self-2.invariant last c.take-slot.new.self c.self-2.view_is (get nat_cmp c.self-2.inside.kept last) refl
    ∙ ap (λ xs. get_or xs last Slot.Gone) c.take-slot.ensures.rest ∙ get_or-set_same ss last Slot.Gone Slot.Gone (omega (arith, len, c.requires)) in
    kept_popped c.self-2.invariant last (omega (arith, len, same, c.requires)) gone

pub returns-clause-value : goal.returns-clause-value
returns-clause-value c =
    c.take-slot.ensures.value ∙ ap (λ n. get_or c.args.self.now (n - 1) Slot.Gone) (sym (slots_length c.self.inside.made c.self.inside.kept) ∙ ap length c.self.view_is)

pub returns-clause-rest : goal.returns-clause-rest
returns-clause-rest c =
    let last = c.self.inside.made - 1 in
    let ss = c.args.self.now in
    let len : length ss ≡ c.self.inside.made = sym (sym (slots_length c.self.inside.made c.self.inside.kept) ∙ ap length c.self.view_is) in
    let same : c.self-2.inside.made ≡ length ss =
    sym (slots_length c.self-2.inside.made c.self-2.inside.kept) ∙ ap length (c.self-2.view_is ∙ c.take-slot.ensures.rest) ∙ length-set ss last Slot.Gone in
    slots_take last c.self-2.inside.made c.self-2.inside.kept (omega (arith, len, same))
    ∙ ap (take last) (c.self-2.view_is ∙ c.take-slot.ensures.rest) ∙ take-set ss last Slot.Gone ∙ ap (λ n. take (n - 1) ss) (sym len)
