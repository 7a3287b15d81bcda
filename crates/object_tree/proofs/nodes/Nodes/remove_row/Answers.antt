use Rattle.std.proofs.Common.{◌≡◌, sym, ◌∙◌, ap, arith, length}
use Rattle.std.specs.Map.{set_value}
use Rattle.std.specs.BTreeMap.{is_at}
use Rattle.object_tree.specs.Keyed.{listed}
use Rattle.object_tree.specs.Objects.{Objects, text_cmp, slot_at, rows_without, are_none_but_manager}
use Rattle.object_tree.proofs.Entries.{remove_absent}
use Rattle.object_tree.proofs.Got.{slot_none, at_spot, held}
use Rattle.object_tree.proofs.Spot.{in_list, slot_whole, removed_whole, unchanged}
use Rattle.object_tree.proofs.nodes.Nodes.remove_row.Goals as goal

pub returns-then-not-there-clause-slot : goal.returns-then-not-there-clause-slot
returns-then-not-there-clause-slot c =
    let gone = held c.self.inside.list.items c.deref.result.now c.args.path.now c.find-at.result.1 _ c.deref.ensures.value (ap (λ r. r.1) c.find-at.ensures) c.if-not-there.true in
    sym (slot_none (listed c.self.inside.list.items) c.args.path.now c.self.invariant.0 c.args.name.now gone) ∙ ap (λ (o : Objects). slot_at o c.args.path.now c.args.name.now) c.self.view_is

pub index_mut-requires : goal.index_mut-requires
index_mut-requires c =
    let put = at_spot c.self.inside.list.items c.deref.result.now c.deref.result.now c.args.path.now c.find-at.result.0 c.deref.ensures.value (ap (λ r. r.0) c.find-at.ensures) in
    let there = held c.self.inside.list.items c.deref.result.now c.args.path.now c.find-at.result.1 _ c.deref.ensures.value (ap (λ r. r.1) c.find-at.ensures) c.if-not-there.false in
    let inside = in_list c.self.inside.list.items c.args.path.now c.find-at.result.0 c.self.invariant.0 put there in
    omega (arith, inside, ap length c.deref.ensures.value, c.deref.ensures.len)

pub invariant_of-self : goal.invariant_of-self
invariant_of-self c =
    let put = at_spot c.self.inside.list.items c.deref.result.now c.deref.result.now c.args.path.now c.find-at.result.0 c.deref.ensures.value (ap (λ r. r.0) c.find-at.ensures) in
    let there = held c.self.inside.list.items c.deref.result.now c.args.path.now c.find-at.result.1 _ c.deref.ensures.value (ap (λ r. r.1) c.find-at.ensures) c.if-not-there.false in
    let value = c.index_mut.ensures.value in
    ((removed_whole c.self.inside.list.items c.args.path.now c.find-at.result.0 c.self.invariant.0 put there c.index_mut.result.now (c.index_mut.ensures.value) c.args.name.now c.remove.new.self c.remove.ensures.rest).0, c.self.invariant.1)

pub invariant_of-self-2 : goal.invariant_of-self-2
invariant_of-self-2 c =
    let put = at_spot c.self.inside.list.items c.deref.result.now c.deref.result.now c.args.path.now c.find-at.result.0 c.deref.ensures.value (ap (λ r. r.0) c.find-at.ensures) in
    let there = held c.self.inside.list.items c.deref.result.now c.args.path.now c.find-at.result.1 _ c.deref.ensures.value (ap (λ r. r.1) c.find-at.ensures) c.if-not-there.false in
    ((removed_whole c.self.inside.list.items c.args.path.now c.find-at.result.0 c.self.invariant.0 put there c.index_mut.result.now (c.index_mut.ensures.value) c.args.name.now c.remove.new.self c.remove.ensures.rest).0, c.self.invariant.1)

pub returns-in_default-clause-slot : goal.returns-in_default-clause-slot
returns-in_default-clause-slot c =
    let put = at_spot c.self.inside.list.items c.deref.result.now c.deref.result.now c.args.path.now c.find-at.result.0 c.deref.ensures.value (ap (λ r. r.0) c.find-at.ensures) in
    let there = held c.self.inside.list.items c.deref.result.now c.args.path.now c.find-at.result.1 _ c.deref.ensures.value (ap (λ r. r.1) c.find-at.ensures) c.if-not-there.false in
    sym c.in_default.is ∙ c.remove.ensures.slot ∙ sym (slot_whole c.self.inside.list.items c.args.path.now c.find-at.result.0 c.self.invariant.0 put there c.index_mut.result.now c.index_mut.ensures.value c.args.name.now) ∙ ap (λ (o : Objects). slot_at o c.args.path.now c.args.name.now) c.self.view_is

pub returns-in_default-clause-none : goal.returns-in_default-clause-none
returns-in_default-clause-none c =
    let put = at_spot c.self.inside.list.items c.deref.result.now c.deref.result.now c.args.path.now c.find-at.result.0 c.deref.ensures.value (ap (λ r. r.0) c.find-at.ensures) in
    let there = held c.self.inside.list.items c.deref.result.now c.args.path.now c.find-at.result.1 _ c.deref.ensures.value (ap (λ r. r.1) c.find-at.ensures) c.if-not-there.false in
    let left : c.remove.new.self ≡ c.index_mut.result.now.1 = c.remove.ensures.rest ∙ remove_absent (is_at (text_cmp c.args.name.now)) c.index_mut.result.now.1 (sym c.remove.ensures.slot ∙ c.in_default.is) in
    unchanged c.self.inside.list.items c.args.path.now c.find-at.result.0 c.self.invariant.0 put there c.index_mut.result.now c.index_mut.ensures.value c.remove.new.self left ∙ c.self.view_is

pub returns-clause-slot : goal.returns-clause-slot
returns-clause-slot c =
    let put = at_spot c.self.inside.list.items c.deref.result.now c.deref.result.now c.args.path.now c.find-at.result.0 c.deref.ensures.value (ap (λ r. r.0) c.find-at.ensures) in
    let there = held c.self.inside.list.items c.deref.result.now c.args.path.now c.find-at.result.1 _ c.deref.ensures.value (ap (λ r. r.1) c.find-at.ensures) c.if-not-there.false in
    sym c.in-Some.is ∙ c.remove.ensures.slot ∙ sym (slot_whole c.self.inside.list.items c.args.path.now c.find-at.result.0 c.self.invariant.0 put there c.index_mut.result.now c.index_mut.ensures.value c.args.name.now) ∙ ap (λ (o : Objects). slot_at o c.args.path.now c.args.name.now) c.self.view_is

pub returns-clause-bare : goal.returns-clause-bare
returns-clause-bare c =
    let put = at_spot c.self.inside.list.items c.deref.result.now c.deref.result.now c.args.path.now c.find-at.result.0 c.deref.ensures.value (ap (λ r. r.0) c.find-at.ensures) in
    let there = held c.self.inside.list.items c.deref.result.now c.args.path.now c.find-at.result.1 _ c.deref.ensures.value (ap (λ r. r.1) c.find-at.ensures) c.if-not-there.false in
    c.are_none_but_manager.ensures
    ∙ ap are_none_but_manager ((removed_whole c.self.inside.list.items c.args.path.now c.find-at.result.0 c.self.invariant.0 put there c.index_mut.result.now c.index_mut.ensures.value c.args.name.now c.remove.new.self c.remove.ensures.rest).1 ∙ ap (λ (o : Objects). rows_without o c.args.path.now c.args.name.now) c.self.view_is)

pub returns-clause-rest : goal.returns-clause-rest
returns-clause-rest c =
    let put = at_spot c.self.inside.list.items c.deref.result.now c.deref.result.now c.args.path.now c.find-at.result.0 c.deref.ensures.value (ap (λ r. r.0) c.find-at.ensures) in
    let there = held c.self.inside.list.items c.deref.result.now c.args.path.now c.find-at.result.1 _ c.deref.ensures.value (ap (λ r. r.1) c.find-at.ensures) c.if-not-there.false in
    (removed_whole c.self.inside.list.items c.args.path.now c.find-at.result.0 c.self.invariant.0 put there c.index_mut.result.now c.index_mut.ensures.value c.args.name.now c.remove.new.self c.remove.ensures.rest).2
    ∙ ap (λ (o : Objects). set_value (is_at (text_cmp c.args.path.now)) o (rows_without o c.args.path.now c.args.name.now)) c.self.view_is
