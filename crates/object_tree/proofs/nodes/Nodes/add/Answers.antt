use Rattle.std.proofs.Common.{◌∙◌, ap, arith, length}
use Rattle.std.specs.BTreeMap.{insert_entry}
use Rattle.object_tree.specs.Keyed.{listed}
use Rattle.object_tree.specs.Objects.{Objects, Rows, text_cmp, added}
use Rattle.object_tree.proofs.Got.{at_spot, held}
use Rattle.object_tree.proofs.Listed.{place_most, listed_length}
use Rattle.object_tree.proofs.Spot.{in_list, added_there, added_missing}
use Rattle.object_tree.proofs.nodes.Nodes.add.Goals as goal

pub index_mut-requires : goal.index_mut-requires
index_mut-requires c =
    let put = at_spot c.self.inside.list.items c.deref.result.now c.deref.result.now c.args.path.now c.find-at.result.0 c.deref.ensures.value (ap (λ r. r.0) c.find-at.ensures) in
    let there = held c.self.inside.list.items c.deref.result.now c.args.path.now c.find-at.result.1 _ c.deref.ensures.value (ap (λ r. r.1) c.find-at.ensures) c.if-there.true in
    let inside = in_list c.self.inside.list.items c.args.path.now c.find-at.result.0 c.self.invariant.0 put there in
    omega (arith, inside, ap length c.deref.ensures.value, c.deref.ensures.len)

pub invariant_of-self-then-there : goal.invariant_of-self-then-there
invariant_of-self-then-there c =
    let put = at_spot c.self.inside.list.items c.deref.result.now c.deref.result.now c.args.path.now c.find-at.result.0 c.deref.ensures.value (ap (λ r. r.0) c.find-at.ensures) in
    let there = held c.self.inside.list.items c.deref.result.now c.args.path.now c.find-at.result.1 _ c.deref.ensures.value (ap (λ r. r.1) c.find-at.ensures) c.if-there.true in
    ((added_there c.self.inside.list.items c.args.path.now c.find-at.result.0 c.self.invariant.0 put there c.index_mut.result.now c.index_mut.ensures.value c.args.name.now c.args.slot c.insert.new.self c.requires.path c.requires.name c.in_ok-insert.ensures.done).0, c.self.invariant.1)

pub returns-then-there-clause-done : goal.returns-then-there-clause-done
returns-then-there-clause-done c =
    let put = at_spot c.self.inside.list.items c.deref.result.now c.deref.result.now c.args.path.now c.find-at.result.0 c.deref.ensures.value (ap (λ r. r.0) c.find-at.ensures) in
    let there = held c.self.inside.list.items c.deref.result.now c.args.path.now c.find-at.result.1 _ c.deref.ensures.value (ap (λ r. r.1) c.find-at.ensures) c.if-there.true in
    (added_there c.self.inside.list.items c.args.path.now c.find-at.result.0 c.self.invariant.0 put there c.index_mut.result.now c.index_mut.ensures.value c.args.name.now c.args.slot c.insert.new.self c.requires.path c.requires.name c.in_ok-insert.ensures.done).1
    ∙ ap (λ (o : Objects). added o c.args.path.now c.args.name.now c.args.slot) c.self.view_is

pub insert-requires-3 : goal.insert-requires-3
insert-requires-3 c =
    let at = ap (λ r. r.0) c.find-at.ensures in
    omega (arith, at, place_most (listed c.deref.result.now) c.args.path.now, listed_length c.deref.result.now, c.deref.ensures.len)

pub invariant_of-self-2 : goal.invariant_of-self-2
invariant_of-self-2 c =
    let put = at_spot c.self.inside.list.items c.deref.result.now c.deref.result.now c.args.path.now c.find-at.result.0 c.deref.ensures.value (ap (λ r. r.0) c.find-at.ensures) in
    let there = held c.self.inside.list.items c.deref.result.now c.args.path.now c.find-at.result.1 _ c.deref.ensures.value (ap (λ r. r.1) c.find-at.ensures) c.if-there.false in (
      (added_missing c.self.inside.list.items c.args.path.now c.find-at.result.0 c.self.invariant.0 put there c.in_ok-key.key c.in_ok-key.ensures.ok c.args.name.now c.args.slot c.insert-2.new.self c.requires.path c.requires.name
          (c.in_ok-insert-2.ensures.done ∙ ap (λ (r : Rows). insert_entry text_cmp r c.args.name.now c.args.slot) c.new-rows.ensures) c.insert-3.new.self.items c.in_ok-insert-3.ensures.items).0,
      c.self.invariant.1,
    )

pub returns-clause-done : goal.returns-clause-done
returns-clause-done c =
    let put = at_spot c.self.inside.list.items c.deref.result.now c.deref.result.now c.args.path.now c.find-at.result.0 c.deref.ensures.value (ap (λ r. r.0) c.find-at.ensures) in
    let there = held c.self.inside.list.items c.deref.result.now c.args.path.now c.find-at.result.1 _ c.deref.ensures.value (ap (λ r. r.1) c.find-at.ensures) c.if-there.false in
    (added_missing c.self.inside.list.items c.args.path.now c.find-at.result.0 c.self.invariant.0 put there c.in_ok-key.key c.in_ok-key.ensures.ok c.args.name.now c.args.slot c.insert-2.new.self c.requires.path c.requires.name
    (c.in_ok-insert-2.ensures.done ∙ ap (λ (r : Rows). insert_entry text_cmp r c.args.name.now c.args.slot) c.new-rows.ensures) c.insert-3.new.self.items c.in_ok-insert-3.ensures.items).1
    ∙ ap (λ (o : Objects). added o c.args.path.now c.args.name.now c.args.slot) c.self.view_is
