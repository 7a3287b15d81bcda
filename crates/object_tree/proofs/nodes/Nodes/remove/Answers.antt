use Rattle.std.proofs.Common.{◌≡◌, sym, ◌∙◌, ap, subst, List, ℕ, false, arith, length, take, string_bytes, get_or, ◌<◌}
use Rattle.std.specs.Map.{remove_entry}
use Rattle.std.specs.BTreeMap.{is_at}
use Rattle.object_tree.specs.Keyed.{listed}
use Rattle.object_tree.specs.Closed.{AreNodes, closed, is_without}
use Rattle.object_tree.specs.Objects.{Objects, text_cmp, rows_at, slot_at, has_below, manager_name}
use Rattle.object_tree.proofs.Entries.{remove_absent}
use Rattle.object_tree.proofs.Got.{slot_none, none_whole, at_spot, held}
use Rattle.object_tree.proofs.Spot.{in_list, key_is, slot_whole, out_alone, out_covered, out_replaced}
use Rattle.object_tree.proofs.Removing.{has_byte}
use Rattle.object_tree.proofs.Valid.{ascii_path}
use Rattle.object_tree.proofs.nodes.Nodes.remove.Goals.{in-Some+else-not-is_without, in_default}
use Rattle.object_tree.proofs.nodes.Nodes.remove.Goals as goal

pub returns-then-not-there-clause-manager : goal.returns-then-not-there-clause-manager
returns-then-not-there-clause-manager c =
    let gone = held c.self.inside.list.items c.deref.result.now c.args.path.now c.find-at.result.1 _ c.deref.ensures.value (ap (λ r. r.1) c.find-at.ensures) c.if-not-there.true in
    sym (slot_none (listed c.self.inside.list.items) c.args.path.now c.self.invariant.0 manager_name gone) ∙ ap (λ (o : Objects). slot_at o c.args.path.now manager_name) c.self.view_is

pub returns-then-not-there-clause-rest : goal.returns-then-not-there-clause-rest
returns-then-not-there-clause-rest c =
    let gone = held c.self.inside.list.items c.deref.result.now c.args.path.now c.find-at.result.1 _ c.deref.ensures.value (ap (λ r. r.1) c.find-at.ensures) c.if-not-there.true in
    let none = none_whole (listed c.self.inside.list.items) c.args.path.now c.self.invariant.0 (has_byte c.args.path.now c.requires.path) gone (ap (λ (o : Objects). has_below o c.args.path.now) c.self.view_is ∙ c.requires.bare) in
    sym (remove_absent (is_at (text_cmp c.args.path.now)) c.args.self.now (sym (ap (λ (o : Objects). rows_at o c.args.path.now) c.self.view_is) ∙ none))

pub index-requires : goal.index-requires
index-requires c =
    let put = at_spot c.self.inside.list.items c.deref.result.now c.deref.result.now c.args.path.now c.find-at.result.0 c.deref.ensures.value (ap (λ r. r.0) c.find-at.ensures) in
    let there = held c.self.inside.list.items c.deref.result.now c.args.path.now c.find-at.result.1 _ c.deref.ensures.value (ap (λ r. r.1) c.find-at.ensures) c.if-not-there.false in
    let inside = in_list c.self.inside.list.items c.args.path.now c.find-at.result.0 c.self.invariant.0 put there in
    omega (arith, inside, ap length c.deref.ensures.value, c.deref.ensures.len)

pub is_without-requires : goal.is_without-requires
is_without-requires c =
    let put = at_spot c.self.inside.list.items c.deref.result.now c.deref.result.now c.args.path.now c.find-at.result.0 c.deref.ensures.value (ap (λ r. r.0) c.find-at.ensures) in
    let there = held c.self.inside.list.items c.deref.result.now c.args.path.now c.find-at.result.1 _ c.deref.ensures.value (ap (λ r. r.1) c.find-at.ensures) c.if-not-there.false in
    let inside = in_list c.self.inside.list.items c.args.path.now c.find-at.result.0 c.self.invariant.0 put there in
    omega (arith, inside, ap length c.deref-in-Some.ensures.value)

pub index_mut-requires : goal.index_mut-requires
index_mut-requires c =
    let put = at_spot c.self.inside.list.items c.deref.result.now c.deref.result.now c.args.path.now c.find-at.result.0 c.deref.ensures.value (ap (λ r. r.0) c.find-at.ensures) in
    let there = held c.self.inside.list.items c.deref.result.now c.args.path.now c.find-at.result.1 _ c.deref.ensures.value (ap (λ r. r.1) c.find-at.ensures) c.if-not-there.false in
    let inside = in_list c.self.inside.list.items c.args.path.now c.find-at.result.0 c.self.invariant.0 put there in
    omega (arith, inside, ap length c.deref.ensures.value, c.deref.ensures.len)

pub truncate-requires : goal.truncate-requires
truncate-requires c =
    let put = at_spot c.self.inside.list.items c.deref.result.now c.deref.result.now c.args.path.now c.find-at.result.0 c.deref.ensures.value (ap (λ r. r.0) c.find-at.ensures) in
    let there = held c.self.inside.list.items c.deref.result.now c.args.path.now c.find-at.result.1 _ c.deref.ensures.value (ap (λ r. r.1) c.find-at.ensures) c.if-not-there.false in
    let key = key_is c.self.inside.list.items c.args.path.now c.find-at.result.0 c.self.invariant.0 put there c.index_mut.result.now c.index_mut.ensures.value in
    let low : get_or (string_bytes c.index_mut.result.now.0) (length c.in-Some.above.now) 0 < 128 = subst (λ (p : List ℕ). get_or p (length c.in-Some.above.now) 0 < 128) (sym key) (ascii_path c.args.path.now c.requires.path (length c.in-Some.above.now)) in
    λ most. (omega (arith, c.in-Some.ensures.1, ap length key), λ some less high. absurd (omega (arith, low, high)))

pub invariant_of-self : goal.invariant_of-self
invariant_of-self c =
    let put = at_spot c.self.inside.list.items c.deref.result.now c.deref.result.now c.args.path.now c.find-at.result.0 c.deref.ensures.value (ap (λ r. r.0) c.find-at.ensures) in
    let there = held c.self.inside.list.items c.deref.result.now c.args.path.now c.find-at.result.1 _ c.deref.ensures.value (ap (λ r. r.1) c.find-at.ensures) c.if-not-there.false in
    let test : is_without (listed c.self.inside.list.items) c.find-at.result.0 c.in-Some.above.now ≡ false = sym (c.is_without.ensures ∙ ap (λ es. is_without (listed es) c.find-at.result.0 c.in-Some.above.now) c.deref-in-Some.ensures.value) ∙ c.if-not-is_without.true in
    let key : string_bytes c.truncate.new.self ≡ c.in-Some.above.now = c.truncate.ensures.bytes ∙ ap (take (length c.in-Some.above.now)) (key_is c.self.inside.list.items c.args.path.now c.find-at.result.0 c.self.invariant.0 put there c.index_mut.result.now c.index_mut.ensures.value) ∙ sym c.in-Some.ensures.2 in
    ((out_replaced c.self.inside.list.items c.args.path.now c.find-at.result.0 c.self.invariant.0 put there c.requires.path (ap (λ (o : Objects). has_below o c.args.path.now) c.self.view_is ∙ c.requires.bare) c.in-Some.above.now c.in-Some.ensures.0 test c.truncate.new.self c.clear.new.self key c.clear.ensures).0, c.self.invariant.1)

pub returns-then-not-is_without-clause-manager : goal.returns-then-not-is_without-clause-manager
returns-then-not-is_without-clause-manager c =
    let put = at_spot c.self.inside.list.items c.deref.result.now c.deref.result.now c.args.path.now c.find-at.result.0 c.deref.ensures.value (ap (λ r. r.0) c.find-at.ensures) in
    let there = held c.self.inside.list.items c.deref.result.now c.args.path.now c.find-at.result.1 _ c.deref.ensures.value (ap (λ r. r.1) c.find-at.ensures) c.if-not-there.false in
    c.manager-manager.ensures ∙ sym (slot_whole c.self.inside.list.items c.args.path.now c.find-at.result.0 c.self.invariant.0 put there c.index.result.now c.index.ensures manager_name) ∙ ap (λ (o : Objects). slot_at o c.args.path.now manager_name) c.self.view_is

pub returns-then-not-is_without-clause-rest : goal.returns-then-not-is_without-clause-rest
returns-then-not-is_without-clause-rest c =
    let put = at_spot c.self.inside.list.items c.deref.result.now c.deref.result.now c.args.path.now c.find-at.result.0 c.deref.ensures.value (ap (λ r. r.0) c.find-at.ensures) in
    let there = held c.self.inside.list.items c.deref.result.now c.args.path.now c.find-at.result.1 _ c.deref.ensures.value (ap (λ r. r.1) c.find-at.ensures) c.if-not-there.false in
    let test : is_without (listed c.self.inside.list.items) c.find-at.result.0 c.in-Some.above.now ≡ false = sym (c.is_without.ensures ∙ ap (λ es. is_without (listed es) c.find-at.result.0 c.in-Some.above.now) c.deref-in-Some.ensures.value) ∙ c.if-not-is_without.true in
    let key : string_bytes c.truncate.new.self ≡ c.in-Some.above.now = c.truncate.ensures.bytes ∙ ap (take (length c.in-Some.above.now)) (key_is c.self.inside.list.items c.args.path.now c.find-at.result.0 c.self.invariant.0 put there c.index_mut.result.now c.index_mut.ensures.value) ∙ sym c.in-Some.ensures.2 in
    (out_replaced c.self.inside.list.items c.args.path.now c.find-at.result.0 c.self.invariant.0 put there c.requires.path (ap (λ (o : Objects). has_below o c.args.path.now) c.self.view_is ∙ c.requires.bare) c.in-Some.above.now c.in-Some.ensures.0 test c.truncate.new.self c.clear.new.self key c.clear.ensures).1 ∙ ap (λ (o : Objects). remove_entry (is_at (text_cmp c.args.path.now)) o) c.self.view_is

pub remove-requires : goal.remove-requires
remove-requires c =
    let put = at_spot c.self.inside.list.items c.deref.result.now c.deref.result.now c.args.path.now c.find-at.result.0 c.deref.ensures.value (ap (λ r. r.0) c.find-at.ensures) in
    let there = held c.self.inside.list.items c.deref.result.now c.args.path.now c.find-at.result.1 _ c.deref.ensures.value (ap (λ r. r.1) c.find-at.ensures) c.if-not-there.false in
    let inside = in_list c.self.inside.list.items c.args.path.now c.find-at.result.0 c.self.invariant.0 put there in
    omega (arith, inside, ap length c.deref.ensures.value, c.deref.ensures.len)

pub invariant_of-self-2 : goal.invariant_of-self-2
invariant_of-self-2 c =
    let put = at_spot c.self.inside.list.items c.deref.result.now c.deref.result.now c.args.path.now c.find-at.result.0 c.deref.ensures.value (ap (λ r. r.0) c.find-at.ensures) in
    let there = held c.self.inside.list.items c.deref.result.now c.args.path.now c.find-at.result.1 _ c.deref.ensures.value (ap (λ r. r.1) c.find-at.ensures) c.if-not-there.false in
    let all : (AreNodes (listed c.remove.new.self.items)) × (closed (listed c.remove.new.self.items) ≡ remove_entry (is_at (text_cmp c.args.path.now)) (closed (listed c.self.inside.list.items))) = elim c.match-parent.branch [ in-Some+else-not-is_without w ↦ out_covered c.self.inside.list.items c.args.path.now c.find-at.result.0 c.self.invariant.0 put there c.requires.path (ap (λ (o : Objects). has_below o c.args.path.now) c.self.view_is ∙ c.requires.bare) w.in-Some.above.now w.in-Some.ensures.0 (sym (w.is_without.ensures ∙ ap (λ es. is_without (listed es) c.find-at.result.0 w.in-Some.above.now) w.deref-in-Some.ensures.value) ∙ w.if-not-is_without.false) c.remove.new.self.items c.remove.ensures.items | in_default w ↦ out_alone c.self.inside.list.items c.args.path.now c.find-at.result.0 c.self.invariant.0 put there c.requires.path (ap (λ (o : Objects). has_below o c.args.path.now) c.self.view_is ∙ c.requires.bare) w.in_default.ensures c.remove.new.self.items c.remove.ensures.items ] in
    (all.0, c.self.invariant.1)

pub returns-clause-manager : goal.returns-clause-manager
returns-clause-manager c =
    let put = at_spot c.self.inside.list.items c.deref.result.now c.deref.result.now c.args.path.now c.find-at.result.0 c.deref.ensures.value (ap (λ r. r.0) c.find-at.ensures) in
    let there = held c.self.inside.list.items c.deref.result.now c.args.path.now c.find-at.result.1 _ c.deref.ensures.value (ap (λ r. r.1) c.find-at.ensures) c.if-not-there.false in
    c.manager-manager.ensures ∙ sym (slot_whole c.self.inside.list.items c.args.path.now c.find-at.result.0 c.self.invariant.0 put there c.index.result.now c.index.ensures manager_name) ∙ ap (λ (o : Objects). slot_at o c.args.path.now manager_name) c.self.view_is

pub returns-clause-rest : goal.returns-clause-rest
returns-clause-rest c =
    let put = at_spot c.self.inside.list.items c.deref.result.now c.deref.result.now c.args.path.now c.find-at.result.0 c.deref.ensures.value (ap (λ r. r.0) c.find-at.ensures) in
    let there = held c.self.inside.list.items c.deref.result.now c.args.path.now c.find-at.result.1 _ c.deref.ensures.value (ap (λ r. r.1) c.find-at.ensures) c.if-not-there.false in
    let all : (AreNodes (listed c.remove.new.self.items)) × (closed (listed c.remove.new.self.items) ≡ remove_entry (is_at (text_cmp c.args.path.now)) (closed (listed c.self.inside.list.items))) = elim c.match-parent.branch [ in-Some+else-not-is_without w ↦ out_covered c.self.inside.list.items c.args.path.now c.find-at.result.0 c.self.invariant.0 put there c.requires.path (ap (λ (o : Objects). has_below o c.args.path.now) c.self.view_is ∙ c.requires.bare) w.in-Some.above.now w.in-Some.ensures.0 (sym (w.is_without.ensures ∙ ap (λ es. is_without (listed es) c.find-at.result.0 w.in-Some.above.now) w.deref-in-Some.ensures.value) ∙ w.if-not-is_without.false) c.remove.new.self.items c.remove.ensures.items | in_default w ↦ out_alone c.self.inside.list.items c.args.path.now c.find-at.result.0 c.self.invariant.0 put there c.requires.path (ap (λ (o : Objects). has_below o c.args.path.now) c.self.view_is ∙ c.requires.bare) w.in_default.ensures c.remove.new.self.items c.remove.ensures.items ] in
    all.1 ∙ ap (λ (o : Objects). remove_entry (is_at (text_cmp c.args.path.now)) o) c.self.view_is
