use Rattle.std.proofs.Common.{◌≡◌, sym, ◌∙◌, ap, subst, Some, None, is_some, true, false, not, List, ℕ, arith, length}
use Rattle.std.proofs.lemmas.Bool.{cond-true, cond-false}
use Rattle.object_tree.specs.Keyed.{listed}
use Rattle.object_tree.specs.Objects.{Objects, Rows, IsObject, slot_at, is_manager, manager_name}
use Rattle.object_tree.proofs.Got.{slot_none, at_spot, held}
use Rattle.object_tree.proofs.Spot.{in_list, key_is, row_is, slot_whole}
use Rattle.object_tree.proofs.Valid.{object_at}
use Rattle.object_tree.proofs.nodes.Nodes.manager_at.Goals as goal

pub returns-then-not-there : goal.returns-then-not-there
returns-then-not-there c =
    let gone = held c.self.inside.list.items c.deref.result.now c.args.path.now c.find-at.result.1 _ c.deref.ensures.value (ap (λ r. r.1) c.find-at.ensures) c.if-not-there.true in
    let none = slot_none (listed c.self.inside.list.items) c.args.path.now c.self.invariant.0 manager_name gone in
    sym (cond-false (is_manager c.args.self.now c.args.path.now) (Some c.args.path.now) None (ap is_some (ap (λ (o : Objects). slot_at o c.args.path.now manager_name) (sym c.self.view_is) ∙ none)))

pub index-requires : goal.index-requires
index-requires c =
    let put = at_spot c.self.inside.list.items c.deref.result.now c.deref.result.now c.args.path.now c.find-at.result.0 c.deref.ensures.value (ap (λ r. r.0) c.find-at.ensures) in
    let there = held c.self.inside.list.items c.deref.result.now c.args.path.now c.find-at.result.1 _ c.deref.ensures.value (ap (λ r. r.1) c.find-at.ensures) c.if-not-there.false in
    let inside = in_list c.self.inside.list.items c.args.path.now c.find-at.result.0 c.self.invariant.0 put there in
    omega (arith, inside, ap length c.deref.ensures.value, c.deref.ensures.len)

pub returns-then-is_none : goal.returns-then-is_none
returns-then-is_none c =
    let put = at_spot c.self.inside.list.items c.deref.result.now c.deref.result.now c.args.path.now c.find-at.result.0 c.deref.ensures.value (ap (λ r. r.0) c.find-at.ensures) in
    let there = held c.self.inside.list.items c.deref.result.now c.args.path.now c.find-at.result.1 _ c.deref.ensures.value (ap (λ r. r.1) c.find-at.ensures) c.if-not-there.false in
    let slot = slot_whole c.self.inside.list.items c.args.path.now c.find-at.result.0 c.self.invariant.0 put there c.index.result.now c.index.ensures manager_name in
    let none : is_some c.manager.result ≡ false = c.is_none.ensures ∙ ap not c.if-is_none.true in
    sym (cond-false (is_manager c.args.self.now c.args.path.now) (Some c.args.path.now) None (ap is_some (ap (λ (o : Objects). slot_at o c.args.path.now manager_name) (sym c.self.view_is) ∙ slot ∙ sym c.manager.ensures) ∙ none))

pub new-requires : goal.new-requires
new-requires c =
    let put = at_spot c.self.inside.list.items c.deref.result.now c.deref.result.now c.args.path.now c.find-at.result.0 c.deref.ensures.value (ap (λ r. r.0) c.find-at.ensures) in
    let there = held c.self.inside.list.items c.deref.result.now c.args.path.now c.find-at.result.1 _ c.deref.ensures.value (ap (λ r. r.1) c.find-at.ensures) c.if-not-there.false in
    let key = key_is c.self.inside.list.items c.args.path.now c.find-at.result.0 c.self.invariant.0 put there c.index.result.now c.index.ensures in
    let row = row_is c.self.inside.list.items c.args.path.now c.find-at.result.0 c.self.invariant.0 put there c.index.result.now c.index.ensures in
    subst (λ (p : List ℕ). IsObject (p, c.index.result.now.1)) (sym key ∙ sym c.deref-2.ensures) (object_at (listed c.self.inside.list.items) c.args.path.now c.index.result.now.1 c.self.invariant.0.valid row)

pub returns : goal.returns
returns c =
    let put = at_spot c.self.inside.list.items c.deref.result.now c.deref.result.now c.args.path.now c.find-at.result.0 c.deref.ensures.value (ap (λ r. r.0) c.find-at.ensures) in
    let there = held c.self.inside.list.items c.deref.result.now c.args.path.now c.find-at.result.1 _ c.deref.ensures.value (ap (λ r. r.1) c.find-at.ensures) c.if-not-there.false in
    let key = key_is c.self.inside.list.items c.args.path.now c.find-at.result.0 c.self.invariant.0 put there c.index.result.now c.index.ensures in
    let slot = slot_whole c.self.inside.list.items c.args.path.now c.find-at.result.0 c.self.invariant.0 put there c.index.result.now c.index.ensures manager_name in
    let some : is_some c.manager.result ≡ true = c.is_none.ensures ∙ ap not c.if-is_none.false in
    let path : c.path.result ≡ c.args.path.now = c.path.ensures ∙ ap (λ (o : List ℕ × Rows). o.0) c.new.ensures ∙ c.deref-2.ensures ∙ key in
    ap Some path ∙ sym (cond-true (is_manager c.args.self.now c.args.path.now) (Some c.args.path.now) None (ap is_some (ap (λ (o : Objects). slot_at o c.args.path.now manager_name) (sym c.self.view_is) ∙ slot ∙ sym c.manager.ensures) ∙ some))
