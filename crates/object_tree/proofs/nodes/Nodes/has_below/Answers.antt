use Rattle.std.proofs.Common.{◌≡◌, refl, sym, ◌∙◌, ap, ap₂, ℕ, ◌+◌, List, Bool, false, cond, option_map, unwrap_or, arith}
use Rattle.std.specs.List.{slice_get}
use Rattle.object_tree.specs.Keyed.{listed}
use Rattle.object_tree.specs.Objects.{Objects, Rows, has_below, is_below}
use Rattle.object_tree.proofs.Got.{closed_below, at_spot, by_there, held}
use Rattle.object_tree.proofs.Listed.{listed_is, listed_past, listed_length, place_most}
use Rattle.object_tree.proofs.nodes.Nodes.has_below.Goals.{then-there, else-there}
use Rattle.object_tree.proofs.nodes.Nodes.has_below.Goals as goal

pub overflow_add-after : goal.overflow_add-after
overflow_add-after c =
    let at = ap (λ r. r.0) c.find-at.ensures in
    let most = place_most (listed c.deref.result.now) c.args.path.now in
    let count = listed_length c.deref.result.now in
    omega (arith, at, most, count, c.deref.ensures.len)

pub returns-in-Some : goal.returns-in-Some
returns-in-Some c =
    let items = c.self.inside.list.items in
    let put = at_spot c.self.inside.list.items c.deref.result.now c.deref-2.result.now c.args.path.now c.find-at.result.0 c.deref.ensures.value (ap (λ r. r.0) c.find-at.ensures) in
    let there = held c.self.inside.list.items c.deref.result.now c.args.path.now c.find-at.result.1 c.find-at.result.1 c.deref.ensures.value (ap (λ r. r.1) c.find-at.ensures) refl in
    let after : c.if-there.after ≡ cond c.find-at.result.1 (c.find-at.result.0 + 1) c.find-at.result.0 = elim c.if-there.branch [ then-there w ↦ w.after-is ∙ sym (ap (λ (b : Bool). cond b (c.find-at.result.0 + 1) c.find-at.result.0) w.if-there.true) | else-there w ↦ w.after-is ∙ sym (ap (λ (b : Bool). cond b (c.find-at.result.0 + 1) c.find-at.result.0) w.if-there.false) ] in
    let at = listed_is c.deref-2.result.now c.if-there.after c.in-Some.field-0.now c.in-Some.ensures.lookup.3.0 c.in-Some.ensures.lookup.1 in
    let is = sym (ap₂ (λ (x : Objects) (n : ℕ). slice_get x n) (ap listed c.deref-2.ensures.value) (by_there (listed c.self.inside.list.items) c.args.path.now c.find-at.result.1 c.find-at.result.0 c.if-there.after put there after)) ∙ at in
    c.is_below.ensures ∙ ap (is_below c.args.path.now) c.deref-in-Some.ensures ∙ sym (ap (λ o. unwrap_or (option_map (λ (o : List ℕ × Rows). is_below c.args.path.now o.0) o) false) is)
    ∙ sym (closed_below (listed c.self.inside.list.items) c.args.path.now c.self.invariant.0) ∙ ap (λ (o : Objects). has_below o c.args.path.now) c.self.view_is

pub returns-in-None : goal.returns-in-None
returns-in-None c =
    let put = at_spot c.self.inside.list.items c.deref.result.now c.deref-2.result.now c.args.path.now c.find-at.result.0 c.deref.ensures.value (ap (λ r. r.0) c.find-at.ensures) in
    let there = held c.self.inside.list.items c.deref.result.now c.args.path.now c.find-at.result.1 c.find-at.result.1 c.deref.ensures.value (ap (λ r. r.1) c.find-at.ensures) refl in
    let after : c.if-there.after ≡ cond c.find-at.result.1 (c.find-at.result.0 + 1) c.find-at.result.0 = elim c.if-there.branch [ then-there w ↦ w.after-is ∙ sym (ap (λ (b : Bool). cond b (c.find-at.result.0 + 1) c.find-at.result.0) w.if-there.true) | else-there w ↦ w.after-is ∙ sym (ap (λ (b : Bool). cond b (c.find-at.result.0 + 1) c.find-at.result.0) w.if-there.false) ] in
    let past = listed_past c.deref-2.result.now c.if-there.after c.in-None.ensures.lookup.3 in
    let is = sym (ap₂ (λ (x : Objects) (n : ℕ). slice_get x n) (ap listed c.deref-2.ensures.value) (by_there (listed c.self.inside.list.items) c.args.path.now c.find-at.result.1 c.find-at.result.0 c.if-there.after put there after)) ∙ past in
    sym (ap (λ o. unwrap_or (option_map (λ (o : List ℕ × Rows). is_below c.args.path.now o.0) o) false) is)
    ∙ sym (closed_below (listed c.self.inside.list.items) c.args.path.now c.self.invariant.0) ∙ ap (λ (o : Objects). has_below o c.args.path.now) c.self.view_is
