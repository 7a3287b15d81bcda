use Rattle.std.proofs.Common.{◌≡◌, refl, sym, ◌∙◌, ap, ap₂, Bool, cond, ◌+◌, ◌++◌, arith}
use Rattle.object_tree.specs.Closed.{walked}
use Rattle.object_tree.specs.Keyed.{listed}
use Rattle.object_tree.specs.Objects.{Objects, below}
use Rattle.object_tree.proofs.Got.{at_spot, by_there, held}
use Rattle.object_tree.proofs.Listed.{listed_length, place_most}
use Rattle.object_tree.proofs.Walked.{walked_is}
use Rattle.object_tree.proofs.nodes.Nodes.below.Goals.{then-there, else-there}
use Rattle.object_tree.proofs.nodes.Nodes.below.Goals as goal

pub overflow_add-at : goal.overflow_add-at
overflow_add-at c =
    let at = ap (λ r. r.0) c.find-at.ensures in
    let most = place_most (listed c.deref.result.now) c.args.path.now in
    let count = listed_length c.deref.result.now in
    omega (arith, at, most, count, c.deref.ensures.len)

pub returns : goal.returns
returns c =
    let put = at_spot c.self.inside.list.items c.deref.result.now c.deref-2.result.now c.args.path.now c.find-at.result.0 c.deref.ensures.value (ap (λ r. r.0) c.find-at.ensures) in
    let there = held c.self.inside.list.items c.deref.result.now c.args.path.now c.find-at.result.1 c.find-at.result.1 c.deref.ensures.value (ap (λ r. r.1) c.find-at.ensures) refl in
    let after : c.if-there.push_below ≡ cond c.find-at.result.1 (c.find-at.result.0 + 1) c.find-at.result.0 = elim c.if-there.branch [ then-there w ↦ w.push_below-is ∙ sym (ap (λ (b : Bool). cond b (c.find-at.result.0 + 1) c.find-at.result.0) w.if-there.true) | else-there w ↦ w.push_below-is ∙ sym (ap (λ (b : Bool). cond b (c.find-at.result.0 + 1) c.find-at.result.0) w.if-there.false) ] in
    let place = by_there (listed c.self.inside.list.items) c.args.path.now c.find-at.result.1 c.find-at.result.0 c.if-there.push_below put there after in
    c.in_ok-push_below.ensures ∙ ap₂ (λ l es. l ++ walked c.args.path.now (listed es) c.if-there.push_below) c.new-list.ensures.items c.deref-2.ensures.value
    ∙ walked_is c.args.path.now (listed c.self.inside.list.items) c.if-there.push_below c.self.invariant.0 c.requires place ∙ ap (λ (o : Objects). below o c.args.path.now) c.self.view_is
