use Rattle.std.proofs.Common.{sym, ◌∙◌, ap, Bool, Some, None, cond, []}
use Rattle.object_tree.specs.Keyed.{listed}
use Rattle.object_tree.specs.Objects.{Objects, rows_at, is_below}
use Rattle.object_tree.proofs.Got.{got_none, got_there, got_else, spot, held}
use Rattle.object_tree.proofs.Listed.{listed_is, listed_past}
use Rattle.object_tree.proofs.Removing.{has_byte}
use Rattle.object_tree.proofs.nodes.Nodes.get.Goals as goal

pub returns-in_default : goal.returns-in_default
returns-in_default c =
    let past = listed_past c.deref-2.result.now c.find-at.result.0 c.in_default.ensures.lookup.3 in
    let is = spot c.self.inside.list.items c.deref.result.now c.deref-2.result.now c.args.path.now c.find-at.result.0 c.deref.ensures.value (ap (λ r. r.0) c.find-at.ensures) None c.deref-2.ensures.value past in
    sym (got_none (listed c.self.inside.list.items) c.args.path.now c.self.invariant.0 (has_byte c.args.path.now c.requires) is) ∙ ap (λ (o : Objects). rows_at o c.args.path.now) c.self.view_is

pub returns-then-there : goal.returns-then-there
returns-then-there c =
    let at = listed_is c.deref-2.result.now c.find-at.result.0 c.in-Some.field-0.now c.in-Some.ensures.lookup.3.0 c.in-Some.ensures.lookup.1 in
    let is = spot c.self.inside.list.items c.deref.result.now c.deref-2.result.now c.args.path.now c.find-at.result.0 c.deref.ensures.value (ap (λ r. r.0) c.find-at.ensures) _ c.deref-2.ensures.value at in
    let there = held c.self.inside.list.items c.deref.result.now c.args.path.now c.find-at.result.1 _ c.deref.ensures.value (ap (λ r. r.1) c.find-at.ensures) c.if-there.true in
    sym (got_there (listed c.self.inside.list.items) c.args.path.now c.self.invariant.0 _ there is).1 ∙ ap (λ (o : Objects). rows_at o c.args.path.now) c.self.view_is

pub returns-then-is_below : goal.returns-then-is_below
returns-then-is_below c =
    let at = listed_is c.deref-2.result.now c.find-at.result.0 c.in-Some.field-0.now c.in-Some.ensures.lookup.3.0 c.in-Some.ensures.lookup.1 in
    let is = spot c.self.inside.list.items c.deref.result.now c.deref-2.result.now c.args.path.now c.find-at.result.0 c.deref.ensures.value (ap (λ r. r.0) c.find-at.ensures) _ c.deref-2.ensures.value at in
    let gone = held c.self.inside.list.items c.deref.result.now c.args.path.now c.find-at.result.1 _ c.deref.ensures.value (ap (λ r. r.1) c.find-at.ensures) c.if-there.false in
    let below = sym (c.is_below.ensures ∙ ap (is_below c.args.path.now) c.deref-3.ensures) ∙ c.if-is_below.true in
    ap Some c.self.invariant.1 ∙ sym (got_else (listed c.self.inside.list.items) c.args.path.now c.self.invariant.0 _ (has_byte c.args.path.now c.requires) gone is ∙ ap (λ (b : Bool). cond b (Some []) None) below) ∙ ap (λ (o : Objects). rows_at o c.args.path.now) c.self.view_is

pub returns : goal.returns
returns c =
    let at = listed_is c.deref-2.result.now c.find-at.result.0 c.in-Some.field-0.now c.in-Some.ensures.lookup.3.0 c.in-Some.ensures.lookup.1 in
    let is = spot c.self.inside.list.items c.deref.result.now c.deref-2.result.now c.args.path.now c.find-at.result.0 c.deref.ensures.value (ap (λ r. r.0) c.find-at.ensures) _ c.deref-2.ensures.value at in
    let gone = held c.self.inside.list.items c.deref.result.now c.args.path.now c.find-at.result.1 _ c.deref.ensures.value (ap (λ r. r.1) c.find-at.ensures) c.if-there.false in
    let below = sym (c.is_below.ensures ∙ ap (is_below c.args.path.now) c.deref-3.ensures) ∙ c.if-is_below.false in
    sym (got_else (listed c.self.inside.list.items) c.args.path.now c.self.invariant.0 _ (has_byte c.args.path.now c.requires) gone is ∙ ap (λ (b : Bool). cond b (Some []) None) below) ∙ ap (λ (o : Objects). rows_at o c.args.path.now) c.self.view_is
