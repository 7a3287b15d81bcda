use Rattle.std.proofs.Common.{◌≡◌, refl, sym, ◌∙◌, ap, ap₂, subst, List, ℕ, Bool, cond, ◌∷◌, [], ◌+◌, ◌-◌, ◌++◌, ◌<◌, Some, None, option_copied, take, get_or, string_bytes, arith, length}
use Rattle.object_tree.specs.Closed.{AreNodes, closed, walked}
use Rattle.object_tree.specs.Keyed.{listed}
use Rattle.object_tree.specs.Objects.{Objects, Rows, IsObject, rows_at, from_path}
use Rattle.object_tree.proofs.Fromed.{missing_from, first_from, names_closed, key_front}
use Rattle.object_tree.proofs.Got.{at_spot, by_there, got_none, held, spot}
use Rattle.object_tree.proofs.Listed.{listed_is, listed_past}
use Rattle.object_tree.proofs.Removing.{has_byte}
use Rattle.object_tree.proofs.Valid.{ascii_path}
use Rattle.object_tree.proofs.Walked.{valid_at, walked_is}
use Rattle.object_tree.proofs.nodes.Nodes.from_path.Goals.{then-there, else-there}
use Rattle.object_tree.proofs.nodes.Nodes.from_path.Goals as goal

pub returns-in_default : goal.returns-in_default
returns-in_default c =
    let past = listed_past c.deref-2.result.now c.find-at.result.0 c.in_default.ensures.lookup.3 in
    let is = spot c.self.inside.list.items c.deref.result.now c.deref-2.result.now c.args.path.now c.find-at.result.0 c.deref.ensures.value (ap (λ r. r.0) c.find-at.ensures) None c.deref-2.ensures.value past in
    c.new-list.ensures.items ∙ missing_from (listed c.self.inside.list.items) c.args.path.now c.self.invariant.0 c.requires (got_none (listed c.self.inside.list.items) c.args.path.now c.self.invariant.0 (has_byte c.args.path.now c.requires) is)
    ∙ ap (λ (o : Objects). from_path o c.args.path.now) c.self.view_is

pub returns-in_default-get : goal.returns-in_default-get
returns-in_default-get c =
    c.new-list.ensures.items
    ∙ missing_from (listed c.self.inside.list.items) c.args.path.now c.self.invariant.0 c.requires (ap (λ (o : Objects). rows_at o c.args.path.now) c.self.view_is ∙ sym c.get-2.ensures ∙ ap option_copied c.in_default-get.is)
    ∙ ap (λ (o : Objects). from_path o c.args.path.now) c.self.view_is

pub range-requires-clause-end_boundary : goal.range-requires-clause-end_boundary
range-requires-clause-end_boundary c =
    let at = listed_is c.deref-2.result.now c.find-at.result.0 c.in-Some.field-0.now c.in-Some.ensures.lookup.3.0 c.in-Some.ensures.lookup.1 in
    let is = spot c.self.inside.list.items c.deref.result.now c.deref-2.result.now c.args.path.now c.find-at.result.0 c.deref.ensures.value (ap (λ r. r.0) c.find-at.ensures) _ c.deref-2.ensures.value at in
    let some : rows_at (closed (listed c.self.inside.list.items)) c.args.path.now ≡ Some c.in-Some-get.rows.now = ap (λ (o : Objects). rows_at o c.args.path.now) c.self.view_is ∙ sym c.get-2.ensures ∙ ap option_copied c.in-Some-get.is in
    let key = key_front (listed c.self.inside.list.items) c.args.path.now c.self.invariant.0 c.requires _ c.in-Some-get.rows.now is some in
    let valid = (valid_at (listed c.deref-2.result.now) c.find-at.result.0 _ (subst (λ es. AreNodes (listed es)) (sym c.deref-2.ensures.value) c.self.invariant.0).valid at).path in
    let low : get_or c.deref-3.result.now (length c.args.path.now) 0 < 128 = subst (λ (p : List ℕ). get_or p (length c.args.path.now) 0 < 128) (sym c.deref-3.ensures) (ascii_path (string_bytes c.in-Some.field-0.now.0) valid (length c.args.path.now)) in
    (omega (arith, key.1, ap length c.deref-3.ensures), λ less high. absurd (omega (arith, low, high)))

pub new-requires : goal.new-requires
new-requires c =
    let at = listed_is c.deref-2.result.now c.find-at.result.0 c.in-Some.field-0.now c.in-Some.ensures.lookup.3.0 c.in-Some.ensures.lookup.1 in
    let is = spot c.self.inside.list.items c.deref.result.now c.deref-2.result.now c.args.path.now c.find-at.result.0 c.deref.ensures.value (ap (λ r. r.0) c.find-at.ensures) _ c.deref-2.ensures.value at in
    let some : rows_at (closed (listed c.self.inside.list.items)) c.args.path.now ≡ Some c.in-Some-get.rows.now = ap (λ (o : Objects). rows_at o c.args.path.now) c.self.view_is ∙ sym c.get-2.ensures ∙ ap option_copied c.in-Some-get.is in
    let key = key_front (listed c.self.inside.list.items) c.args.path.now c.self.invariant.0 c.requires _ c.in-Some-get.rows.now is some in
    let front : c.range.result.now ≡ c.args.path.now = (let whole : length c.args.path.now - 0 ≡ length c.args.path.now = omega arith in c.range.ensures.value ∙ ap (λ i. take i c.deref-3.result.now) whole) ∙ ap (take (length c.args.path.now)) c.deref-3.ensures ∙ key.0 in
    subst (λ (p : List ℕ). IsObject (p, c.in-Some-get.rows.now)) (sym front) (record { path = c.requires; names = names_closed (listed c.self.inside.list.items) c.args.path.now c.self.invariant.0 c.requires c.in-Some-get.rows.now some })

pub returns : goal.returns
returns c =
    let at = listed_is c.deref-2.result.now c.find-at.result.0 c.in-Some.field-0.now c.in-Some.ensures.lookup.3.0 c.in-Some.ensures.lookup.1 in
    let is = spot c.self.inside.list.items c.deref.result.now c.deref-2.result.now c.args.path.now c.find-at.result.0 c.deref.ensures.value (ap (λ r. r.0) c.find-at.ensures) _ c.deref-2.ensures.value at in
    let some : rows_at (closed (listed c.self.inside.list.items)) c.args.path.now ≡ Some c.in-Some-get.rows.now = ap (λ (o : Objects). rows_at o c.args.path.now) c.self.view_is ∙ sym c.get-2.ensures ∙ ap option_copied c.in-Some-get.is in
    let key = key_front (listed c.self.inside.list.items) c.args.path.now c.self.invariant.0 c.requires _ c.in-Some-get.rows.now is some in
    let front : c.range.result.now ≡ c.args.path.now = (let whole : length c.args.path.now - 0 ≡ length c.args.path.now = omega arith in c.range.ensures.value ∙ ap (λ i. take i c.deref-3.result.now) whole) ∙ ap (take (length c.args.path.now)) c.deref-3.ensures ∙ key.0 in
    let put = at_spot c.self.inside.list.items c.deref.result.now c.deref-2.result.now c.args.path.now c.find-at.result.0 c.deref.ensures.value (ap (λ r. r.0) c.find-at.ensures) in
    let there = held c.self.inside.list.items c.deref.result.now c.args.path.now c.find-at.result.1 c.find-at.result.1 c.deref.ensures.value (ap (λ r. r.1) c.find-at.ensures) refl in
    let after : c.if-there.push_below ≡ cond c.find-at.result.1 (c.find-at.result.0 + 1) c.find-at.result.0 = elim c.if-there.branch [ then-there w ↦ w.push_below-is ∙ sym (ap (λ (b : Bool). cond b (c.find-at.result.0 + 1) c.find-at.result.0) w.if-there.true) | else-there w ↦ w.push_below-is ∙ sym (ap (λ (b : Bool). cond b (c.find-at.result.0 + 1) c.find-at.result.0) w.if-there.false) ] in
    let place = by_there (listed c.self.inside.list.items) c.args.path.now c.find-at.result.1 c.find-at.result.0 c.if-there.push_below put there after in
    let first : c.push.new.self.items ≡ (c.args.path.now, c.in-Some-get.rows.now) ∷ [] = c.in_ok-push.ensures.items ∙ ap₂ (λ (l : Objects) (o : List ℕ × Rows). l ++ o ∷ []) c.new-list.ensures.items (c.new.ensures ∙ ap (λ (p : List ℕ). (p, c.in-Some-get.rows.now)) front) in
    c.in_ok-push_below.ensures ∙ ap₂ (λ (l : Objects) es. l ++ walked c.args.path.now (listed es) c.if-there.push_below) first c.deref-4.ensures.value
    ∙ ap (λ (l : Objects). (c.args.path.now, c.in-Some-get.rows.now) ∷ l) (walked_is c.args.path.now (listed c.self.inside.list.items) c.if-there.push_below c.self.invariant.0 c.requires place)
    ∙ first_from (listed c.self.inside.list.items) c.args.path.now c.self.invariant.0 c.requires c.in-Some-get.rows.now some ∙ ap (λ (o : Objects). from_path o c.args.path.now) c.self.view_is
