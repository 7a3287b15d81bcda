use Rattle.std.proofs.Common.{◌≡◌, sym, ◌∙◌, ap, ap₂, subst, List, ℕ, ◌∷◌, [], ◌++◌, ◌-◌, take, arith}
use Rattle.object_tree.specs.Objects.{Rows, IsObject}
use Rattle.object_tree.proofs.Stepped.{skipped, passed_zero, passed_over, pushed, new_object}
use Rattle.object_tree.proofs.Valid.{ascii_path}
use Rattle.object_tree.proofs.walk.push_ways.Goals.{then-at-gt0+then-is_new+in_ok-push, else-at-gt0, else-at-gt0-via-then-at-gt0+else-is_new, else-at-gt0-via-else-at-gt0}
use Rattle.object_tree.proofs.walk.push_ways.Goals as goal

pub next-init : goal.next-init
next-init c = (skipped c.args.last.now c.args.path.now c.args.list.now.items c.common-at.result c.common-at.ensures.same c.common-at.ensures.first c.common-at.ensures.second, c.common-at.ensures.second)

pub range-requires-clause-end_boundary : goal.range-requires-clause-end_boundary
range-requires-clause-end_boundary c =
    let low = ascii_path c.args.path.now c.requires.path c.next.at in
    (omega (arith, c.next-test.true), λ less high. absurd (omega (arith, low, high)))

pub new-requires : goal.new-requires
new-requires c =
    let front : c.range.result.now ≡ take c.next.at c.args.path.now = (let whole : c.next.at - 0 ≡ c.next.at = omega arith in c.range.ensures.value ∙ ap (λ i. take i c.args.path.now) whole) in
    let both : (c.range.result.now, c.args.bare.now) ≡ (take c.next.at c.args.path.now, []) = ap₂ (λ (p : List ℕ) (r : Rows). (p, r)) front c.requires.bare in
    subst (λ (o : List ℕ × Rows). IsObject o) (sym both) (new_object c.args.last.now c.args.path.now c.next.at c.requires.path (omega (arith, c.if-at-gt0.true)) (omega (arith, c.next-test.true)) (sym c.is_new.ensures ∙ c.if-is_new.true))

pub next-preserved : goal.next-preserved
next-preserved c = (
  elim c.if-at-gt0.branch [
    | then-at-gt0+then-is_new+in_ok-push w ↦
        (let front : w.range.result.now ≡ take c.next.at c.args.path.now = (let whole : c.next.at - 0 ≡ c.next.at = omega arith in w.range.ensures.value ∙ ap (λ i. take i c.args.path.now) whole) in
        ap (λ l. l.items) w.list-is ∙ w.in_ok-push.ensures.items ∙ ap (λ o. c.next.list.items ++ o ∷ []) (w.new.ensures ∙ ap₂ (λ (p : List ℕ) (r : Rows). (p, r)) front c.requires.bare)
        ∙ pushed c.args.last.now c.args.path.now c.args.list.now.items c.next.list.items c.next.at (omega (arith, w.if-at-gt0.true)) c.next.invariant.0 (sym w.is_new.ensures ∙ w.if-is_new.true))
    | else-at-gt0 w ↦
        ap (λ l. l.items) w.list-is ∙ elim w.else-at-gt0.branch [ else-at-gt0-via-then-at-gt0+else-is_new w' ↦ passed_over c.args.last.now c.args.path.now c.args.list.now.items c.next.list.items c.next.at (omega (arith, w'.if-at-gt0.true)) c.next.invariant.0 (sym w'.is_new.ensures ∙ w'.if-is_new.false) | else-at-gt0-via-else-at-gt0 w' ↦ passed_zero c.args.last.now c.args.path.now c.args.list.now.items c.next.list.items c.next.at (omega (arith, w'.if-at-gt0.false)) c.next.invariant.0 ]
  ],
  omega (arith, c.next-test.true),
)
