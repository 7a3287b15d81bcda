use Rattle.std.proofs.Common.{sym, ap, ◌∙◌, [], ◌∷◌, ◌++◌, Ok, inr}
use Rattle.std.proofs.lemmas.Result.{err_from_is_err_and}
use Rattle.rule_match.specs.Building.{with_part, IsPart}
use Rattle.rule_match.proofs.Made.{made_all, rule_more}
use Rattle.rule_match.proofs.Read.{none_made, part_read, fault_read, all_read, told_ok, fault_given}
use Rattle.rule_match.proofs.component.rule_of.Goals as goal

pub loop-part-init : goal.loop-part-init
loop-part-init c = ([], c.builder-builder.ensures ∙ none_made, sym (made_all _))

pub loop-part-preserved : goal.loop-part-preserved
loop-part-preserved c =
    let inv = c.loop-part.invariant in
    let p = c.in_ok-component.field-0 in
    let valid : IsPart p = c.in_ok-component.ensures.valid in (
      inv.0 ++ p ∷ [],
      c.in_ok-builder.ensures ∙ ap (with_part p) inv.1 ∙ sym (rule_more inv.0 p valid),
      part_read c.args.parts.now c.loop-part.part-index _ inv.0 p c.loop-part-test.true (told_ok p _ c.in_ok-component.ensures.part) inv.2,
    )

pub returns : goal.returns
returns c =
    let inv = c.loop-part.invariant in
    inr (ap Ok (c.build.ensures ∙ inv.1) ∙ sym (all_read c.args.parts.now c.loop-part.part-index inv.0 c.loop-part-test.false inv.2))

pub returns-in_err-component : goal.returns-in_err-component
returns-in_err-component c =
    let inv = c.loop-part.invariant in
    let parts = c.args.parts.now in
    let i = c.loop-part.part-index in
    let p = err_from_is_err_and c.from_residual.result c.from_residual.ensures.1 in
    rw (p.1, p.2) (fault_given _ _ _ (λ k. fault_read parts i _ inv.0 _ c.loop-part-test.true k inv.2) c.in_err-component.ensures.part)
