use Rattle.std.proofs.Common.{◌∙◌, ap, inl, inr}
use Rattle.rule_match.specs.Found.{text_at}
use Rattle.rule_match.specs.Sources.{arguments_from}
use Rattle.rule_match.proofs.Behind.{kept_text, no_text_left}
use Rattle.rule_match.proofs.walk.Walk.text_at.Goals as goal

pub returns-then-pass-clause-text : goal.returns-then-pass-clause-text
returns-then-pass-clause-text c = λ ds are.
    c.at.ensures ∙ kept_text c.pass.new.self c.pass.ensures.walk ds (ap arguments_from c.pass.ensures.source ∙ are) c.from-index.result (rw c.from-index.ensures c.requires.within) (c.pass.ensures.passed c.if-pass.true)
    ∙ ap (text_at ds) c.from-index.ensures

pub returns-else-pass-clause-text : goal.returns-else-pass-clause-text
returns-else-pass-clause-text c = λ ds are.
    elim (c.pass.ensures.none c.if-pass.false) [
      | inl none ↦ absurd (cc (none, are))
      | inr end ↦ no_text_left c.pass.new.self c.pass.ensures.walk ds (ap arguments_from c.pass.ensures.source ∙ are) c.from-index.result end ∙ ap (text_at ds) c.from-index.ensures
    ]
