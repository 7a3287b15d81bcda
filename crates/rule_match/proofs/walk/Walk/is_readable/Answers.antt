use Rattle.std.proofs.Common.{◌∙◌, sym, ap, is_some}
use Rattle.rule_match.specs.Sources.{arguments_from}
use Rattle.rule_match.proofs.Behind.{settled}
use Rattle.rule_match.proofs.walk.Walk.is_readable.Goals as goal
use Rattle.rule_match.proofs.walk.Walk.is_readable.Goals.{then-reach_end, else-reach_end}

answer : goal.returns-clause-readable
answer c = elim c.if-reach_end.branch [
  | then-reach_end w ↦
      w.readable-is ∙ w.is_signature-readable.ensures.read ∙ settled c.reach_end.new.self c.reach_end.ensures.walk (c.reach_end.ensures.reached w.if-reach_end.true)
      ∙ ap (λ s. is_some (arguments_from s)) c.reach_end.ensures.source
  | else-reach_end w ↦ w.readable-is ∙ w.if-reach_end.false ∙ sym (ap is_some (c.reach_end.ensures.refused w.if-reach_end.false))
]

pub returns-clause-readable : goal.returns-clause-readable
returns-clause-readable c = answer c

pub returns-clause-walk : goal.returns-clause-walk
returns-clause-walk c =
    let walk = c.reach_end.ensures.walk in
    record {
      behind = λ ts s. let b = walk.behind ts s in (b.0, record { has_passed = b.1.has_passed; count = b.1.count; texts = b.1.texts });
      fits = walk.fits;
      known = answer c ∙ sym (ap (λ s. is_some (arguments_from s)) c.reach_end.ensures.source);
    }
