use Rattle.std.proofs.Common.{◌∙◌, sym, ap}
use Rattle.rule_match.specs.Accepting.{accepts_arguments}
use Rattle.rule_match.specs.Sources.{arguments_from}
use Rattle.rule_match.proofs.Asking.{last_fits, last_fails}
use Rattle.rule_match.proofs.wants.fits.Goals as goal

pub returns-then-is_in_namespace-clause-has : goal.returns-then-is_in_namespace-clause-has
unfolding accepts_arguments
returns-then-is_in_namespace-clause-has c = λ ds are.
    c.are_wanted.ensures.has ds (ap arguments_from c.is_in_namespace.ensures.source ∙ are)
    ∙ last_fits _ _ _ (sym (c.is_in_namespace.ensures.has ds are) ∙ c.if-is_in_namespace.true)

pub returns-else-is_in_namespace-clause-has : goal.returns-else-is_in_namespace-clause-has
unfolding accepts_arguments
returns-else-is_in_namespace-clause-has c = λ ds are.
    let has = c.is_in_namespace.ensures.has ds are in
    has ∙ last_fails _ _ _ (sym has ∙ c.if-is_in_namespace.false)
