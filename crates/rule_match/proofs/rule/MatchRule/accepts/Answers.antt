use Rattle.std.proofs.Common.{◌∙◌, ap, is_some}
use Rattle.rule_match.specs.Matching.{wanted_of}
use Rattle.rule_match.specs.Sources.{arguments_from}
use Rattle.rule_match.proofs.FoundTexts.{unreadable, fitting, not_fitting}
use Rattle.rule_match.proofs.rule.MatchRule.accepts.Goals as goal

pub returns-then-not-may_be_readable-clause-accepts : goal.returns-then-not-may_be_readable-clause-accepts
returns-then-not-may_be_readable-clause-accepts c =
    unreadable (wanted_of c.args.self.now) c.requires.wants (arguments_from c.args.walk.now.source) (c.may_be_readable.ensures c.if-not-may_be_readable.true)

pub returns-then-fits-clause-accepts : goal.returns-then-fits-clause-accepts
returns-then-fits-clause-accepts c =
    fitting (wanted_of c.args.self.now) c.requires.wants (arguments_from c.args.walk.now.source) c.fits.result c.is_readable.result c.fits.ensures.has c.if-fits.true
    (c.is_readable.ensures.readable ∙ ap (λ s. is_some (arguments_from s)) c.fits.ensures.source)

pub returns-else-fits-clause-accepts : goal.returns-else-fits-clause-accepts
returns-else-fits-clause-accepts c =
    not_fitting (wanted_of c.args.self.now) c.requires.wants (arguments_from c.args.walk.now.source) c.fits.result c.fits.ensures.has c.if-fits.false
