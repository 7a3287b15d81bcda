use Rattle.std.proofs.Common.{◌∙◌, sym}
use Rattle.rule_match.specs.Matching.{wanted_of}
use Rattle.rule_match.proofs.FoundTexts.{nothing_wanted}
use Rattle.rule_match.proofs.rule.MatchRule.match_arguments.Goals as goal

pub returns-then-wants_no_argument-clause-accepts : goal.returns-then-wants_no_argument-clause-accepts
returns-then-wants_no_argument-clause-accepts c =
    let none = sym c.wants_no_argument.ensures ∙ c.if-wants_no_argument.true in
    c.if-wants_no_argument.true ∙ sym (nothing_wanted (wanted_of c.args.self.now) _ none)
