use Rattle.rule_match.proofs.Quotes.{quote_stripped}
use Rattle.rule_match.proofs.component.before_quote.Goals as goal

pub returns : goal.returns
returns c = quote_stripped c.args.text.now c.strip_suffix.result c.strip_suffix.ensures.cases
