use Rattle.std.proofs.Common.{sym, inr}
use Rattle.rule_match.proofs.Utf8.{namespace_refused}
use Rattle.rule_match.proofs.component.namespace_part.Goals as goal

pub returns-in-Err-clause-part : goal.returns-in-Err-clause-part
returns-in-Err-clause-part c = inr (sym (namespace_refused c.args.value.now c.in-Err.ensures.cases.0))
