use Rattle.wire_message.proofs.Refused.{fronts, refusals}
use Rattle.wire_message.proofs.laws.fronts_are_the_header_grammar.Goals as goal

pub returns-clause-front : goal.returns-clause-front
returns-clause-front c = fronts

pub returns-clause-refusal : goal.returns-clause-refusal
returns-clause-refusal c = refusals
