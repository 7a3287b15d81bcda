use Rattle.std.proofs.Common.{length, sym, ◌∙◌, ap, Some}
use Rattle.std.proofs.lemmas.Bool.{eqb-true, eqb-false}
use Rattle.wire_message.proofs.Valid.{no_text, some_text}
use Rattle.wire_message.proofs.bodies.field_of.Goals as goal

pub returns-then-is_empty-clause-text : goal.returns-then-is_empty-clause-text
returns-then-is_empty-clause-text c = λ types s. no_text types c.args.text.now s (eqb-true (length c.args.text.now) 0 (sym c.is_empty.ensures ∙ c.if-is_empty.true))

pub returns-else-is_empty-clause-text : goal.returns-else-is_empty-clause-text
returns-else-is_empty-clause-text c = λ types s. ap Some c.borrowed.ensures ∙ some_text types c.args.text.now s (eqb-false (length c.args.text.now) 0 (sym c.is_empty.ensures ∙ c.if-is_empty.false))
