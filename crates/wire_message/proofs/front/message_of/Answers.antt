use Rattle.wire_message.specs.declared.error.IoKind.TheVariants.{Ended}
use Rattle.wire_message.proofs.Grammar.{only_message}
use Rattle.wire_message.proofs.front.message_of.Goals as goal

pub returns-clause-only : goal.returns-clause-only
returns-clause-only c = λ m n p f. only_message c.args.bytes.items Ended c.own_front.result m n c.own_front.ensures.exact p f
