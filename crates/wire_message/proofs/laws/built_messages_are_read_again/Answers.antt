use Rattle.wire_message.proofs.Law.{builder_again}
use Rattle.wire_message.proofs.laws.built_messages_are_read_again.Goals as goal

pub returns-clause-again : goal.returns-clause-again
returns-clause-again c = builder_again
