use Rattle.wire_message.proofs.StandardNames.{two_names}
use Rattle.wire_message.proofs.laws.two_kinds_have_two_names.Goals as goal

pub returns : goal.returns
returns c = two_names
