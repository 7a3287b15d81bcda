use Rattle.wire_number.proofs.Steps.{number_stands}
use Rattle.wire_number.proofs.laws.reading_a_number.Goals as goal

pub returns : goal.returns
returns c = number_stands
