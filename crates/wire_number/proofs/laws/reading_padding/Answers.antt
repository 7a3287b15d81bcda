use Rattle.wire_number.proofs.Steps.{padding_stands}
use Rattle.wire_number.proofs.laws.reading_padding.Goals as goal

pub returns : goal.returns
returns c = padding_stands
