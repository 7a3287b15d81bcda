use Rattle.wire_number.proofs.Steps.{text_stands}
use Rattle.wire_number.proofs.laws.reading_a_text.Goals as goal

pub returns : goal.returns
returns c = text_stands
