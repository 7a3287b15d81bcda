use Rattle.wire_codec.proofs.Writes.{none_written}
use Rattle.wire_body.proofs.lent.UnitLent.encode.Goals as goal

pub returns : goal.returns
returns c = none_written _
