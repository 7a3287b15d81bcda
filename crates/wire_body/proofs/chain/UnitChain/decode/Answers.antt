use Rattle.std.proofs.Common.{refl}
use Rattle.wire_encoding.specs.Reading.{fields_at}
use Rattle.wire_body.proofs.chain.UnitChain.decode.Goals as goal

pub returns : goal.returns
unfolding fields_at
returns c = refl
