use Rattle.wire_encoding.proofs.Exact.{found_alone}
use Rattle.wire_encoding.proofs.skipping.skip.Goals as goal

pub returns-clause-found : goal.returns-clause-found
returns-clause-found c = found_alone _ _ _ _ _ _ c.put_text-end.ensures.text c.skip_by_text.ensures.found
