use Rattle.std.proofs.Common.{refl}
use Rattle.peer_run.specs.Program.{SaidPart, SaidNot}
use Rattle.peer_run.proofs.saying.say.Goals as goal

pub returns-in-Err-Failed : goal.returns-in-Err-Failed
returns-in-Err-Failed g c = let w = rw c.in-Err-Failed.field-0-is at c.in-Err-Failed.ensures.bytes in SaidPart refl w.1.2 w.0 w.1.0

pub returns-in-Err-Memory : goal.returns-in-Err-Memory
returns-in-Err-Memory g c = let w = rw c.in-Err-Memory.field-0-is at c.in-Err-Memory.ensures.bytes in SaidNot refl w.1.2 w.0 w.1.0
