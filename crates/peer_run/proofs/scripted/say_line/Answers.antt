use Rattle.std.proofs.Common.{inl, inr}
use Rattle.peer_run.proofs.scripted.say_line.Goals as goal

pub returns-in-Ok : goal.returns-in-Ok
returns-in-Ok g c = let text = rw c.in-Ok.ensures.ok at c.as_bytes.ensures.value in inl (rw text at c.say.ensures)

pub returns-in-Err : goal.returns-in-Err
returns-in-Err g c = inr c.say_memory.ensures
