use Rattle.std.proofs.Common.{refl}
use Rattle.peer_run.proofs.Closing.{says_ends, only_memory}
use Rattle.peer_run.proofs.generated.run_generated.Goals as goal

pub returns-in-Ok : goal.returns-in-Ok
returns-in-Ok g c = says_ends _ _ _ _ 0 _ (refl, c.in-Ok.ensures) (rw c.as_slice.ensures.value at c.say.ensures)

pub returns-in-Err-Memory : goal.returns-in-Err-Memory
returns-in-Err-Memory g c = only_memory _ _ _ _ c.say_memory.ensures
