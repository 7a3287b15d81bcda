use Rattle.peer_script.proofs.Outside.{found, finds}
use Rattle.peer_script.proofs.laws.first_lines_outside_are_found.Goals as goal

pub returns : goal.returns
returns c = λ bytes n. (found bytes n, finds bytes n)
