-- What the boxes mean that are handed in.
use Rattle.peer_service.specs.Service.{meaning_at}
use Rattle.peer_run.proofs.run.run_peer_of.Given as goal

abbrev pub ghosts-run_with : goal.ghosts-run_with
ghosts-run_with g a = record { meanings = meaning_at g.B.Interface.meaning a.boxes.items }
