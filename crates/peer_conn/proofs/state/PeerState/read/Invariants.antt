-- The steps of a read are counted in a ledger of its own.
use Rattle.peer_conn.proofs.state.PeerState.read.Given as goal

abbrev pub ghosts-arrive : goal.ghosts-arrive
ghosts-arrive a = record { name = a.blank.name; parts = a.blank.parts }
