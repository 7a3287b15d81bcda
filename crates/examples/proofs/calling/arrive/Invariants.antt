-- The steps of a message that arrives are counted in a ledger of its own.
use Rattle.examples.proofs.calling.arrive.Given as goal

abbrev pub ghosts-take_in : goal.ghosts-take_in
ghosts-take_in a = record { name = a.blank.name; parts = a.blank.parts }
