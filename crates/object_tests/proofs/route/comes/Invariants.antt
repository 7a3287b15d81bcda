-- The steps of a message that arrives are counted in a ledger of its own.
use Rattle.object_tests.proofs.route.comes.Given as goal

abbrev pub ghosts-takes_in : goal.ghosts-takes_in
ghosts-takes_in a = record { name = a.blank.name; parts = a.blank.parts }
