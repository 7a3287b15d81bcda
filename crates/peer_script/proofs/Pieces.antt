-- The pieces of a setup.
use Rattle.std.proofs.Common.{◌≡◌, List, [], ◌∷◌, ◌++◌, refl, ap}
use Rattle.wire_framing.specs.declared.memory.Piece.{Piece}
use Rattle.peer_script.specs.Reading.{given_of, given}

pub given-append : (ps qs : List Piece) → given (ps ++ qs) ≡ given ps ++ given qs
given-append [] qs = refl
given-append (p ∷ ps) qs = ap (λ l. given_of p ∷ l) (given-append ps qs)

pub ruleset pushed = given-append
