-- The serial of one message that was put.
use Rattle.std.proofs.Common.{arith, ◌≡◌, ℕ, sym, ap, List, [], ◌∷◌, length, Ok}
use Rattle.peer_calls.specs.Issuing.{Posting}
use Rattle.peer_calls.proofs.Refusing.{drawn_length, issued_drawn}
use Rattle.peer_core.specs.{Names.{Issued}, History.{Past, calls_of}, Issuing.{issued, issued_each}}

-- the serial of the first
abbrev serial_of : List Issued → List ℕ
serial_of [] = []
serial_of (i ∷ is) = i.serial ∷ []

-- one message draws one serial, which is the one that is told of it
pub one_serial : (h : Past) (d : Posting) (serials : List ℕ) (i : Issued) → issued h (d ∷ []) ≡ Ok serials → i ∷ [] ≡ issued_each h (d ∷ []) serials → serials ≡ i.serial ∷ []
one_serial h d serials i draws told = by serials (drawn_length (calls_of h) (d ∷ []) serials (issued_drawn (calls_of h) d [] serials draws)) told
  where
    by : (ss : List ℕ) → length ss ≡ 1 → i ∷ [] ≡ issued_each h (d ∷ []) ss → ss ≡ i.serial ∷ []
    by [] n e = absurd (omega (arith, n))
    by (s ∷ []) n e = sym (ap serial_of e)
    by (s ∷ t ∷ ss) n e = absurd (omega (arith, n))
