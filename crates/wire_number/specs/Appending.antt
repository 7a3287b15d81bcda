-- What writers append, and what they leave where memory is wanting.
use Rattle.std.specs.Prelude.{◌≡◌, List, ℕ, ◌++◌, Result, Ok, Err}

-- The bytes `old` got a front of a text behind them, which may be nothing.
abbrev pub HasFront : List ℕ → List ℕ → List ℕ → Type 0
HasFront text old new = (front : List ℕ) × (rest : List ℕ) × (text ≡ front ++ rest) × (new ≡ old ++ front)

-- The text was appended; where memory was wanting, a front of it, which may be nothing.
abbrev pub Appended : {A E : Type 0} → Result A E → List ℕ → List ℕ → List ℕ → Type 0
Appended (Ok done) text old new = new ≡ old ++ text
Appended (Err error) text old new = HasFront text old new
