-- What appending a message's body does (D-Bus Specification, "Message Format").
use Rattle.std.specs.Prelude.{◌≡◌, ◌++◌, ℕ, List, Result, Ok, Err}
use Rattle.wire_message.specs.Bodies.{IsExcess}
use Rattle.wire_message.specs.declared.error.Error.{Error}
use Rattle.wire_message.specs.declared.error.Error.TheVariants as errors

-- A body was appended, or it is too long.
abbrev pub IsNotAppended : Error → List ℕ → Type 0 → Type 0
IsNotAppended errors.ExcessData text fits = IsExcess fits text
IsNotAppended errors.Memory text fits = Unit {0}
IsNotAppended error text fits = ⊥

-- Appending a body puts its bytes behind the old ones where it fits, or fails because it is too long or for want of
-- memory.
abbrev pub AppendsBody : {A : Type 0} → Result A Error → List ℕ → Type 0 → List ℕ → List ℕ → Type 0
AppendsBody (Ok done) text fits old new = (new ≡ old ++ text) × fits
AppendsBody (Err error) text fits old new = IsNotAppended error text fits
