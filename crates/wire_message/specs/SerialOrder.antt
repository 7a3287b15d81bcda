-- The cyclic order of serials: 1 comes after 4,294,967,295 (D-Bus Specification, "Message Format": a serial isn't 0).
use Rattle.std.specs.Prelude.{ℕ, zero, suc, ◌≡◌, ◌+◌, ◌-◌, ◌%◌, ◌<◌, ◌≤◌, Bool, true, false, nat_lt, if◌then◌else◌, Option, Some, None, Result, Ok, Err}
use Rattle.wire_number.specs.Limits.{greatest_serial}
use Rattle.wire_message.specs.declared.error.Error.{Error}
use Rattle.wire_message.specs.declared.error.Error.TheVariants as errors

-- The k-th serial after the last one drawn, k from 1 on: after 4,294,967,295 comes 1. Nothing drawn is 0.
abbrev pub serial_after : ℕ → ℕ → ℕ
serial_after last k = (last + k - 1) % greatest_serial + 1

-- the first serial after the last one drawn that isn't taken
pub record IsNext (taken : ℕ → Bool) (last : ℕ) (serial : ℕ) : Type 0 where
  pub place : ℕ
  pub one : 1 ≤ place
  pub round : place ≤ greatest_serial
  pub there : serial ≡ serial_after last place
  pub free : taken serial ≡ false
  pub first : (k : ℕ) → 1 ≤ k → k < place → taken (serial_after last k) ≡ true

-- each serial is taken
abbrev pub AllTaken : (ℕ → Bool) → Type 0
AllTaken taken = (serial : ℕ) → 1 ≤ serial → serial ≤ greatest_serial → taken serial ≡ true

-- What a draw gives: the next serial, or the refusal where each is taken; a refusal draws nothing.
abbrev pub Draws : (ℕ → Bool) → ℕ → ℕ → Result ℕ Error → Type 0
Draws taken old new (Ok serial) = IsNext taken old serial × (new ≡ serial)
Draws taken old new (Err errors.SerialsSpent) = AllTaken taken × (new ≡ old)
Draws taken old new (Err error) = ⊥

-- How far a serial stands behind the last one drawn, in cyclic order: 1 for the one after it, 4,294,967,295 for itself.
abbrev pub distance : ℕ → ℕ → ℕ
distance last serial = if nat_lt last serial then serial - last else serial + greatest_serial - last

-- How many serials a draw looks at: from the one after the last drawn on, in cyclic order, up to the one that it draws;
-- none where it draws none, since the number of those that are taken tells.
abbrev pub looked_at : ℕ → Result ℕ Error → ℕ
looked_at last (Ok serial) = distance last serial
looked_at last (Err error) = 0

-- The serial isn't taken, and no serial that isn't taken is nearer behind the last one drawn.
pub record IsNearest (taken : ℕ → Bool) (last : ℕ) (serial : ℕ) : Type 0 where
  pub one : 1 ≤ serial
  pub within : serial ≤ greatest_serial
  pub free : taken serial ≡ false
  pub nearest : (other : ℕ) → 1 ≤ other → other ≤ greatest_serial → taken other ≡ false → distance last serial ≤ distance last other

-- A message has the serial that was set for it, else the next.
abbrev pub IsSerial : (ℕ → Bool) → Option ℕ → ℕ → ℕ → Type 0
IsSerial taken None last serial = IsNext taken last serial
IsSerial taken (Some set) last serial = serial ≡ set

-- The last serial drawn once a message has its serial: one that was set isn't drawn.
abbrev pub last_after : Option ℕ → ℕ → ℕ → ℕ
last_after None last serial = serial
last_after (Some set) last serial = last

-- How many serials are looked at for a message with this serial: none where it was set, else those of its draw.
abbrev pub looked_for : Option ℕ → ℕ → ℕ → ℕ
looked_for None last serial = distance last serial
looked_for (Some set) last serial = 0

-- None was set, and each is taken.
abbrev pub NoSerial : (ℕ → Bool) → Option ℕ → Type 0
NoSerial taken None = AllTaken taken
NoSerial taken (Some set) = ⊥

-- What asking for a message's serial gives; a refusal draws nothing.
abbrev pub Numbers : (ℕ → Bool) → Option ℕ → ℕ → ℕ → Result ℕ Error → Type 0
Numbers taken set old new (Ok serial) = IsSerial taken set old serial × (new ≡ last_after set old serial)
Numbers taken set old new (Err errors.SerialsSpent) = NoSerial taken set × (new ≡ old)
Numbers taken set old new (Err error) = ⊥

-- how many of the serials from 1 to n are taken
unfoldable pub taken_among : (ℕ → Bool) → ℕ → ℕ
taken_among taken zero = 0
taken_among taken (suc n) = taken_among taken n + (if taken (suc n) then 1 else 0)
