-- Reading bytes from left to right: what stands at the front, and what stands behind it. The laws in src/laws.rt tie it
-- to the bytes of numbers, padding and texts.
use Rattle.std.specs.Prelude.{◌≡◌, ℕ, ◌+◌, ◌==◌, nat_le, nat_lt, if◌then◌else◌, List, ◌++◌, length, take, drop, Option, Some, None, option_and_then, option_map}
use Rattle.std.specs.List.{list_all}
use Rattle.std.specs.Int.{Width, w32, byte_len}
use Rattle.wire_number.specs.declared.endian.Endian.{Endian}
use Rattle.wire_number.specs.Number.{number, pad}

-- a place, and the bytes from there on
pub record Cursor : Type 0 where
  pub place : ℕ
  pub rest : List ℕ

-- A text stands at a cursor, and this is the cursor behind it.
abbrev pub Stands : List ℕ → Cursor → Cursor → Type 0
Stands text c after = (c.rest ≡ text ++ after.rest) × (after.place ≡ c.place + length text)

-- what was read, and the cursor behind it
abbrev pub Parse : Type 0 → Type 0
Parse A = Option (A × Cursor)

infixl 10 ◌>>=◌
-- what is made next of what was found; nothing, where nothing was found
abbrev pub ◌>>=◌ : {A B : Type 0} → Option A → (A → Option B) → Option B
found >>= f = option_and_then f found

-- what was read is made into something else
abbrev pub made : {A B : Type 0} → (A → B) → Parse A → Parse B
made f found = option_map (λ x. (f x.0, x.1)) found

-- the cursor behind what was read
abbrev pub behind : {A : Type 0} → Parse A → Option Cursor
behind found = option_map (λ x. x.1) found

-- the next so many bytes
abbrev pub bytes_at : ℕ → Cursor → Parse (List ℕ)
bytes_at n c =
    if nat_le n (length c.rest) then Some (take n c.rest, record { place = c.place + n; rest = drop n c.rest }) else None

-- behind bytes that are all 0
abbrev pub zeros : List ℕ × Cursor → Option Cursor
zeros x = if list_all (λ b. b == 0) x.0 then Some x.1 else None

-- behind so many bytes, which are all 0
abbrev pub zeros_at : ℕ → Cursor → Option Cursor
zeros_at n c = bytes_at n c >>= zeros

-- behind the padding up to a boundary
unfoldable pub align_at : ℕ → Cursor → Option Cursor
align_at boundary c = zeros_at (pad c.place boundary) c

-- a number that begins here
unfoldable pub number_at : Width → Endian → Cursor → Parse ℕ
number_at w order c = made (number w order) (bytes_at (byte_len w) c)

-- a text behind the padding of its length, which is a number of the width
unfoldable pub counted_at : Width → Endian → Cursor → Parse (List ℕ)
counted_at w order c = do
  p ← align_at (byte_len w) c
  n ← number_at w order p
  x ← bytes_at n.0 n.1
  end ← zeros_at 1 x.1
  Some (x.0, end)

-- a boolean behind its padding, as the number that it is: 1 is true, 0 is false, and no other number is one (D-Bus
-- Specification, "Marshaling", `BOOLEAN`)
unfoldable pub boolean_at : Endian → Cursor → Parse ℕ
boolean_at order c = do
  p ← align_at 4 c
  x ← number_at w32 order p
  if nat_lt x.0 2 then Some x else None
