-- Bytes in hexadecimal: two digits in lower case for each byte, the greater half first.
use Rattle.std.specs.{Prelude.{ℕ, ◌≡◌, ◌+◌, ◌-◌, ◌*◌, ◌<◌, ◌/◌, ◌%◌, ◌&&◌, nat_le, nat_lt, if◌then◌else◌, List, [], ◌∷◌, length, Option, Some, None}, List.flat_map}

-- the value of a hexadecimal digit in lower case
abbrev pub hex_value : ℕ → Option ℕ
hex_value b =
    if nat_le 48 b && nat_le b 57 then Some (b - 48)
    else if nat_le 97 b && nat_le b 102 then Some (b - 87)
    else None

-- the byte of two digits, where both are digits
abbrev pub hex_byte : Option ℕ → Option ℕ → Option ℕ
hex_byte (Some high) (Some low) = Some (16 * high + low)
hex_byte high low = None

-- one byte more, where both are there
abbrev pub onto : Option ℕ → Option (List ℕ) → Option (List ℕ)
onto (Some b) (Some bs) = Some (b ∷ bs)
onto b bs = None

-- an even count of digits, two for each byte
abbrev pub hex_pairs : List ℕ → Option (List ℕ)
hex_pairs [] = Some []
hex_pairs (a ∷ []) = None
hex_pairs (a ∷ b ∷ rest) = onto (hex_byte (hex_value a) (hex_value b)) (hex_pairs rest)

-- bytes as a word: at least two digits
abbrev pub bytes_of : List ℕ → Option (List ℕ)
bytes_of [] = None
bytes_of (b ∷ rest) = hex_pairs (b ∷ rest)

-- ---- and back

-- the digit of a value below 16
abbrev pub hex_digit : ℕ → ℕ
hex_digit n = if nat_lt n 10 then 48 + n else 87 + n

-- the two digits of a byte
abbrev pub hex_two : ℕ → List ℕ
hex_two b = hex_digit (b / 16) ∷ hex_digit (b % 16) ∷ []

-- the word of bytes
abbrev pub hex_word : List ℕ → List ℕ
hex_word bytes = flat_map hex_two bytes

-- ---- taking the first byte that digits spell

-- The first byte was taken, and the rest spells the others; or the whole spells nothing.
abbrev pub TakesOne : {A : Type 0} → (A → ℕ) → (A → List ℕ) → (List ℕ → Option (List ℕ)) → List ℕ → Option A → Type 0
TakesOne byte more spelled word (Some x) = (spelled word ≡ onto (Some (byte x)) (spelled (more x))) × (length (more x) < length word)
TakesOne byte more spelled word None = spelled word ≡ None
