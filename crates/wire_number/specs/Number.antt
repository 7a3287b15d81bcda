-- Numbers and padding (D-Bus Specification, "Marshaling").
use Rattle.std.specs.Prelude.{ℕ, ◌-◌, ◌%◌, List, [], ◌∷◌, ◌++◌, length, take, drop, replicate}
use Rattle.std.specs.Int.{Width, from_le_bytes, from_be_bytes, to_le_bytes, to_be_bytes, byte_len}
use Rattle.wire_number.specs.declared.endian.Endian.{Endian}
use Rattle.wire_number.specs.declared.endian.Endian.TheVariants.{Little, Big}

-- The number that bytes are: the first is the least in little order, the greatest in big order.
abbrev pub number : Width → Endian → List ℕ → ℕ
number w Little bytes = from_le_bytes w bytes
number w Big bytes = from_be_bytes w bytes

-- The bytes of a number, as many as its width has.
abbrev pub number_text : Width → Endian → ℕ → List ℕ
number_text w Little n = to_le_bytes w n
number_text w Big n = to_be_bytes w n

-- the number that stands in the bytes from a place on
abbrev pub number_at : Width → Endian → ℕ → List ℕ → ℕ
number_at w order place bytes = number w order (take (byte_len w) (drop place bytes))

-- The least count of bytes after which a place is a multiple of the alignment.
abbrev pub pad : ℕ → ℕ → ℕ
pad n align = (align - n % align) % align

-- that many zero bytes
abbrev pub padding : ℕ → ℕ → List ℕ
padding n align = replicate (pad n align) 0

-- the bytes, and then zeros up to a multiple of the alignment
abbrev pub padded : ℕ → List ℕ → List ℕ
padded align bytes = bytes ++ padding (length bytes) align

-- A text: its length, a number of the width, its bytes, and a 0 byte that the length leaves out (D-Bus Specification,
-- "Marshaling", `STRING`, `OBJECT_PATH`, `SIGNATURE`).
abbrev pub counted_text : Width → Endian → List ℕ → List ℕ
counted_text w order bytes = number_text w order (length bytes) ++ (bytes ++ 0 ∷ [])
