-- The bytes of a value (D-Bus Specification, "Marshaling (Wire Format)"). Places are counted from the message's first byte.
use Rattle.std.specs.Prelude.{◌≡◌, ℕ, ◌+◌, ◌≤◌, max, List, [], ◌++◌, length}
use Rattle.wire_number.specs.Limits.{array_limit}
use Rattle.std.specs.Int.{Width, w8, w16, w32, w64}
use Rattle.wire_number.specs.declared.endian.Endian.{Endian}
use Rattle.wire_number.specs.Number.{number_text, pad, padding, counted_text}
use Rattle.wire_signature.specs.SingleType.{SingleType, alignment, basic_alignment, type_text}
use Rattle.wire_tree.specs.Datum.{FixedType, byte, int16, uint16, int64, uint64, double, StringLike, signature, Datum, num, text, array, dict, struct, variant, Data, no_data, items, type_of, num_type, text_type, IsValid}

-- the width of a number of the type
abbrev pub width_of : FixedType → Width
width_of byte = w8
width_of int16 = w16
width_of uint16 = w16
width_of int64 = w64
width_of uint64 = w64
width_of double = w64
width_of n = w32

-- the next place on a boundary
abbrev pub aligned : ℕ → ℕ → ℕ
aligned place boundary = place + pad place boundary

-- Texts that stand one behind the other: a text, and what begins at the place where it ends.
abbrev pub chain : ℕ → List ℕ → (ℕ → List ℕ) → List ℕ
chain place first others = first ++ others (place + length first)

-- the width of a text's length: one byte for a signature, a `UINT32` for others
abbrev pub length_width : StringLike → Width
length_width signature = w8
length_width t = w32

-- where an array's first element would begin, padding included
abbrev pub first_place : ℕ → ℕ → ℕ
first_place place boundary = aligned (aligned place 4 + 4) boundary

-- An array: the length of its elements, the padding before the first (which the length leaves out, and which stands there
-- also where there is none), and the elements (D-Bus Specification, "Marshaling", `ARRAY`).
abbrev pub array_form : Endian → ℕ → ℕ → List ℕ → List ℕ
array_form order place boundary elements =
    padding place 4 ++ (number_text w32 order (length elements) ++ (padding (aligned place 4 + 4) boundary ++ elements))

-- The one encoding of a value that begins at a place: zero bytes up to its boundary, and then its form. A variant is the
-- signature of one type and a value of it; a struct and a dict entry begin on a multiple of 8 (D-Bus Specification,
-- "Marshaling").
unfoldable mutual
  pub encoding : Endian → ℕ → Datum → List ℕ
  encoding order place (num n v) = padding place (basic_alignment (num_type n)) ++ number_text (width_of n) order v
  encoding order place (text t bytes) = padding place (basic_alignment (text_type t)) ++ counted_text (length_width t) order bytes
  encoding order place (array t ds) = array_form order place (alignment t) (encodings order (first_place place (alignment t)) ds)
  encoding order place (dict k v es) = array_form order place 8 (encodings order (first_place place 8) es)
  encoding order place (struct ds) = padding place 8 ++ encodings order (aligned place 8) ds
  encoding order place (variant d) = chain place (counted_text w8 order (type_text (type_of d))) (λ behind. encoding order behind d)

  -- of values that stand one behind the other
  pub encodings : Endian → ℕ → Data → List ℕ
  encodings order place no_data = []
  encodings order place (items d ds) = chain place (encoding order place d) (λ behind. encodings order behind ds)

-- How many containers are open at once in a value: arrays, dict entries beside their array, structs and variants
-- (D-Bus Specification, "Valid Signatures" and "Message Protocol": at most 64 of them).
abbrev mutual
  pub depth : Datum → ℕ
  depth (num n v) = 0
  depth (text t bytes) = 0
  depth (array t ds) = depths ds + 1
  depth (dict k v es) = depths es + 1
  depth (struct ds) = depths ds + 1
  depth (variant d) = depth d + 1

  pub depths : Data → ℕ
  depths no_data = 0
  depths (items d ds) = max (depth d) (depths ds)

-- The elements of each array take at most 67,108,864 bytes (D-Bus Specification, "Marshaling", `ARRAY`).
unfoldable mutual
  pub ArraysFit : Endian → ℕ → Datum → Type 0
  ArraysFit order place (num n v) = Unit {0}
  ArraysFit order place (text t bytes) = Unit {0}
  ArraysFit order place (array t ds) =
      (length (encodings order (first_place place (alignment t)) ds) ≤ array_limit) × AllFit order (first_place place (alignment t)) ds
  ArraysFit order place (dict k v es) =
      (length (encodings order (first_place place 8) es) ≤ array_limit) × AllFit order (first_place place 8) es
  ArraysFit order place (struct ds) = AllFit order (aligned place 8) ds
  ArraysFit order place (variant d) = ArraysFit order (place + length (counted_text w8 order (type_text (type_of d)))) d

  pub AllFit : Endian → ℕ → Data → Type 0
  AllFit order place no_data = Unit {0}
  AllFit order place (items d ds) = ArraysFit order place d × AllFit order (place + length (encoding order place d)) ds

-- Bytes that begin at a place encode a value of a type: it is valid, of that type, within the limits, and they are its
-- encoding (D-Bus Specification, "Marshaling (Wire Format)").
pub record Encodes (order : Endian) (place : ℕ) (t : SingleType) (d : Datum) (bytes : List ℕ) : Type 0 where
  pub kind : type_of d ≡ t
  pub valid : IsValid d
  pub within : depth d ≤ 64
  pub fit : ArraysFit order place d
  pub text : bytes ≡ encoding order place d
