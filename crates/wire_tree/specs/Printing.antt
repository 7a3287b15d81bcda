-- The text of a value, near the text format of GVariant. A value that is told has its type's word in front, so that the text
-- says which type it is of (D-Bus Specification, "Basic types", "Container types").
use Rattle.std.specs.Prelude.{ℕ, ◌-◌, ◌^◌, ◌==◌, Bool, true, false, not, ◌&&◌, if◌then◌else◌, nat_le, List, [], ◌∷◌, ◌++◌, codes}
use Rattle.std.specs.Fmt.{decimal, signed_decimal, digits, padded_integral, format_spec}
use Rattle.std.specs.Int.{w16, w32, w64, cast_signed}
use Rattle.std.specs.List.{flat_map}
use Rattle.wire_signature.specs.SingleType.{SingleType, array as array_of, dict as dict_of, type_text}
use Rattle.wire_tree.specs.Datum.{FixedType, byte, boolean, int16, uint16, int32, uint32, int64, uint64, double, unix_fd, StringLike, string, object_path, signature}
use Rattle.wire_tree.specs.Datum.{Datum, num, text, array, dict, struct, variant, Data, no_data, items}

-- a number in lower-case hexadecimal digits, with zeros in front up to so many digits
abbrev pub hexadecimal : ℕ → ℕ → List ℕ
hexadecimal count n = padded_integral (format_spec 32 0 4 count (2 ^ 64 - 1)) false [] (digits 16 false n)

-- The word of a type of numbers. INT32 and BOOLEAN have none, as what stands without a word is of them.
abbrev pub number_word : FixedType → List ℕ
number_word byte = codes "byte "
number_word boolean = []
number_word int16 = codes "int16 "
number_word uint16 = codes "uint16 "
number_word int32 = []
number_word uint32 = codes "uint32 "
number_word int64 = codes "int64 "
number_word uint64 = codes "uint64 "
number_word double = codes "double "
number_word unix_fd = codes "handle "

-- A number without its word: a byte in hexadecimal, a boolean in words, a double by its 64 raw bits, the others in decimal.
abbrev pub number_text : FixedType → ℕ → List ℕ
number_text byte n = codes "0x" ++ hexadecimal 2 n
number_text boolean n = if n == 0 then codes "false" else codes "true"
number_text int16 n = signed_decimal (cast_signed w16 n)
number_text uint16 n = decimal n
number_text int32 n = signed_decimal (cast_signed w32 n)
number_text uint32 n = decimal n
number_text int64 n = signed_decimal (cast_signed w64 n)
number_text uint64 n = decimal n
number_text double n = codes "0x" ++ hexadecimal 16 n
number_text unix_fd n = decimal n

-- The word of a type of texts. STRING has none.
abbrev pub string_word : StringLike → List ℕ
string_word string = []
string_word object_path = codes "objectpath "
string_word signature = codes "signature "

-- the printed ASCII characters, but for the quote (39) and the backslash (92)
abbrev pub is_plain : ℕ → Bool
is_plain b = nat_le 32 b && nat_le b 126 && not (b == 39) && not (b == 92)

-- every other byte is a backslash and two hexadecimal digits
abbrev pub escaped : ℕ → List ℕ
escaped b = if is_plain b then b ∷ [] else 92 ∷ hexadecimal 2 b

-- what stands where a value is told
abbrev pub if_told : Bool → List ℕ → List ℕ
if_told told word = if told then word else []

-- the type of an array that holds nothing to tell it
abbrev pub type_mark : SingleType → List ℕ
type_mark t = 64 ∷ (type_text t ++ 32 ∷ [])

-- whether a list of values holds none
abbrev pub is_empty : Data → Bool
is_empty no_data = true
is_empty (items d ds) = false

-- A struct of one field ends in a comma.
abbrev pub struct_end : Data → List ℕ
struct_end (items d no_data) = codes ",)"
struct_end ds = codes ")"

-- A value. An array tells its type at its first element, a dict at its first entry, and both by a mark where they are empty; a
-- struct tells it at each field. What a variant holds is always told.
abbrev mutual
  pub datum_text : Bool → Datum → List ℕ
  datum_text told (num t n) = if_told told (number_word t) ++ number_text t n
  datum_text told (text t bytes) = if_told told (string_word t) ++ 39 ∷ (flat_map escaped bytes ++ 39 ∷ [])
  datum_text told (array t ds) = if_told (told && is_empty ds) (type_mark (array_of t)) ++ 91 ∷ (texts [] told false ds ++ 93 ∷ [])
  datum_text told (dict k v es) = if_told (told && is_empty es) (type_mark (dict_of k v)) ++ 123 ∷ (entries_text [] told es ++ 125 ∷ [])
  datum_text told (struct ds) = 40 ∷ (texts [] told told ds ++ struct_end ds)
  datum_text told (variant d) = 60 ∷ (datum_text true d ++ 62 ∷ [])

  -- values behind what leads to the first of them, with commas in between; the first is told or not, and so are the others
  pub texts : List ℕ → Bool → Bool → Data → List ℕ
  texts lead first later no_data = []
  texts lead first later (items d ds) = lead ++ (datum_text first d ++ texts (codes ", ") later later ds)

  -- dict entries behind what leads to the first of them, with commas in between; at most the first is told
  pub entries_text : List ℕ → Bool → Data → List ℕ
  entries_text lead told no_data = []
  entries_text lead told (items e es) = lead ++ (entry_text told e ++ entries_text (codes ", ") false es)

  -- a key and its value
  pub entry_text : Bool → Datum → List ℕ
  entry_text told (struct (items k (items v ds))) = datum_text told k ++ (codes ": " ++ datum_text told v)
  entry_text told d = []
