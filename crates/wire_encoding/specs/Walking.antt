-- Walking over bytes by the text of their type (D-Bus Specification, "Marshaling (Wire Format)"). That a walk leads as far
-- as reading by the type is proved in proofs/Walks.antt.
use Rattle.std.specs.Prelude.{ℕ, zero, suc, ◌==◌, ◌||◌, if◌then◌else◌, Bool, true, false, List, [], ◌∷◌, length, drop, Option, Some, None, is_some, option_map}
use Rattle.std.specs.Int.{w8}
use Rattle.wire_number.specs.declared.endian.Endian.{Endian}
use Rattle.wire_number.specs.Reading.{Cursor, Parse, behind, ◌>>=◌, align_at, counted_at}
use Rattle.wire_signature.specs.declared.basic.BasicType.{BasicType}
use Rattle.wire_signature.specs.declared.basic.BasicType.TheVariants as basics
use Rattle.wire_signature.specs.SingleType.{basic_alignment, basic_of}
use Rattle.wire_signature.specs.Parsing.{first_length, type_in}
use Rattle.wire_encoding.specs.Reading.{basic_at, many_at, elements_at}

-- the boundary of what a text begins with: a type, or the bracket of a dict entry
abbrev pub letter_boundary : ℕ → Option BasicType → ℕ
letter_boundary c (Some b) = basic_alignment b
letter_boundary c None = if c == 97 then 4 else if c == 118 then 1 else 8

-- the boundary on which a value begins, by the text of its type; of an empty text 1
abbrev pub text_boundary : List ℕ → ℕ
text_boundary [] = 1
text_boundary (c ∷ rest) = letter_boundary c (basic_of c)

-- whether the values of a type are numbers, each as long as its boundary (D-Bus Specification, "Basic types", "Fixed types")
abbrev pub is_fixed : BasicType → Bool
is_fixed basics.String = false
is_fixed basics.ObjectPath = false
is_fixed basics.Signature = false
is_fixed b = true

-- the type at the front of a text, where it is a fixed one
abbrev pub fixed_first : List ℕ → Option BasicType
fixed_first [] = None
fixed_first (c ∷ rest) = basic_of c >>= λ b. if is_fixed b then Some b else None

-- the text behind the bracket that closes a struct or a dict entry
abbrev pub skip_bracket : List ℕ → Option (List ℕ)
skip_bracket [] = None
skip_bracket (c ∷ rest) = if c == 41 then Some rest else if c == 125 then Some rest else None

-- the text behind the type at its front
abbrev pub text_behind : List ℕ → Option (List ℕ)
text_behind text = option_map (λ n. drop n text) (first_length text)

-- what a walk leaves: the text behind the item's, and the cursor behind the item, where it is there
abbrev pub leaving : List ℕ → Option Cursor → Parse (List ℕ)
leaving rest found = option_map (λ c. (rest, c)) found

-- A walk: by the type, or the dict entry, at the front of a text over the value at a cursor.
abbrev pub Walk : Type 0
Walk = List ℕ → Cursor → Parse (List ℕ)

-- over an array, whose type the text is; its elements fill their bytes
abbrev pub over_array : Walk → Endian → List ℕ → List ℕ → Cursor → Parse (List ℕ)
over_array over order text element c = do
  rest ← text_behind text
  x ← elements_at order (text_boundary element) c
  if is_some (many_at (length x.0.rest) (over element) x.0) then Some (rest, x.1) else None

-- over fields up to the bracket behind them, at most so many
abbrev pub fields_step : Walk → Walk → List ℕ → Cursor → Option (List ℕ) → Parse (List ℕ)
fields_step others over text c (Some rest) = Some (rest, c)
fields_step others over text c None = over text c >>= λ x. others x.0 x.1

-- over the fields of a struct or of a dict entry, at most so many, and the bracket behind them
unfoldable pub over_fields : ℕ → Walk → Walk
over_fields zero over text c = None
over_fields (suc count) over text c = fields_step (over_fields count over) over text c (skip_bracket text)

-- over a struct or a dict entry, behind its opening bracket
abbrev pub over_struct : Walk → Walk
over_struct over text c = align_at 8 c >>= over_fields (length text) over text

-- over a variant, by its own signature
abbrev pub over_variant : Walk → Endian → Walk
over_variant over order rest c = do
  s ← counted_at w8 order c
  if is_some (type_in s.0) then over s.0 s.1 >>= (λ x. Some (rest, x.1)) else None

-- by the first byte of a text, where no container may be opened any more
abbrev pub leaf_walk : Endian → ℕ → List ℕ → Option BasicType → Cursor → Parse (List ℕ)
leaf_walk order letter rest (Some b) c = leaving rest (behind (basic_at b order c))
leaf_walk order letter rest None c = None

-- by the first byte of a text; `over` walks over the values inside
abbrev pub letter_walk : Walk → Endian → ℕ → List ℕ → Option BasicType → Cursor → Parse (List ℕ)
letter_walk over order letter rest (Some b) c = leaving rest (behind (basic_at b order c))
letter_walk over order letter rest None c =
    if letter == 97 then over_array over order (letter ∷ rest) rest c
    else if letter == 40 || letter == 123 then over_struct over rest c
    else if letter == 118 then over_variant over order rest c
    else None

-- by a text, where so many containers may still be opened
unfoldable pub walk_at : ℕ → Endian → Walk
walk_at room order [] c = None
walk_at zero order (letter ∷ rest) c = leaf_walk order letter rest (basic_of letter) c
walk_at (suc room) order (letter ∷ rest) c = letter_walk (walk_at room order) order letter rest (basic_of letter) c
