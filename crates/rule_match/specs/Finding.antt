-- Steps over the arguments of a body, from the first on (D-Bus Specification, "Message Format").
use Rattle.std.specs.Prelude.{◌≡◌, ℕ, List, ◌++◌, Option, Some, None}
use Rattle.wire_number.specs.declared.endian.Endian.{Endian}
use Rattle.wire_number.specs.Reading.{Cursor}
use Rattle.wire_signature.specs.SingleType.{SingleType, type_text, IsType}
use Rattle.wire_tree.specs.Datum.{Datum}
use Rattle.wire_encoding.specs.Reading.{value_at}
use Rattle.rule_match.specs.Found.{text_in}

-- A value stands at a cursor, and its type at the front of a text. This is what a rule may ask of it, and what stands
-- behind both.
pub record IsNext (order : Endian) (types : List ℕ) (c : Cursor) (text : Option Datum) (others : List ℕ) (after : Cursor) : Type 0 where
  pub type : SingleType
  pub value : Datum
  pub valid : IsType type
  pub named : types ≡ type_text type ++ others
  pub read : value_at 64 order type c ≡ Some (value, after)
  pub kept : text ≡ text_in value

-- No value of the type at the front of the text stands at the cursor.
abbrev pub NothingNext : Endian → List ℕ → Cursor → Type 0
NothingNext order types c = (t : SingleType) (others : List ℕ) → IsType t → types ≡ type_text t ++ others → value_at 64 order t c ≡ None
