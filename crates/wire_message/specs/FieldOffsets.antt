-- Where a message's texts stand in its bytes.
use Rattle.std.specs.Prelude.{ℕ, ◌≡◌, ◌-◌, ◌≤◌, List, ◌++◌, length, take, drop}
use Rattle.wire_number.specs.declared.endian.Endian.{Endian}
use Rattle.wire_message.specs.Field.{Fields, EachText, Field, fields_text, gathered, read_by}
use Rattle.wire_message.specs.Front.{message_view, Front}
use Rattle.wire_message.specs.Valid.{AreFields}
use Rattle.wire_message.specs.declared.kind.MessageType.{MessageType}
use Rattle.wire_message.specs.declared.field_offsets.Span.{Span}
use Rattle.wire_message.specs.declared.field.FieldsOf.{FieldsOf}

-- the bytes from a place to another
abbrev pub area : List ℕ → ℕ → ℕ → List ℕ
area bytes start end = take (end - start) (drop start bytes)

-- the text that stands in a span of a message's bytes
abbrev pub span_text : List ℕ → Span → List ℕ
span_text bytes span = area bytes span.start span.end

-- header fields by their offsets, and what is found there
abbrev pub FieldOffsets : Type 0
FieldOffsets = FieldsOf Span

-- the header fields whose texts stand at these offsets in a message's bytes
abbrev pub found_fields : List ℕ → FieldOffsets → Fields
found_fields bytes offsets = read_by (span_text bytes) offsets

-- a span among the first `n` bytes
abbrev pub IsSpan : ℕ → Span → Type 0
IsSpan n span = (span.start ≤ span.end) × (span.end ≤ n)

-- each of them stands among the first `n` bytes
abbrev pub AreSpans : ℕ → FieldOffsets → Type 0
AreSpans n offsets = EachText (λ code span. IsSpan n span) offsets

-- The fields were appended to `old`, and their offsets to `before`: in all bytes that have them there, what `after`
-- finds is what they say beside what `before` finds.
pub record AppendsFields (order : Endian) (fields : List Field) (old : List ℕ) (before : FieldOffsets) (new : List ℕ) (after : FieldOffsets) : Type 0 where
  pub text : new ≡ old ++ fields_text order (length old) fields
  pub found : (bytes front more : List ℕ) → length front ≡ length old → bytes ≡ front ++ (fields_text order (length old) fields ++ more)
      → found_fields bytes after ≡ gathered (found_fields bytes before) fields
  pub spans : (n : ℕ) → length new ≤ n → AreSpans n before → AreSpans n after

-- A message stands on its own bytes, and its texts stand in them, each in its grammar.
pub record Stands (bytes : List ℕ) (kind : MessageType) (order : Endian) (flags serial : ℕ) (offsets : FieldOffsets) : Type 0 where
  pub front : Front bytes (message_view bytes 0 kind order flags serial (found_fields bytes offsets)) (length bytes)
  pub spans : AreSpans (length bytes) offsets
  pub valid : AreFields (found_fields bytes offsets)
