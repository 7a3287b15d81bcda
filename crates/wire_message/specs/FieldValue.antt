-- The value of a header field, and where it stands (D-Bus Specification, "Header Fields").
use Rattle.std.specs.Prelude.{◌≡◌, ℕ, ◌+◌, ◌-◌, ◌≤◌, List, length}
use Rattle.wire_message.specs.Field.{Value, Text, Number, Field}
use Rattle.wire_message.specs.declared.field.FieldCode.{FieldCode}
use Rattle.wire_message.specs.FieldOffsets.{area}
use Rattle.wire_message.specs.declared.field_offsets.FieldValue.{FieldValue}
use Rattle.wire_message.specs.declared.field_offsets.FieldValue.TheVariants as field_value

-- what contracts see of it
abbrev pub value_of : FieldValue → Value
value_of (field_value.Text text) = Text text.now
value_of (field_value.Number number) = Number number

-- the field of a code and its value
abbrev pub field_of : FieldCode × FieldValue → Field
field_of x = record { code = x.0; value = value_of x.1 }

-- The field ends at the place `next`: a text's bytes and the zero byte behind them stand before it.
abbrev pub HasRoom : ℕ → FieldValue → Type 0
HasRoom next (field_value.Text text) = length text.now + 1 ≤ next
HasRoom next (field_value.Number number) = Unit {0}

-- The text of a field that ends at `next` stands in the bytes, before its zero byte. A number is kept by itself.
abbrev pub StandsAt : List ℕ → ℕ → FieldValue → Type 0
StandsAt bytes next (field_value.Text text) = area bytes (next - 1 - length text.now) (next - 1) ≡ text.now
StandsAt bytes next (field_value.Number number) = Unit {0}
