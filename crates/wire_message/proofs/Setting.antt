-- What a builder may hold, it may hold after each setter.
use Rattle.std.proofs.Common.{ℕ, ◌≤◌, ◌<◌, ◌^◌, List, Some, arith}
use Rattle.std.specs.Prelude.{IsTrue}
use Rattle.wire_message.specs.declared.field.FieldCode.{FieldCode}
use Rattle.wire_message.specs.declared.field.FieldCode.TheVariants as codes
use Rattle.wire_message.proofs.Each.{each_numbers}
use Rattle.wire_message.proofs.Valid.{with_text-valid}
use Rattle.std.specs.Int.Bits.{bit_and, bit_or}
use Rattle.std.proofs.lemmas.Bool.Decides.{nat_tests}
use Rattle.std.proofs.lemmas.Nat.{and_le_r, or_lt}
use Rattle.wire_names.specs.Names.{is_bus_name, is_well_known_name}
use Rattle.wire_message.specs.Field.{is_text, with_text}
use Rattle.wire_message.specs.BuilderView.{BuilderView, IsBuilder}

pub set_text : (builder : BuilderView) (code : FieldCode) (text : List ℕ) → IsBuilder builder → IsTrue (is_text code text) → IsBuilder (record builder { fields = with_text code text builder.fields })
set_text builder code text d h = record { flags = d.flags; serial = d.serial; fields = with_text-valid code text builder.fields h d.fields }

pub set_reply_serial : (builder : BuilderView) (serial : ℕ) → IsBuilder builder → (0 < serial) × (serial < 2 ^ 32) → IsBuilder (record builder { fields = record builder.fields { reply_serial = Some serial } })
set_reply_serial builder serial d h =
    let f = d.fields in
    record { flags = d.flags; serial = d.serial; fields = record { texts = each_numbers _ builder.fields _ _ f.texts; reply_serial = h; unix_fds = f.unix_fds } }

pub known : (a b : ℕ) → a ≤ 7 → bit_or a (bit_and b 7) ≤ 7
known a b h = let low = or_lt 3 a (bit_and b 7) (omega arith) (omega (arith, and_le_r b 7)) in omega arith

-- ---- texts of a header

-- a unique name is a bus name
pub unique_bus : (text : List ℕ) → IsTrue (is_text codes.Sender text) → IsTrue (is_text codes.Destination text)
unfolding is_bus_name
unique_bus text h = grind (arith, nat_tests)

pub low_flags : (flags : ℕ) → bit_and flags 7 ≤ 7
low_flags flags = omega (arith, and_le_r flags 7)

-- a well-known name is a bus name
pub well_known_bus : (text : List ℕ) → IsTrue (is_well_known_name text) → IsTrue (is_text codes.Destination text)
unfolding is_bus_name
well_known_bus text h = grind (arith, nat_tests)
