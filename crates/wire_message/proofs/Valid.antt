-- The header fields of a message that stands on its bytes are each in its grammar.
use Rattle.std.proofs.Common.{◌≡◌, ℕ, ◌<◌, List, [], ◌∷◌, length, Some, None, refl, sym, ◌∙◌, ap, arith, subst, ◌^◌, length-append}
use Rattle.std.proofs.lemmas.List.{nil_from_length}
use Rattle.wire_signature.specs.SingleType.{SingleType, SignatureText, single_types_of, type_text, types_text}
use Rattle.wire_encoding.proofs.Walks.{types_length}
use Rattle.wire_message.specs.Signed.{signature_field}
use Rattle.std.specs.Prelude.{IsTrue, is_some}
use Rattle.std.proofs.lemmas.Bool.{ltb-true}
use Rattle.wire_signature.specs.Parsing.{types_in}
use Rattle.wire_signature.proofs.Exact.{types_in-again}
use Rattle.wire_message.specs.declared.field.FieldCode.{FieldCode}
use Rattle.wire_message.specs.declared.field.FieldCode.TheVariants as codes
use Rattle.wire_message.specs.Field.{Fields, no_fields, Value, Text, Number, IsField, is_text, is_number, with_field, with_text, with_number}
use Rattle.wire_message.specs.HeaderField.{HeaderField, Known, Unknown, AreHeaderFields, found_in}
use Rattle.wire_number.specs.declared.endian.Endian.{Endian}
use Rattle.wire_message.specs.Front.{MessageView, Front, fields_of}
use Rattle.wire_message.specs.Valid.{AreFields}
use Rattle.wire_message.proofs.Each.{each_none, each_numbers, each_with}
use Rattle.wire_message.proofs.FieldLaws.{is-true, not-so}

pub with_text-valid : (code : FieldCode) (text : List ℕ) (fields : Fields) → IsTrue (is_text code text) → AreFields fields → AreFields (with_text code text fields)
with_text-valid codes.Path text fields h f = record { texts = each_with _ codes.Path text fields h f.texts; reply_serial = f.reply_serial; unix_fds = f.unix_fds }
with_text-valid code text fields h f = record { texts = each_with _ code text fields h f.texts; reply_serial = f.reply_serial; unix_fds = f.unix_fds }

with_number-valid : (code : FieldCode) (number : ℕ) (fields : Fields) → IsTrue (is_number code number) → number < 2 ^ 32 → AreFields fields → AreFields (with_number code number fields)
with_number-valid codes.ReplySerial number fields h k f = record { texts = each_numbers _ fields _ _ f.texts; reply_serial = (ltb-true 0 number (is-true _ h), k); unix_fds = f.unix_fds }
with_number-valid codes.UnixFds number fields h k f = record { texts = each_numbers _ fields _ _ f.texts; reply_serial = f.reply_serial; unix_fds = k }
with_number-valid code number fields h k f = not-so h

with_value-valid : (code : FieldCode) (value : Value) (fields : Fields) → IsField (record { code = code; value = value }) → AreFields fields → AreFields (with_field (record { code = code; value = value }) fields)
unfolding with_field
with_value-valid code (Text text) fields h f = with_text-valid code text fields h.0 f
with_value-valid code (Number number) fields h f = with_number-valid code number fields h.0 h.1 f

found-valid : (order : Endian) (fs : List HeaderField) (place : ℕ) (fields : Fields) → AreHeaderFields order place fs → AreFields fields → AreFields (found_in fields fs)
unfolding found_in
found-valid order [] place fields h f = f
found-valid order (Known field ∷ fs) place fields h f = found-valid order fs _ (with_field field fields) h.1 (with_value-valid field.code field.value fields h.0 f)
found-valid order (Unknown code held ∷ fs) place fields h f = found-valid order fs _ fields h.1 f

none-valid : AreFields no_fields
none-valid = record { texts = each_none _; reply_serial = tt; unix_fds = tt }

pub front-valid : (bytes : List ℕ) (m : MessageView) (n : ℕ) → Front bytes m n → AreFields (fields_of m)
front-valid bytes m n front =
    let fs = front.fields in
    subst AreFields (sym fs.3) (found-valid m.order fs.0 16 no_fields fs.1 none-valid)

-- ---- the text of a signature

pub no_types_text : IsTrue (is_some (types_in []))
no_types_text = ap is_some (types_in-again [] [] (record { valid = record { arrays = omega arith; structs = omega arith; fields = tt; within = omega arith }; text = refl }))

not_empty : (t : SingleType) (ts : List SingleType) → types_text (single_types_of (t ∷ ts)) ≡ [] → ⊥
not_empty t ts e = absurd (omega (arith, types_length t, ap length e, length-append (type_text t) (types_text (single_types_of ts))))

-- an empty text is that of no types
pub no_text : (types : List SingleType) (text : List ℕ) → SignatureText types text → length text ≡ 0 → None ≡ signature_field types
no_text [] text s e = refl
no_text (t ∷ ts) text s e = absurd (not_empty t ts (sym s.text ∙ nil_from_length text e))

-- another is that of its types
pub some_text : (types : List SingleType) (text : List ℕ) → SignatureText types text → (length text ≡ 0 → ⊥) → Some text ≡ signature_field types
some_text [] text s e = absurd (e (ap length s.text))
some_text (t ∷ ts) text s e = ap Some s.text

pub ruleset signature_fields = types_in-again
