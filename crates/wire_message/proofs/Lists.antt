-- A field array that is read is encoded by a list of fields, and what is so encoded is read.
use Rattle.std.proofs.Common.{◌≡◌, ℕ, zero, suc, ◌+◌, ◌≤◌, List, [], ◌∷◌, ◌++◌, length, Some, refl, sym, ap, subst, ◌∙◌, arith, length-append, option_map}
use Rattle.std.specs.List.{AllByRecursion}
use Rattle.wire_number.specs.declared.endian.Endian.{Endian}
use Rattle.wire_number.specs.Number.{padding}
use Rattle.wire_number.specs.Reading.{Cursor}
use Rattle.wire_number.proofs.Steps.{at, AreBytes}
use Rattle.wire_encoding.specs.Reading.{many_at}
use Rattle.wire_encoding.proofs.FoundValues.{many_hold}
use Rattle.wire_encoding.proofs.ReadAgain.{many_with}
use Rattle.wire_encoding.proofs.Loops.{many_done}
use Rattle.wire_message.specs.Field.{Fields, Field, IsField, field_text, fields_text, with_field, gathered, no_fields}
use Rattle.wire_message.specs.HeaderField.{HeaderField, Known, AreHeaderFields, header_field_text, header_fields_text, found_in}
use Rattle.wire_message.specs.FieldReading.{header_field_at, fields_in}
use Rattle.wire_message.proofs.HeaderFields.{Found, header_field_at-takes, header_field_at-again, header_field-some}
use Rattle.wire_number.proofs.Steps.{map_some}

-- fields that fill the bytes
pub record AreRead (order : Endian) (c : Cursor) (fs : List HeaderField) : Type 0 where
  pub each : AreHeaderFields order c.place fs
  pub text : c.rest ≡ header_fields_text order c.place fs

read-none : (order : Endian) (c : Cursor) → c.rest ≡ [] → AreRead order c []
unfolding header_fields_text
read-none order c e = record { each = tt; text = e }

read-more : (order : Endian) (c : Cursor) (x : HeaderField × Cursor) (fs : List HeaderField) → Found order c x → AreRead order x.1 fs → AreRead order c (x.0 ∷ fs)
unfolding header_fields_text
read-more order c x fs t others = record {
  each = (t.valid, subst (λ (q : ℕ). AreHeaderFields order q fs) t.reads.place_is others.each);
  text = t.reads.text_is ∙ ap (λ (l : List ℕ). header_field_text order c.place x.0 ++ l) (others.text ∙ ap (λ (q : ℕ). header_fields_text order q fs) t.reads.place_is);
}

pub fields-take : (order : Endian) (n : ℕ) (c : Cursor) (fs : List HeaderField) → many_at n (header_field_at order) c ≡ Some fs → AreBytes c.rest → AreRead order c fs
fields-take order n c fs e low =
    many_hold (AreRead order) (header_field_at order) (read-none order) (λ c x fs f l others. read-more order c x fs (header_field_at-takes order c x l f) others)
    (λ c x f l. (header_field_at-takes order c x l f).reads.bytes) n c fs e low

pub fields-again : (order : Endian) (n place : ℕ) (fs : List HeaderField) → AreHeaderFields order place fs → length (header_fields_text order place fs) ≤ n
    → many_at n (header_field_at order) (at place (header_fields_text order place fs)) ≡ Some fs
unfolding header_fields_text
fields-again order n place [] valid h = many_done n (header_field_at order) (at place []) refl
fields-again order zero place (field ∷ fs) valid h =
    let front = header_field_text order place field in
    absurd (omega (arith, length-append front (header_fields_text order (place + length front) fs), header_field-some order place field valid.0))
fields-again order (suc n) place (field ∷ fs) valid h =
    let front = header_field_text order place field in
    let rest = header_fields_text order (place + length front) fs in
    let some = header_field-some order place field valid.0 in
    many_with n place (header_field_at order) front rest field fs some (header_field_at-again order place field rest valid.0)
    (fields-again order n (place + length front) fs valid.1 (omega (arith, length-append front rest, some)))

-- what a field array is
pub record Encoded (order : Endian) (bytes : List ℕ) (says : Fields) : Type 0 where
  pub list : List HeaderField
  pub each : AreHeaderFields order 16 list
  pub text : bytes ≡ header_fields_text order 16 list
  pub all : says ≡ found_in no_fields list

pub fields_in-takes : (order : Endian) (bytes : List ℕ) (says : Fields) → AreBytes bytes → fields_in order bytes ≡ Some says → Encoded order bytes says
unfolding fields_in
fields_in-takes order bytes says low e =
    let s = map_some (found_in no_fields) (many_at (length bytes) (header_field_at order) (at 16 bytes)) says e in
    let r : AreRead order (at 16 bytes) s.0 = fields-take order (length bytes) (at 16 bytes) s.0 s.1 low in
    record { list = s.0; each = r.each; text = r.text; all = sym s.2 }

pub fields_in-again : (order : Endian) (fs : List HeaderField) → AreHeaderFields order 16 fs → fields_in order (header_fields_text order 16 fs) ≡ Some (found_in no_fields fs)
unfolding fields_in
fields_in-again order fs valid = ap (option_map (found_in no_fields)) (fields-again order (length (header_fields_text order 16 fs)) 16 fs valid (omega arith))

-- ---- known fields alone

-- known fields as header fields
abbrev pub known_fields : List Field → List HeaderField
known_fields [] = []
known_fields (field ∷ fields) = Known field ∷ known_fields fields

pub known-text : (order : Endian) (place : ℕ) (fields : List Field) → header_fields_text order place (known_fields fields) ≡ fields_text order place fields
unfolding header_fields_text header_field_text fields_text
known-text order place [] = refl
known-text order place (field ∷ fields) =
    let front = padding place 8 ++ field_text order field in ap (λ (l : List ℕ). front ++ l) (known-text order (place + length front) fields)

pub known-each : (order : Endian) (fields : List Field) (place : ℕ) → AllByRecursion IsField fields → AreHeaderFields order place (known_fields fields)
known-each order [] place h = tt
known-each order (field ∷ fields) place h = (h.0, known-each order fields _ h.1)

pub known-says : (says : Fields) (fields : List Field) → found_in says (known_fields fields) ≡ gathered says fields
unfolding found_in gathered
known-says says [] = refl
known-says says (field ∷ fields) = known-says (with_field field says) fields
