-- Fields that are added one behind the other, and where their texts stand.
use Rattle.std.proofs.Common.{◌≡◌, ℕ, ◌+◌, ◌-◌, ◌≤◌, List, [], ◌∷◌, ◌++◌, length, take, drop, Result, Ok, Err, refl, sym, ap, ◌∙◌, append_assoc, arith, length-append}
use Rattle.std.specs.Prelude.{IfOk}
use Rattle.std.specs.Int.{w8, w32}
use Rattle.std.proofs.lemmas.List.{append-nil, take_at, drop_at}
use Rattle.wire_number.specs.declared.endian.Endian.{Endian}
use Rattle.wire_number.specs.Number.{padding, number_text, pad}
use Rattle.wire_number.proofs.Steps.{length-padded}
use Rattle.wire_message.specs.declared.field.FieldCode.{FieldCode}
use Rattle.wire_message.specs.declared.field.FieldCode.TheVariants as codes
use Rattle.wire_message.specs.declared.field_offsets.FieldValue.{FieldValue}
use Rattle.wire_message.specs.declared.field_offsets.FieldValue.TheVariants as field_values
use Rattle.wire_message.specs.Field.{Fields, Field, code_bytes, field_type, text_bytes, value_bytes, field_text, fields_text, with_field, gathered}
use Rattle.wire_message.specs.FieldValue.{HasRoom, StandsAt, value_of}
use Rattle.wire_message.specs.FieldOffsets.{area, found_fields, AreSpans, AppendsFields, FieldOffsets}
use Rattle.wire_message.proofs.FieldLaws.{placed}

-- ---- where a text stands

text-ends : (order : Endian) (code : FieldCode) (text : List ℕ) → (digits : List ℕ) × (text_bytes order (field_type code) text ≡ digits ++ (text ++ 0 ∷ []))
text-ends order codes.Signature text = (number_text w8 order (length text), refl)
text-ends order code text = (number_text w32 order (length text), refl)

area-there : (bytes a text b : List ℕ) (start end : ℕ) → bytes ≡ a ++ (text ++ b) → start ≡ length a → end ≡ length a + length text → area bytes start end ≡ text
area-there bytes a text b start end e s t =
    ap (λ (l : List ℕ). take (end - start) (drop start l)) e ∙ ap (take (end - start)) (drop_at a (text ++ b) start (sym s)) ∙ take_at text b (end - start) (omega (arith, s, t))

-- the text of a field that stands behind a front, and ends at `next`
pub field_value-stands : (order : Endian) (code : FieldCode) (field_value : FieldValue) (bytes front more : List ℕ) (place next : ℕ)
    → bytes ≡ front ++ ((padding place 8 ++ field_text order (record { code = code; value = value_of field_value })) ++ more)
    → next ≡ length front + length (padding place 8 ++ field_text order (record { code = code; value = value_of field_value })) → HasRoom next field_value × StandsAt bytes next field_value
unfolding field_text
field_value-stands order code (field_values.Number number) bytes front more place next e n = (tt, tt)
field_value-stands order code (field_values.Text lent) bytes front more place next e n =
    let text : List ℕ = lent.now in
    let d = text-ends order code text in
    let pads : List ℕ = padding place 8 in
    let head : List ℕ = code_bytes code in
    let before : List ℕ = front ++ (pads ++ (head ++ d.0)) in
    let regrouped : front ++ ((pads ++ (head ++ (d.0 ++ (text ++ 0 ∷ [])))) ++ more) ≡ before ++ (text ++ ((0 ∷ []) ++ more)) = simp append_assoc in
    let whole : bytes ≡ before ++ (text ++ ((0 ∷ []) ++ more)) = e ∙ ap (λ (l : List ℕ). front ++ ((pads ++ (head ++ l)) ++ more)) d.1 ∙ regrouped in
    let stop : next ≡ length before + length text + 1 =
    omega (
      arith,
      n,
      ap length d.1,
      length-append front (pads ++ (head ++ d.0)),
      length-append pads (head ++ d.0),
      length-append pads (head ++ text_bytes order (field_type code) text),
      length-append d.0 (text ++ 0 ∷ []),
      length-append text (0 ∷ []),
    ) in
    (omega (arith, stop), area-there bytes before text ((0 ∷ []) ++ more) (next - 1 - length text) (next - 1) whole (omega (arith, stop)) (omega (arith, stop)))

-- ---- one field

-- behind a field's first four bytes no value needs padding
pub code-placed : (code : FieldCode) (old new : List ℕ) → new ≡ old ++ (padding (length old) 8 ++ code_bytes code) → pad (length new) 4 ≡ 0
code-placed code old new e =
    let p : ℕ = length old in
    let here : length new ≡ p + pad p 8 + 4 = omega (arith, ap length e, length-append old (padding p 8 ++ code_bytes code), length-padded p 8 (code_bytes code)) in
    ap (λ (q : ℕ). pad q 4) here ∙ placed p

-- the bytes of a field that was added
pub field-bytes : (order : Endian) (code : FieldCode) (field_value : FieldValue) (old mid new : List ℕ) → mid ≡ old ++ (padding (length old) 8 ++ code_bytes code)
    → new ≡ mid ++ value_bytes order (field_type code) (value_of field_value) → new ≡ old ++ (padding (length old) 8 ++ field_text order (record { code = code; value = value_of field_value }))
unfolding field_text
field-bytes order code field_value old mid new m e =
    let value = value_bytes order (field_type code) (value_of field_value) in
    e ∙ ap (λ (l : List ℕ). l ++ value) m ∙ append_assoc old (padding (length old) 8 ++ code_bytes code) value
    ∙ ap (λ (l : List ℕ). old ++ l) (append_assoc (padding (length old) 8) (code_bytes code) value)

-- there is room for its text
pub field-room : (order : Endian) (code : FieldCode) (field_value : FieldValue) (old new : List ℕ)
    → new ≡ old ++ (padding (length old) 8 ++ field_text order (record { code = code; value = value_of field_value })) → HasRoom (length new) field_value
field-room order code field_value old new e =
    let text = padding (length old) 8 ++ field_text order (record { code = code; value = value_of field_value }) in
    (field_value-stands order code field_value new old [] (length old) (length new) (e ∙ ap (λ (l : List ℕ). old ++ l) (sym (append-nil text))) (ap length e ∙ length-append old text)).0

pub field-added : (order : Endian) (code : FieldCode) (field_value : FieldValue) (old new : List ℕ) (offsets after : FieldOffsets)
    → new ≡ old ++ (padding (length old) 8 ++ field_text order (record { code = code; value = value_of field_value }))
    → ((bytes : List ℕ) → StandsAt bytes (length new) field_value → found_fields bytes after ≡ with_field (record { code = code; value = value_of field_value }) (found_fields bytes offsets))
    → ((n : ℕ) → AreSpans n offsets → length new ≤ n → AreSpans n after) → AppendsFields order (record { code = code; value = value_of field_value } ∷ []) old offsets new after
unfolding fields_text gathered
field-added order code field_value old new offsets after e field spans =
    let text = padding (length old) 8 ++ field_text order (record { code = code; value = value_of field_value }) in
    record {
      text = e ∙ ap (λ (l : List ℕ). old ++ l) (sym (append-nil text));
      found = λ bytes front more l same. field bytes
          (field_value-stands order code field_value bytes front more (length old) (length new) (same ∙ ap (λ (r : List ℕ). front ++ (r ++ more)) (append-nil text)) (omega (arith, ap length e, length-append old text, l))).1;
      spans = λ n h s. spans n s h;
    }

-- ---- one field behind the other

pub if-ok : {A E : Type 0} {P Q : A → Type 0} (r : Result A E) → ((x : A) → P x → Q x) → IfOk r P → IfOk r Q
if-ok (Ok x) f p = f x p
if-ok (Err e) f p = p

pub none_added : (order : Endian) (old : List ℕ) (offsets : FieldOffsets) → AppendsFields order [] old offsets old offsets
unfolding fields_text gathered
none_added order old offsets = record { text = sym (append-nil old); found = λ bytes front more l same. refl; spans = λ n h s. s }

pub fields-append : (order : Endian) (place : ℕ) (xs ys : List Field) → fields_text order place (xs ++ ys) ≡ fields_text order place xs ++ fields_text order (place + length (fields_text order place xs)) ys
unfolding fields_text
fields-append order place [] ys = let e : place + 0 ≡ place = omega arith in ap (λ (p : ℕ). fields_text order p ys) (sym e)
fields-append order place (x ∷ xs) ys =
    let front = padding place 8 ++ field_text order x in
    let rest = fields_text order (place + length front) xs in
    let at : place + length front + length rest ≡ place + length (front ++ rest) = omega (arith, length-append front rest) in
    ap (λ (l : List ℕ). front ++ l) (fields-append order (place + length front) xs ys)
    ∙ sym (append_assoc front rest (fields_text order (place + length front + length rest) ys))
    ∙ ap (λ (p : ℕ). (front ++ rest) ++ fields_text order p ys) at

gathered-append : (fields : Fields) (xs ys : List Field) → gathered fields (xs ++ ys) ≡ gathered (gathered fields xs) ys
unfolding gathered
gathered-append fields [] ys = refl
gathered-append fields (x ∷ xs) ys = gathered-append (with_field x fields) xs ys

pub added-then : (order : Endian) (a b c : List ℕ) (p q r : FieldOffsets) (xs ys : List Field) → AppendsFields order xs a p b q → AppendsFields order ys b q c r
    → AppendsFields order (xs ++ ys) a p c r
added-then order a b c p q r xs ys f g =
    let x = fields_text order (length a) xs in
    let y = fields_text order (length b) ys in
    let at : length b ≡ length a + length x = omega (arith, ap length f.text, length-append a x) in
    let both : fields_text order (length a) (xs ++ ys) ≡ x ++ y = fields-append order (length a) xs ys ∙ ap (λ (k : ℕ). x ++ fields_text order k ys) (sym at) in
    record {
      text = g.text ∙ ap (λ (l : List ℕ). l ++ y) f.text ∙ append_assoc a x y ∙ ap (λ (l : List ℕ). a ++ l) (sym both);
      found = λ bytes front more l same.
          let here : bytes ≡ front ++ (x ++ (y ++ more)) = same ∙ ap (λ (t : List ℕ). front ++ (t ++ more)) both ∙ ap (λ (t : List ℕ). front ++ t) (append_assoc x y more) in
          g.found bytes (front ++ x) more (omega (arith, length-append front x, l, at)) (here ∙ sym (append_assoc front x (y ++ more)))
          ∙ ap (λ (t : Fields). gathered t ys) (f.found bytes front (y ++ more) l here) ∙ sym (gathered-append (found_fields bytes p) xs ys);
      spans = λ n h s. g.spans n h (f.spans n (omega (arith, h, ap length g.text, length-append b y)) s);
    }
