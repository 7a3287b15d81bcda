-- A header's fields are encoded as values of `(yv)`, and a header as one of `yyyyuua(yv)`.
use Rattle.std.proofs.Common.{◌≡◌, ℕ, ◌+◌, ◌<◌, ◌≤◌, List, [], ◌∷◌, ◌++◌, length, take, drop, slice_index, refl, sym, ap, subst, ◌∙◌, arith, length-drop}
use Rattle.std.specs.Prelude.{IsTrue}
use Rattle.std.specs.List.{AllByRecursion}
use Rattle.std.specs.Int.{w8, w32}
use Rattle.std.proofs.lemmas.List.{append-nil, length-take-le, drop-drop}
use Rattle.std.proofs.Math.Nat.{mod-eq_of_lt}
use Rattle.std.proofs.Math.Seq.{take-add}
use Rattle.wire_number.specs.declared.endian.Endian.{Endian}
use Rattle.wire_number.specs.declared.endian.Endian.TheVariants.{Little, Big}
use Rattle.wire_number.specs.Number.{number_text, number_at, counted_text, pad, padding}
use Rattle.wire_number.proofs.Numbers.{IsBytes, IsBytes-drop, IsBytes-take}
use Rattle.wire_number.proofs.Steps.{bytes_from, text_of_number}
use Rattle.wire_signature.specs.SingleType.{letter, type_text}
use Rattle.wire_tree.specs.Datum.{Datum, type_of}
use Rattle.wire_encoding.specs.Encoding.{aligned, encoding, encodings, depth, depths, ArraysFit, AllFit}
use Rattle.wire_codec.proofs.Appends.{byte_text}
use Rattle.wire_message.specs.declared.field.FieldCode.{FieldCode}
use Rattle.wire_message.specs.declared.field.FieldCode.TheVariants as codes
use Rattle.wire_message.specs.declared.kind.MessageType.{MessageType}
use Rattle.wire_message.specs.Field.{Value, Text, Number, Field, IsField, is_value, code_byte, field_type, value_bytes, field_text, fields_text}
use Rattle.wire_message.specs.Front.{MessageView, Front, order_at, order_code, kind_code, fields_len, body_len, word_at}
use Rattle.wire_message.specs.Header.{held_datum, field_datum, field_data, header_field_datum, header_field_data, header_datum, IsHeader}
use Rattle.wire_message.specs.HeaderField.{HeaderField, Known, Unknown, IsHeaderField, AreHeaderFields, AreKnown, header_field_text, header_fields_text}
use Rattle.wire_message.proofs.FieldLaws.{placed, no_pad, no_front, not-so}
use Rattle.wire_message.proofs.Grammar.{order_again}

-- ---- one field

-- what a field holds, where it needs no padding
abbrev pub HeldEncoded : Endian → FieldCode → Value → ℕ → Type 0
HeldEncoded order code value q =
    (type_text (type_of (held_datum code value)) ≡ letter (field_type code) ∷ []) × (encoding order q (held_datum code value) ≡ value_bytes order (field_type code) value)

held_encoded : (order : Endian) (code : FieldCode) (value : Value) (q : ℕ) → pad q 4 ≡ 0 → IsTrue (is_value code value) → HeldEncoded order code value q
unfolding encoding
held_encoded order codes.ReplySerial (Number n) q e h = (refl, no_front q 4 _ e)
held_encoded order codes.UnixFds (Number n) q e h = (refl, no_front q 4 _ e)
held_encoded order codes.ReplySerial (Text t) q e h = not-so h
held_encoded order codes.UnixFds (Text t) q e h = not-so h
held_encoded order codes.Signature (Text t) q e h = (refl, no_front q 1 _ (no_pad q))
held_encoded order code (Text t) q e h = (refl, no_front q 4 _ e)
held_encoded order code (Number n) q e h = not-so h

code-low : (code : FieldCode) → code_byte code < 256
code-low code = grind arith

pub field_encoded : (order : Endian) (p : ℕ) (field : Field) → IsField field → padding p 8 ++ field_text order field ≡ encoding order p (field_datum field)
unfolding encoding encodings field_text
field_encoded order p field h =
    let d : Datum = held_datum field.code field.value in
    let q : ℕ = aligned p 8 in
    let held : HeldEncoded order field.code field.value (q + 4) = held_encoded order field.code field.value (q + 4) (placed p) h.0 in
    let whole : List ℕ → List ℕ → List ℕ = λ code sign. padding p 8 ++ (code ++ ((sign ++ encoding order (q + length code + length sign) d) ++ [])) in
    let code : padding q 1 ++ number_text w8 order (code_byte field.code) ≡ code_byte field.code ∷ [] =
    no_front q 1 _ (no_pad q) ∙ byte_text order (code_byte field.code) (code-low field.code) in
    let sign : counted_text w8 order (type_text (type_of d)) ≡ 1 ∷ letter (field_type field.code) ∷ 0 ∷ [] =
    ap (counted_text w8 order) held.0 ∙ ap (λ (r : List ℕ). r ++ (letter (field_type field.code) ∷ 0 ∷ [])) (byte_text order 1 (omega arith)) in
    let here : q + 1 + 3 ≡ q + 4 = omega arith in
    let encoded : encoding order p (field_datum field) ≡ padding p 8 ++ field_text order field =
    ap (λ (c : List ℕ). whole c (counted_text w8 order (type_text (type_of d)))) code
    ∙ ap (whole (code_byte field.code ∷ [])) sign
    ∙ ap (λ (k : ℕ). padding p 8 ++ (code_byte field.code ∷ 1 ∷ letter (field_type field.code) ∷ 0 ∷ (encoding order k d ++ []))) here
    ∙ ap (λ (r : List ℕ). padding p 8 ++ (code_byte field.code ∷ 1 ∷ letter (field_type field.code) ∷ 0 ∷ r)) (append-nil (encoding order (q + 4) d) ∙ held.1) in
    sym encoded

pub fields_encoded : (order : Endian) (p : ℕ) (fields : List Field) → AllByRecursion IsField fields → fields_text order p fields ≡ encodings order p (field_data fields)
unfolding encodings fields_text
fields_encoded order p [] h = refl
fields_encoded order p (field ∷ fields) h =
    let front : List ℕ = encoding order p (field_datum field) in
    ap (λ (r : List ℕ). r ++ fields_text order (p + length r) fields) (field_encoded order p field h.0)
    ∙ ap (λ (r : List ℕ). front ++ r) (fields_encoded order (p + length front) fields h.1)

-- a header field, known or not
one_encoded : (order : Endian) (p : ℕ) (field : HeaderField) → IsHeaderField order p field → header_field_text order p field ≡ encoding order p (header_field_datum field)
unfolding header_field_text
one_encoded order p (Known field) h = field_encoded order p field h
one_encoded order p (Unknown code held) h = refl

all_encoded : (order : Endian) (p : ℕ) (fields : List HeaderField) → AreHeaderFields order p fields → header_fields_text order p fields ≡ encodings order p (header_field_data fields)
unfolding encodings header_fields_text
all_encoded order p [] h = refl
all_encoded order p (field ∷ fields) h =
    let front : List ℕ = header_field_text order p field in
    ap (λ (r : List ℕ). front ++ r) (all_encoded order (p + length front) fields h.1)
    ∙ ap (λ (r : List ℕ). r ++ encodings order (p + length r) (header_field_data fields)) (one_encoded order p field h.0)

-- ---- the header

-- its bytes
abbrev pub header_bytes : Endian → ℕ → ℕ → ℕ → ℕ → ℕ → ℕ → List ℕ → List ℕ
header_bytes order o k f v body serial fields =
    o ∷ k ∷ f ∷ v ∷ (number_text w32 order body ++ (number_text w32 order serial ++ (number_text w32 order (length fields) ++ fields)))

pub header_encoded : (order : Endian) (o k f v body serial : ℕ) (fields : List HeaderField) → o < 256 → k < 256 → f < 256 → v < 256 → AreHeaderFields order 16 fields
    → header_bytes order o k f v body serial (header_fields_text order 16 fields) ≡ encoding order 0 (header_datum o k f v body serial fields)
unfolding encoding encodings
header_encoded order o k f v body serial fields a b c d h = ap (header_bytes order o k f v body serial) (all_encoded order 16 fields h) ∙ laid order where
  laid : (order : Endian) → header_bytes order o k f v body serial (encodings order 16 (header_field_data fields)) ≡ encoding order 0 (header_datum o k f v body serial fields)
  laid Little = rw (mod-eq_of_lt a, mod-eq_of_lt b, mod-eq_of_lt c, mod-eq_of_lt d, append-nil (number_text w32 Little (length (encodings Little 16 (header_field_data fields))) ++ encodings Little 16 (header_field_data fields))) refl
  laid Big = rw (mod-eq_of_lt a, mod-eq_of_lt b, mod-eq_of_lt c, mod-eq_of_lt d, append-nil (number_text w32 Big (length (encodings Big 16 (header_field_data fields))) ++ encodings Big 16 (header_field_data fields))) refl

-- ---- its limits

held-flat : (code : FieldCode) (value : Value) → depth (held_datum code value) ≡ 0
held-flat code value = grind arith

one-within : (order : Endian) (p : ℕ) (field : HeaderField) → IsHeaderField order p field → depth (header_field_datum field) ≤ 64
one-within order p (Known field) h = omega (arith, held-flat field.code field.value)
one-within order p (Unknown code held) h = h.1.within

fields-within : (order : Endian) (fields : List HeaderField) (p : ℕ) → AreHeaderFields order p fields → depths (header_field_data fields) ≤ 64
fields-within order [] p h = omega arith
fields-within order (field ∷ fields) p h = omega (arith, one-within order p field h.0, fields-within order fields (p + length (header_field_text order p field)) h.1)

known-flat : (field : Field) → depth (field_datum field) ≤ 2
known-flat field = omega (arith, held-flat field.code field.value)

fields-flat : (fields : List HeaderField) → AreKnown fields → depths (header_field_data fields) ≤ 2
fields-flat [] h = omega arith
fields-flat (Known field ∷ fields) h = omega (arith, known-flat field, fields-flat fields h)
fields-flat (Unknown code held ∷ fields) h = absurd h

held-fits : (order : Endian) (p : ℕ) (code : FieldCode) (value : Value) → ArraysFit order p (held_datum code value)
unfolding ArraysFit
held-fits order p code value = grind arith

one-fits : (order : Endian) (p : ℕ) (field : HeaderField) → IsHeaderField order p field → ArraysFit order p (header_field_datum field)
unfolding ArraysFit AllFit
one-fits order p (Known field) h = (tt, (held-fits order _ field.code field.value, tt))
one-fits order p (Unknown code held) h = h.1.fit

fields-fit : (order : Endian) (fields : List HeaderField) (p : ℕ) → AreHeaderFields order p fields → AllFit order p (header_field_data fields)
unfolding AllFit
fields-fit order [] p h = tt
fields-fit order (field ∷ fields) p h = (
  one-fits order p field h.0,
  subst (λ (l : List ℕ). AllFit order (p + length l) (header_field_data fields)) (one_encoded order p field h.0)
      (fields-fit order fields (p + length (header_field_text order p field)) h.1),
)

header-fits : (order : Endian) (o k f v body serial : ℕ) (fields : List HeaderField) → AreHeaderFields order 16 fields → length (encodings order 16 (header_field_data fields)) ≤ 67108864
    → ArraysFit order 0 (header_datum o k f v body serial fields)
unfolding encoding ArraysFit AllFit
header-fits Little o k f v body serial fields each h = (tt, (tt, (tt, (tt, (tt, (tt, ((h, fields-fit Little fields 16 each), tt)))))))
header-fits Big o k f v body serial fields each h = (tt, (tt, (tt, (tt, (tt, (tt, ((h, fields-fit Big fields 16 each), tt)))))))

-- ---- of a message

first_four : (bytes : List ℕ) → 4 ≤ length bytes → take 4 bytes ≡ slice_index bytes 0 ∷ slice_index bytes 1 ∷ slice_index bytes 2 ∷ slice_index bytes 3 ∷ []
first_four (a ∷ b ∷ c ∷ d ∷ rest) h = refl
first_four bytes h = absurd (omega arith)

word-back : (bytes : List ℕ) (order : Endian) (place : ℕ) → IsBytes bytes → place + 4 ≤ length bytes → number_text w32 order (number_at w32 order place bytes) ≡ take 4 (drop place bytes)
word-back bytes order place fits h =
    text_of_number w32 order (take 4 (drop place bytes)) tt (length-take-le 4 (drop place bytes) (omega (arith, length-drop place bytes)))
    (bytes_from (take 4 (drop place bytes)) (IsBytes-take 4 (drop place bytes) (IsBytes-drop place bytes fits)))

-- four bytes, and those behind them
four-more : (k n place : ℕ) (bytes : List ℕ) → k ≡ 4 + n → take k (drop place bytes) ≡ take 4 (drop place bytes) ++ take n (drop (place + 4) bytes)
four-more k n place bytes e =
    ap (λ (j : ℕ). take j (drop place bytes)) e ∙ take-add 4 n (drop place bytes)
    ∙ ap (λ (r : List ℕ). take 4 (drop place bytes) ++ take n r) (drop-drop 4 place bytes)

-- the bytes of a header by its words
laid-out : (bytes : List ℕ) (n : ℕ) → 16 ≤ length bytes
    → take (16 + n) bytes
    ≡ slice_index bytes 0 ∷ slice_index bytes 1 ∷ slice_index bytes 2 ∷ slice_index bytes 3
    ∷ (take 4 (drop 4 bytes) ++ (take 4 (drop 8 bytes) ++ (take 4 (drop 12 bytes) ++ take n (drop 16 bytes))))
laid-out bytes n h =
    let third : take (4 + n) (drop 12 bytes) ≡ take 4 (drop 12 bytes) ++ take n (drop 16 bytes) = four-more (4 + n) n 12 bytes refl in
    let second : take (8 + n) (drop 8 bytes) ≡ take 4 (drop 8 bytes) ++ (take 4 (drop 12 bytes) ++ take n (drop 16 bytes)) =
    four-more (8 + n) (4 + n) 8 bytes (omega arith) ∙ ap (λ (r : List ℕ). take 4 (drop 8 bytes) ++ r) third in
    let first : take (12 + n) (drop 4 bytes) ≡ take 4 (drop 4 bytes) ++ (take 4 (drop 8 bytes) ++ (take 4 (drop 12 bytes) ++ take n (drop 16 bytes))) =
    four-more (12 + n) (8 + n) 4 bytes (omega arith) ∙ ap (λ (r : List ℕ). take 4 (drop 4 bytes) ++ r) second in
    four-more (16 + n) (12 + n) 0 bytes (omega arith) ∙ ap (λ (r : List ℕ). r ++ take (12 + n) (drop 4 bytes)) (first_four bytes (omega arith))
    ∙ ap (λ (r : List ℕ). slice_index bytes 0 ∷ slice_index bytes 1 ∷ slice_index bytes 2 ∷ slice_index bytes 3 ∷ r) first

-- the same bytes by their parts
same_parts : {a b c d h k l : ℕ} {p q r s t u v w : List ℕ} → a ≡ h → b ≡ k → c ≡ l → p ≡ t → q ≡ u → r ≡ v → s ≡ w
    → a ∷ b ∷ c ∷ d ∷ (p ++ (q ++ (r ++ s))) ≡ h ∷ k ∷ l ∷ d ∷ (t ++ (u ++ (v ++ w)))
same_parts e f g h i j k = rw (e, f, g, h, i, j, k) refl

order-low : (order : Endian) → order_code order < 256
order-low order = grind arith

kind-low : (kind : MessageType) → kind_code kind < 256
kind-low kind = grind arith

pub header_is : (bytes : List ℕ) (m : MessageView) (n : ℕ) → IsBytes bytes → Front bytes m n → IsHeader bytes m
header_is bytes m n fits f =
    let order : order_at bytes ≡ m.order = order_again bytes m.order f.order in
    let fs = f.fields.0 in
    let long : 16 + fields_len bytes ≤ length bytes = omega (arith, f.there, f.whole) in
    let word : (place : ℕ) → place + 4 ≤ length bytes → number_text w32 m.order (word_at place bytes) ≡ take 4 (drop place bytes) =
    λ place h. ap (λ (o : Endian). number_text w32 o (word_at place bytes)) (sym order) ∙ word-back bytes (order_at bytes) place fits h in
    let size : length (header_fields_text m.order 16 fs) ≡ fields_len bytes =
    ap length (sym f.fields.2) ∙ length-take-le (fields_len bytes) (drop 16 bytes) (omega (arith, length-drop 16 bytes)) in
    let third : take 4 (drop 12 bytes) ≡ number_text w32 m.order (length (header_fields_text m.order 16 fs)) = sym (word 12 (omega (arith, f.head))) ∙ ap (number_text w32 m.order) (sym size) in
    let second : take 4 (drop 8 bytes) ≡ number_text w32 m.order m.serial = sym (word 8 (omega (arith, f.head))) ∙ ap (number_text w32 m.order) (sym f.serial) in
    let first : take 4 (drop 4 bytes) ≡ number_text w32 m.order (body_len bytes) = sym (word 4 (omega (arith, f.head))) in
    let text = laid-out bytes (fields_len bytes) f.head ∙ same_parts f.order f.type refl first second third f.fields.2 in
    record {
      list = fs;
      each = f.fields.1;
      says = f.fields.3;
      kind = refl;
      within = omega (arith, fields-within m.order fs 16 f.fields.1);
      flat = λ k. omega (arith, fields-flat fs k);
      fit = λ h. header-fits m.order _ _ _ _ _ _ fs f.fields.1 (subst (λ (k : ℕ). k ≤ 67108864) (sym (ap length (sym (all_encoded m.order 16 fs f.fields.1)) ∙ size)) h);
      text = text ∙ header_encoded m.order (order_code m.order) (kind_code m.kind) (slice_index bytes 2) (slice_index bytes 3) (body_len bytes) m.serial fs
          (order-low m.order) (kind-low m.kind) (fits 2) (fits 3) f.fields.1;
    }
