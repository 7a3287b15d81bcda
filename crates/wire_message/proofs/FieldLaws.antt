-- What is read as a header field is encoded so, and what is encoded so is read.
use Rattle.std.proofs.Common.{◌≡◌, ℕ, ◌+◌, ◌-◌, ◌<◌, ◌≤◌, ◌%◌, Bool, true, false, ◌&&◌, ◌==◌, List, [], ◌∷◌, ◌++◌, length, replicate, Some, is_some, refl, sym, ap, subst, ◌∙◌, append_assoc, arith}
use Rattle.std.specs.Prelude.{IsTrue}
use Rattle.std.specs.Int.{Width, w8, w32, byte_len}
use Rattle.std.proofs.lemmas.Bool.Decides.{nat_tests}
use Rattle.wire_number.specs.declared.endian.Endian.{Endian}
use Rattle.wire_number.specs.Number.{counted_text, number_text, pad, padding}
use Rattle.wire_number.specs.Reading.{Cursor, made, bytes_at, align_at, number_at, counted_at}
use Rattle.wire_number.proofs.Multiples.{padded-is-multiple}
use Rattle.wire_number.proofs.Steps.{at, AreBytes, Reads, reads_then, Takes, IsNumber, IsShort as IsShortWidth, limit, bind_some, map_some, some_is, guard_some, guarded, bound_some, bytes_take, bytes_again, align_takes, align_again, number_takes, number_again, length-number_text, length_padding, length-padded, IsCounted, counted_takes, counted_again}
use Rattle.wire_signature.specs.declared.basic.BasicType.{BasicType}
use Rattle.wire_signature.specs.declared.basic.BasicType.TheVariants as basics
use Rattle.wire_signature.specs.SingleType.{letter}
use Rattle.wire_signature.specs.Parsing.{types_in}
use Rattle.wire_signature.proofs.Exact.{is_some-types_in}
use Rattle.wire_message.specs.declared.field.FieldCode.{FieldCode}
use Rattle.wire_message.specs.declared.field.FieldCode.TheVariants as codes
use Rattle.wire_message.specs.Field.{Value, Text, Number, Field, IsField, IsShort, is_value, is_text, code_byte, code_bytes, field_type, text_bytes, value_bytes, field_text}
use Rattle.wire_message.specs.FieldReading.{code_of, typed_code, code_at, value_at, known_at, field_at}

-- ---- the code

code_of-takes : (byte : ℕ) (code : FieldCode) → code_of byte ≡ Some code → byte ≡ code_byte code
code_of-takes byte code e = grind (arith, nat_tests)

code_at-takes : (bytes : List ℕ) (code : FieldCode) → length bytes ≡ 4 → code_at bytes ≡ Some code → bytes ≡ code_bytes code
unfolding code_at
code_at-takes (a ∷ b ∷ c ∷ d ∷ []) code l e =
    let s = bind_some (code_of a) (λ x. typed_code x b c d) code e in
    let t = guard_some ((b == 1) && (c == letter (field_type s.0)) && (d == 0)) (Some s.0) code s.2 in
    let first : a ≡ code_byte s.0 = code_of-takes a s.0 s.1 in
    let same : s.0 ≡ code = some_is s.0 code t.1 in
    let tests = t.0 in
    grind (arith, nat_tests)
code_at-takes bytes code l e = absurd (omega arith)

code_at-again : (code : FieldCode) → code_at (code_bytes code) ≡ Some code
unfolding code_at
code_at-again code = grind (arith, nat_tests)

-- ---- the value

-- behind the padding of a struct and four bytes no value of a field needs padding
pub placed : (p : ℕ) → pad (p + pad p 8 + 4) 4 ≡ 0
placed p = of (p + pad p 8) (padded-is-multiple p 8 (omega arith)) where
  of : (q : ℕ) → q % 8 ≡ 0 → pad (q + 4) 4 ≡ 0
  of q h = let f : (q + 4) % 4 ≡ 0 = omega (arith, h) in ap (λ r. (4 - r) % 4) f

pub no_pad : (p : ℕ) → pad p 1 ≡ 0
no_pad p = omega arith

pub no_front : (q n : ℕ) (text : List ℕ) → pad q n ≡ 0 → padding q n ++ text ≡ text
no_front q n text e = ap (λ (k : ℕ). replicate k 0 ++ text) e

unpadded : (c after : Cursor) (n : ℕ) (text : List ℕ) → pad c.place n ≡ 0 → Reads c (padding c.place n ++ text) after → Reads c text after
unpadded c after n text e r = subst (λ (k : ℕ). Reads c (replicate k 0 ++ text) after) e r

-- what was taken as a value
abbrev Valued : Endian → BasicType → Cursor → Value × Cursor → Type 0
Valued order type c x = Reads c (value_bytes order type x.0) x.1 × IsShort x.0

text-value : (w : Width) (order : Endian) (type : BasicType) (c : Cursor) (x : Value × Cursor) → IsShortWidth w → limit w ≤ 4294967296 → pad c.place (byte_len w) ≡ 0 → AreBytes c.rest
    → ((t : List ℕ) → text_bytes order type t ≡ counted_text w order t) → made Text (counted_at w order c) ≡ Some x → Valued order type c x
text-value w order type c x s h e low same f =
    let y = map_some (λ (y : List ℕ × Cursor). (Text y.0, y.1)) (counted_at w order c) x f in
    let k : IsCounted w order c y.0 = counted_takes w order c y.0 s y.1 low in
    let r : Reads c (counted_text w order y.0.0) y.0.1 = unpadded c y.0.1 (byte_len w) (counted_text w order y.0.0) e k.reads in
    subst (λ (p : Value × Cursor). Valued order type c p) y.2 (subst (λ (l : List ℕ). Reads c l y.0.1) (sym (same y.0.0)) r, omega (arith, k.below, h))

number-value : (order : Endian) (c : Cursor) (x : Value × Cursor) → AreBytes c.rest → made Number (number_at w32 order c) ≡ Some x → Valued order basics.Uint32 c x
number-value order c x low f =
    let y = map_some (λ (y : ℕ × Cursor). (Number y.0, y.1)) (number_at w32 order c) x f in
    let k : IsNumber w32 order c y.0 = number_takes w32 order c y.0 tt y.1 low in
    subst (λ (p : Value × Cursor). Valued order basics.Uint32 c p) y.2 (k.reads, omega (arith, k.below))

value_at-takes : (order : Endian) (code : FieldCode) (c : Cursor) (x : Value × Cursor) → pad c.place 4 ≡ 0 → AreBytes c.rest → value_at order (field_type code) c ≡ Some x
    → Valued order (field_type code) c x
unfolding value_at
value_at-takes order codes.ReplySerial c x p low e = number-value order c x low e
value_at-takes order codes.UnixFds c x p low e = number-value order c x low e
value_at-takes order codes.Signature c x p low e = text-value w8 order basics.Signature c x tt (omega arith) (no_pad c.place) low (λ t. refl) e
value_at-takes order code c x p low e = text-value w32 order (field_type code) c x tt (omega arith) p low (λ t. refl) e

text-again : (w : Width) (order : Endian) (t : List ℕ) (p : ℕ) (rest : List ℕ) → length t < limit w → pad p (byte_len w) ≡ 0
    → made Text (counted_at w order (at p (counted_text w order t ++ rest))) ≡ Some (Text t, at (p + length (counted_text w order t)) rest)
text-again w order t p rest h e =
    subst (λ (k : ℕ). made Text (counted_at w order (at p ((replicate k 0 ++ counted_text w order t) ++ rest))) ≡ Some (Text t, at (p + length (replicate k 0 ++ counted_text w order t)) rest)) e
    (ap (made Text) (counted_again w order t p rest h))

number-read : (order : Endian) (n p : ℕ) (rest : List ℕ) → n < 4294967296
    → made Number (number_at w32 order (at p (number_text w32 order n ++ rest))) ≡ Some (Number n, at (p + length (number_text w32 order n)) rest)
number-read order n p rest h =
    ap (made Number) (number_again w32 order n p rest h) ∙ ap (λ (k : ℕ). Some (Number n, at (p + k) rest)) (sym (length-number_text w32 order n))

-- a signature is short
pub signature-below : (text : List ℕ) → IsTrue (is_text codes.Signature text) → length text < 256
signature-below text h =
    let k = (is_some-types_in (is_some (types_in text)) text refl).0 h in
    omega (arith, ap length k.1.text, k.1.valid.within)

pub not-so : {A : Type 0} → IsTrue false → A
not-so h = absurd cc

pub is-true : (b : Bool) → IsTrue b → b ≡ true
is-true b h = grind arith

value_at-again : (order : Endian) (code : FieldCode) (value : Value) (p : ℕ) (rest : List ℕ) → pad p 4 ≡ 0 → IsTrue (is_value code value) → IsShort value
    → value_at order (field_type code) (at p (value_bytes order (field_type code) value ++ rest)) ≡ Some (value, at (p + length (value_bytes order (field_type code) value)) rest)
unfolding value_at
value_at-again order codes.ReplySerial (Number n) p rest e h k = number-read order n p rest k
value_at-again order codes.UnixFds (Number n) p rest e h k = number-read order n p rest k
value_at-again order codes.ReplySerial (Text t) p rest e h k = not-so h
value_at-again order codes.UnixFds (Text t) p rest e h k = not-so h
value_at-again order codes.Signature (Text t) p rest e h k = text-again w8 order t p rest (signature-below t h) (no_pad p)
value_at-again order code (Text t) p rest e h k = text-again w32 order t p rest k e
value_at-again order code (Number n) p rest e h k = not-so h

-- ---- one field

-- what was taken as a field
pub record Taken (order : Endian) (c : Cursor) (x : Field × Cursor) : Type 0 where
  pub reads : Reads c (padding c.place 8 ++ field_text order x.0) x.1
  pub valid : IsField x.0

pub field_at-takes : (order : Endian) (c : Cursor) (x : Field × Cursor) → AreBytes c.rest → field_at order c ≡ Some x → Taken order c x
unfolding field_at known_at field_text
field_at-takes order c x low e =
    let p = bind_some (align_at 8 c) _ x e in
    let h = bind_some (bytes_at 4 p.0) _ x p.2 in
    let k = bind_some (code_at h.0.0) _ x h.2 in
    let v = bind_some (value_at order (field_type k.0) h.0.1) _ x k.2 in
    let g = guard_some (is_value k.0 v.0.0) (Some (record { code = k.0; value = v.0.0 }, v.0.1)) x v.2 in
    let front : Reads c (padding c.place 8) p.0 = align_takes 8 c p.0 p.1 low in
    let four : Takes 4 p.0 h.0.0 h.0.1 = bytes_take 4 p.0 h.0 h.1 front.bytes in
    let head : Reads p.0 (code_bytes k.0) h.0.1 = subst (λ (l : List ℕ). Reads p.0 l h.0.1) (code_at-takes h.0.0 k.0 four.long k.1) four.reads in
    let here : h.0.1.place ≡ c.place + pad c.place 8 + 4 = omega (arith, four.reads.place_is, four.long, front.place_is, length_padding c.place 8) in
    let valued : Valued order (field_type k.0) h.0.1 v.0 = value_at-takes order k.0 h.0.1 v.0 (ap (λ (q : ℕ). pad q 4) here ∙ placed c.place) head.bytes v.1 in
    let found : Field × Cursor = (record { code = k.0; value = v.0.0 }, v.0.1) in
    subst (λ (y : Field × Cursor). Taken order c y) {x = found} (some_is found x g.1)
    (record { reads = reads_then c p.0 v.0.1 (padding c.place 8) (field_text order found.0) front (reads_then p.0 h.0.1 v.0.1 (code_bytes k.0) (value_bytes order (field_type k.0) v.0.0) head valued.0); valid = (g.0, valued.1) })

pub field_at-again : (order : Endian) (field : Field) (p : ℕ) (rest : List ℕ) → IsField field
    → field_at order (at p ((padding p 8 ++ field_text order field) ++ rest)) ≡ Some (field, at (p + length (padding p 8 ++ field_text order field)) rest)
unfolding field_at known_at field_text
field_at-again order field p rest h =
    let code : List ℕ = code_bytes field.code in
    let value : List ℕ = value_bytes order (field_type field.code) field.value in
    let regrouped : (padding p 8 ++ (code ++ value)) ++ rest ≡ padding p 8 ++ (code ++ (value ++ rest)) =
    append_assoc (padding p 8) (code ++ value) rest ∙ ap (λ r. padding p 8 ++ r) (append_assoc code value rest) in
    let long : p + pad p 8 + 4 + length value ≡ p + length (padding p 8 ++ (code ++ value)) = omega (arith, length-padded p 8 (code ++ value)) in
    ap (field_at order) (ap (at p) regrouped)
    ∙ bound_some _ _ _ (align_again 8 p (code ++ (value ++ rest)))
    ∙ bound_some _ _ _ (bytes_again 4 (p + pad p 8) code (value ++ rest) refl)
    ∙ bound_some _ _ _ (code_at-again field.code)
    ∙ bound_some _ _ _ (value_at-again order field.code field.value (p + pad p 8 + 4) rest (placed p) h.0 h.1)
    ∙ guarded (is_value field.code field.value) _ h.0
    ∙ ap (λ (k : ℕ). Some (field, at k rest)) long
