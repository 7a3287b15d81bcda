-- What is read as a header field, known or not, is encoded so, and what is encoded so is read.
use Rattle.std.proofs.Common.{◌≡◌, ℕ, ◌+◌, ◌<◌, ◌≤◌, Bool, true, false, List, [], ◌∷◌, ◌++◌, length, take, drop, slice_index, Option, Some, None, refl, sym, ap, subst, ◌∙◌, append_assoc, length-append, arith}
use Rattle.std.specs.Prelude.{nat_le, nat_lt, if◌then◌else◌, option_map, IfSome, IfNone}
use Rattle.wire_number.specs.ReaderView.{Finds}
use Rattle.std.proofs.lemmas.Bool.{ltb-true, lt-ltb, le-ltb}
use Rattle.std.proofs.lemmas.List.{append-nil, take-append-drop, length-take-le}
use Rattle.std.proofs.lemmas.Bool.Decides.{nat_tests}
use Rattle.std.specs.Int.{w8}
use Rattle.wire_number.specs.declared.endian.Endian.{Endian}
use Rattle.wire_number.specs.Number.{number, number_text, padding}
use Rattle.wire_number.specs.Reading.{Cursor, Parse, ◌>>=◌, made, behind, bytes_at, zeros_at, align_at, number_at}
use Rattle.wire_number.proofs.Steps.{at, AreBytes, Reads, bind_some, map_some, some_is, guard_some, bound_some, guarded, align_again}
use Rattle.wire_signature.specs.declared.basic.BasicType.TheVariants as basics
use Rattle.wire_signature.specs.SingleType.{SingleType, basic, variant as any, single_types, no_single_types, IsType, TypeText}
use Rattle.wire_tree.specs.Datum.{byte, string, object_path, signature, bound, Datum, num, text, struct, no_data, items, type_of, data_of}
use Rattle.wire_encoding.specs.Encoding.{aligned, encoding, encodings, Encodes}
use Rattle.wire_encoding.specs.Promises.{EncodeNothing, StandsFirst}
use Rattle.wire_encoding.specs.Reading.{num_at, value_at as datum_at, struct_at, fields_at}
use Rattle.wire_encoding.proofs.Exact.{value_only}
use Rattle.wire_encoding.proofs.FoundValues.{IsValue, value_takes}
use Rattle.wire_encoding.proofs.ReadAgain.{num_again, some_encoding}
use Rattle.wire_codec.proofs.Appends.{byte_text}
use Rattle.wire_message.specs.Field.{Field, field_text}
use Rattle.wire_message.specs.FieldReading.{code_of, code_at, known_at, field_at, unknown_in, unknown_field, unknown_at, known_or, header_field_at}
use Rattle.wire_message.specs.HeaderField.{HeaderField, Known, Unknown, field_single_type, unknown_datum, header_field_text, IsHeaderField, behind_bytes, known}
use Rattle.wire_message.proofs.FieldLaws.{no_pad, no_front, Taken, field_at-takes, field_at-again}

-- ---- the value of a field whose code isn't known

-- such a value, taken apart
record Shape (d : Datum) : Type 0 where
  code : ℕ
  held : Datum
  same : d ≡ unknown_datum code held

shape_of : (d : Datum) → type_of d ≡ field_single_type → Shape d
shape_of (struct (items (num byte code) (items held no_data))) e = record { code = code; held = held; same = refl }
shape_of (struct (items (text string bytes) more)) e = absurd cc
shape_of (struct (items (text object_path bytes) more)) e = absurd cc
shape_of (struct (items (text signature bytes) more)) e = absurd cc
shape_of d e = absurd cc

pub field_type-valid : IsType field_single_type
field_type-valid = record { arrays = omega arith; structs = omega arith; fields = (tt, (tt, (tt, tt))); within = omega arith }

encodes-found : (order : Endian) (c : Cursor) (y : Datum × Cursor) → IsValue 64 order field_single_type c y → Encodes order c.place field_single_type y.0 (encoding order c.place y.0)
encodes-found order c y k = record {
  kind = k.kind;
  valid = record { type = subst IsType (sym k.kind) field_type-valid; well_typed = k.well_typed };
  within = k.within;
  fit = k.fit;
  text = refl;
}

-- ---- what is taken

-- what was taken as a header field
pub record Found (order : Endian) (c : Cursor) (x : HeaderField × Cursor) : Type 0 where
  pub reads : Reads c (header_field_text order c.place x.0) x.1
  pub valid : IsHeaderField order c.place x.0

unknown_at-takes : (order : Endian) (c : Cursor) (x : HeaderField × Cursor) → AreBytes c.rest → unknown_at order c ≡ Some x → Found order c x
unfolding unknown_at header_field_text
unknown_at-takes order c x low e =
    let v = bind_some (datum_at 64 order field_single_type c) _ x e in
    let k : IsValue 64 order field_single_type c v.0 = value_takes 64 order field_single_type c v.0 v.1 low in
    let f = map_some (λ (field : HeaderField). (field, v.0.1)) (unknown_in v.0.0) x v.2 in
    let s : Shape v.0.0 = shape_of v.0.0 k.kind in
    let t = guard_some (nat_lt 9 s.code) (Some (Unknown s.code s.held)) f.0 (sym (ap unknown_in s.same) ∙ f.1) in
    let d : Datum = unknown_datum s.code s.held in
    let reads : Reads c (encoding order c.place d) v.0.1 = subst (λ (z : Datum). Reads c (encoding order c.place z) v.0.1) s.same k.reads in
    let encodes : Encodes order c.place field_single_type d (encoding order c.place d) =
    subst (λ (z : Datum). Encodes order c.place field_single_type z (encoding order c.place z)) s.same (encodes-found order c v.0 k) in
    let found : Found order c (Unknown s.code s.held, v.0.1) = record { reads = reads; valid = (ltb-true 9 s.code t.0, encodes) } in
    let one : Unknown s.code s.held ≡ f.0 = some_is (Unknown s.code s.held) f.0 t.1 in
    subst (λ (y : HeaderField × Cursor). Found order c y) f.2 (subst (λ (z : HeaderField). Found order c (z, v.0.1)) one found)

known-found : (order : Endian) (c : Cursor) (y : Field × Cursor) → Taken order c y → Found order c (Known y.0, y.1)
unfolding header_field_text
known-found order c y t = record { reads = t.reads; valid = t.valid }

or-takes : (order : Endian) (c : Cursor) (x : HeaderField × Cursor) (o : Parse Field) → ((y : Field × Cursor) → o ≡ Some y → Found order c (Known y.0, y.1)) → (unknown_at order c ≡ Some x → Found order c x)
    → known_or o (unknown_at order c) ≡ Some x → Found order c x
or-takes order c x None f u e = u e
or-takes order c x (Some y) f u e = subst (λ (z : HeaderField × Cursor). Found order c z) (some_is (Known y.0, y.1) x e) (f y refl)

pub header_field_at-takes : (order : Endian) (c : Cursor) (x : HeaderField × Cursor) → AreBytes c.rest → header_field_at order c ≡ Some x → Found order c x
unfolding header_field_at
header_field_at-takes order c x low e =
    or-takes order c x (field_at order c) (λ y f. known-found order c y (field_at-takes order c y low f)) (λ u. unknown_at-takes order c x low u) e

-- ---- an unknown field is no known one

code-none : (code : ℕ) → 9 < code → code_of code ≡ None
code-none code h = grind (arith, nat_tests)

no_code : (code : ℕ) (rest : List ℕ) → 9 < code → code_at (code ∷ rest) ≡ None
unfolding code_at
no_code code [] h = refl
no_code code (a ∷ []) h = refl
no_code code (a ∷ b ∷ []) h = refl
no_code code (a ∷ b ∷ c ∷ rest) h = rw (code-none code h) refl

guard_none : {A B : Type 0} (b : Bool) (x : A) (f : A → Option B) → f x ≡ None → ((if b then Some x else None) >>= f) ≡ None
guard_none true x f e = e
guard_none false x f e = refl

bind_none : {A B : Type 0} (o : Option A) (f : A → Option B) → o ≡ None → (o >>= f) ≡ None
bind_none None f e = refl
bind_none (Some x) f e = absurd cc

known-none : (order : Endian) (place code : ℕ) (rest : List ℕ) → 9 < code → known_at order (at place (code ∷ rest)) ≡ None
unfolding known_at
known-none order place code rest h =
    guard_none (nat_le 4 (length (code ∷ rest))) (take 4 (code ∷ rest), at (place + 4) (drop 4 (code ∷ rest))) _ (bind_none (code_at (code ∷ take 3 rest)) _ (no_code code (take 3 rest) h))

-- ---- what is read again

-- the bytes of an unknown field
unknown_laid : (order : Endian) (p code : ℕ) (held : Datum) → code < 256
    → encoding order p (unknown_datum code held) ≡ padding p 8 ++ (code ∷ encoding order (aligned p 8 + 1) held)
unfolding encoding encodings
unknown_laid order p code held h =
    let q : ℕ = aligned p 8 in
    let first : padding q 1 ++ number_text w8 order code ≡ code ∷ [] = no_front q 1 _ (no_pad q) ∙ byte_text order code h in
    ap (λ (l : List ℕ). padding p 8 ++ (l ++ (encoding order (q + length l) held ++ []))) first
    ∙ ap (λ (l : List ℕ). padding p 8 ++ (code ∷ l)) (append-nil (encoding order (q + 1) held))

unknown-known : (order : Endian) (p code : ℕ) (held : Datum) (rest : List ℕ) → 9 < code → code < 256 → field_at order (at p (encoding order p (unknown_datum code held) ++ rest)) ≡ None
unfolding field_at
unknown-known order p code held rest h low =
    let more : List ℕ = encoding order (aligned p 8 + 1) held ++ rest in
    ap (λ (l : List ℕ). align_at 8 (at p (l ++ rest)) >>= known_at order) (unknown_laid order p code held low)
    ∙ ap (λ (l : List ℕ). align_at 8 (at p l) >>= known_at order) (append_assoc (padding p 8) (code ∷ encoding order (aligned p 8 + 1) held) rest)
    ∙ bound_some _ _ _ (align_again 8 p (code ∷ more))
    ∙ known-none order (aligned p 8) code more h

unknown-again : (order : Endian) (p code : ℕ) (held : Datum) (rest : List ℕ) → IsHeaderField order p (Unknown code held)
    → unknown_at order (at p (encoding order p (unknown_datum code held) ++ rest)) ≡ Some (Unknown code held, at (p + length (encoding order p (unknown_datum code held))) rest)
unfolding unknown_at header_field_text
unknown-again order p code held rest h =
    bound_some _ _ _ (value_only order p field_single_type (unknown_datum code held) (encoding order p (unknown_datum code held)) rest h.1)
    ∙ ap (λ (o : Option HeaderField). option_map (λ (field : HeaderField). (field, at (p + length (encoding order p (unknown_datum code held))) rest)) o) (guarded (nat_lt 9 code) (Some (Unknown code held)) (lt-ltb 9 code h.0))

code-below : (order : Endian) (p code : ℕ) (held : Datum) → IsHeaderField order p (Unknown code held) → code < 256
code-below order p code held h = h.1.valid.well_typed.0

pub header_field_at-again : (order : Endian) (p : ℕ) (field : HeaderField) (rest : List ℕ) → IsHeaderField order p field
    → header_field_at order (at p (header_field_text order p field ++ rest)) ≡ Some (field, at (p + length (header_field_text order p field)) rest)
unfolding header_field_at header_field_text
header_field_at-again order p (Known field) rest h =
    ap (λ (o : Parse Field). known_or o (unknown_at order (at p ((padding p 8 ++ field_text order field) ++ rest)))) (field_at-again order field p rest h)
header_field_at-again order p (Unknown code held) rest h =
    ap (λ (o : Parse Field). known_or o (unknown_at order (at p (encoding order p (unknown_datum code held) ++ rest)))) (unknown-known order p code held rest h.0 (code-below order p code held h))
    ∙ unknown-again order p code held rest h

-- a field has at least one byte
pub header_field-some : (order : Endian) (place : ℕ) (field : HeaderField) → IsHeaderField order place field → 0 < length (header_field_text order place field)
unfolding header_field_text field_text
header_field-some order place (Known field) h = omega (arith, length-append (padding place 8) (field_text order field))
header_field-some order place (Unknown code held) h = some_encoding order place (unknown_datum code held) h.1.valid.type.fields

-- ---- step by step

-- behind the padding, a value of `(yv)` is a byte and a variant
byte_read : (order : Endian) (q b : ℕ) (more : List ℕ) → b < 256 → datum_at 63 order (basic basics.Byte) (at q (b ∷ more)) ≡ Some (num byte b, at (q + 1) more)
unfolding datum_at encoding
byte_read order q b more low =
    let first : padding q 1 ++ number_text w8 order b ≡ b ∷ [] = no_front q 1 _ (no_pad q) ∙ byte_text order b low in
    ap (made (num byte)) (subst (λ (l : List ℕ). num_at byte order (at q (l ++ more)) ≡ Some (b, at (q + length l) more)) first (num_again byte order b q more low))

held_read : (order : Endian) (b : ℕ) (o : Parse Datum)
    → made (λ ds. struct (data_of ds)) (made (λ ds. num byte b ∷ ds) (o >>= λ x. made (λ ds. x.0 ∷ ds) (Some ([], x.1)))) ≡ option_map (λ x. (unknown_datum b x.0, x.1)) o
held_read order b None = refl
held_read order b (Some x) = refl

struct_read : (order : Endian) (c p : Cursor) (b : ℕ) (more : List ℕ) → align_at 8 c ≡ Some p → p.rest ≡ b ∷ more → b < 256
    → datum_at 64 order field_single_type c ≡ option_map (λ x. (unknown_datum b x.0, x.1)) (datum_at 63 order any (at (p.place + 1) more))
unfolding datum_at struct_at fields_at
struct_read order c p b more a e low =
    let types = single_types (basic basics.Byte) (single_types any no_single_types) in
    let first : datum_at 63 order (basic basics.Byte) p ≡ Some (num byte b, at (p.place + 1) more) =
    ap (λ (l : List ℕ). datum_at 63 order (basic basics.Byte) (at p.place l)) e ∙ byte_read order p.place b more low in
    ap (λ (o : Option Cursor). made (λ ds. struct (data_of ds)) (o >>= fields_at (datum_at 63 order) types)) a
    ∙ ap (λ (o : Parse Datum). made (λ ds. struct (data_of ds)) (o >>= λ x. made (λ ds. x.0 ∷ ds) (fields_at (datum_at 63 order) (single_types any no_single_types) x.1))) first
    ∙ held_read order b (datum_at 63 order any (at (p.place + 1) more))

nothing_read : (order : Endian) (q : ℕ) → num_at byte order (at q []) ≡ None
unfolding num_at align_at number_at
nothing_read order q =
    ap (λ (k : ℕ). zeros_at k (at q []) >>= λ p. made (number w8 order) (bytes_at 1 p) >>= λ x. if nat_lt x.0 (bound byte) then Some x else None) (no_pad q)

empty_read : (order : Endian) (c p : Cursor) → align_at 8 c ≡ Some p → p.rest ≡ [] → datum_at 64 order field_single_type c ≡ None
unfolding datum_at struct_at fields_at
empty_read order c p a e =
    let types = single_types (basic basics.Byte) (single_types any no_single_types) in
    ap (λ (o : Option Cursor). made (λ ds. struct (data_of ds)) (o >>= fields_at (datum_at 63 order) types)) a
    ∙ ap (λ (l : List ℕ). made (λ ds. struct (data_of ds)) (datum_at 63 order (basic basics.Byte) (at p.place l) >>= λ x. made (λ ds. x.0 ∷ ds) (fields_at (datum_at 63 order) (single_types any no_single_types) x.1))) e
    ∙ ap (λ (o : Parse ℕ). made (λ ds. struct (data_of ds)) (made (num byte) o >>= λ x. made (λ ds. x.0 ∷ ds) (fields_at (datum_at 63 order) (single_types any no_single_types) x.1))) (nothing_read order p.place)

unknown_by : (b : ℕ) (o : Parse Datum) → b ≤ 9 → (option_map (λ x. (unknown_datum b x.0, x.1)) o >>= unknown_field) ≡ None
unknown_by b None h = refl
unknown_by b (Some x) h = ap (λ (t : Bool). option_map (λ (field : HeaderField). (field, x.1)) (if t then Some (Unknown b x.0) else None)) (le-ltb 9 b h)

-- a code that is known, or none
unknown-low : (order : Endian) (c : Cursor) (q : ℕ) (l : List ℕ) → align_at 8 c ≡ Some (at q l) → slice_index l 0 ≤ 9 → unknown_at order c ≡ None
unfolding unknown_at
unknown-low order c q [] a h = ap (λ (o : Parse Datum). o >>= unknown_field) (empty_read order c (at q []) a refl)
unknown-low order c q (b ∷ more) a h =
    ap (λ (o : Parse Datum). o >>= unknown_field) (struct_read order c (at q (b ∷ more)) b more a refl (omega arith)) ∙ unknown_by b (datum_at 63 order any (at (q + 1) more)) h

-- where the padding isn't zeros, there is no field
pub next-unaligned : (order : Endian) (c : Cursor) → align_at 8 c ≡ None → header_field_at order c ≡ None
unfolding header_field_at field_at unknown_at datum_at struct_at
next-unaligned order c a =
    let types = single_types (basic basics.Byte) (single_types any no_single_types) in
    ap (λ (o : Option Cursor). known_or (o >>= known_at order) (made (λ ds. struct (data_of ds)) (o >>= fields_at (datum_at 63 order) types) >>= unknown_field)) a

by_known : (o : Parse Field) → made known (known_or o None) ≡ made Some o
by_known None = refl
by_known (Some x) = refl

-- a code that is known, or none: the field is a known one
pub next-known : (order : Endian) (c p : Cursor) → align_at 8 c ≡ Some p → slice_index p.rest 0 ≤ 9 → made known (header_field_at order c) ≡ made Some (known_at order p)
unfolding header_field_at field_at
next-known order c p a h =
    ap (λ (u : Parse HeaderField). made known (known_or (align_at 8 c >>= known_at order) u)) (unknown-low order c p.place p.rest a h)
    ∙ ap (λ (o : Option Cursor). made known (known_or (o >>= known_at order) None)) a
    ∙ by_known (known_at order p)

by_unknown : (b : ℕ) (o : Parse Datum) → 9 < b
    → made known (option_map (λ x. (unknown_datum b x.0, x.1)) o >>= unknown_field) ≡ option_map (λ k. (None, k)) (behind (option_map (λ x. (unknown_datum b x.0, x.1)) o))
by_unknown b None h = refl
by_unknown b (Some x) h = ap (λ (t : Bool). made known (option_map (λ (field : HeaderField). (field, x.1)) (if t then Some (Unknown b x.0) else None))) (lt-ltb 9 b h)

ignored_by : (order : Endian) (c : Cursor) (q : ℕ) (l : List ℕ) → align_at 8 c ≡ Some (at q l) → 9 < slice_index l 0 → slice_index l 0 < 256
    → made known (header_field_at order c) ≡ option_map (λ k. (None, k)) (behind (datum_at 64 order field_single_type c))
unfolding header_field_at field_at unknown_at
ignored_by order c q [] a h low = absurd (omega arith)
ignored_by order c q (b ∷ more) a h low =
    let read = struct_read order c (at q (b ∷ more)) b more a refl low in
    let none : (align_at 8 c >>= known_at order) ≡ None = bound_some _ _ _ a ∙ known-none order q b more h in
    ap (λ (o : Parse Field). made known (known_or o (datum_at 64 order field_single_type c >>= unknown_field))) none
    ∙ ap (λ (o : Parse Datum). made known (o >>= unknown_field)) read
    ∙ by_unknown b (datum_at 63 order any (at (q + 1) more)) h
    ∙ ap (λ (o : Parse Datum). option_map (λ k. (None, k)) (behind o)) (sym read)

-- another code: the field is ignored
pub next-ignored : (order : Endian) (c p : Cursor) → align_at 8 c ≡ Some p → 9 < slice_index p.rest 0 → slice_index p.rest 0 < 256
    → made known (header_field_at order c) ≡ option_map (λ k. (None, k)) (behind (datum_at 64 order field_single_type c))
next-ignored order c p a h low = ignored_by order c p.place p.rest a h low

-- ---- how long a field is

pub field_type-text : TypeText field_single_type (40 ∷ 121 ∷ 118 ∷ 41 ∷ [])
field_type-text = record { valid = field_type-valid; text = refl }

pub length-found : (order : Endian) (place n : ℕ) (bytes : List ℕ) → n ≤ length bytes → (d : Datum) × Encodes order place field_single_type d (take n bytes)
    → behind (datum_at 64 order field_single_type (at place bytes)) ≡ Some (behind_bytes n place bytes)
length-found order place n bytes h e =
    let read = value_only order place field_single_type e.0 (take n bytes) (drop n bytes) e.1 in
    ap (λ (l : List ℕ). behind (datum_at 64 order field_single_type (at place l))) (sym (take-append-drop n bytes)) ∙ ap behind read
    ∙ ap (λ (k : ℕ). Some (at (place + k) (drop n bytes))) (length-take-le n bytes h)

nothing-by : (order : Endian) (place : ℕ) (bytes : List ℕ) (o : Parse Datum) → o ≡ datum_at 64 order field_single_type (at place bytes) → AreBytes bytes
    → EncodeNothing order place field_single_type bytes → behind o ≡ None
nothing-by order place bytes None e low h = refl
nothing-by order place bytes (Some x) e low h =
    let k : IsValue 64 order field_single_type (at place bytes) x = value_takes 64 order field_single_type (at place bytes) x (sym e) low in
    absurd (h x.0 (encoding order place x.0) x.1.rest (encodes-found order (at place bytes) x k) k.reads.text_is)

pub length-nothing : (order : Endian) (place : ℕ) (bytes : List ℕ) → AreBytes bytes → EncodeNothing order place field_single_type bytes
    → behind (datum_at 64 order field_single_type (at place bytes)) ≡ None
length-nothing order place bytes low h = nothing-by order place bytes (datum_at 64 order field_single_type (at place bytes)) refl low h

-- what a search for the end of the field found
pub length-by : (order : Endian) (place : ℕ) (bytes : List ℕ) (found : Option ℕ) → AreBytes bytes → IfSome found (λ n. n ≤ length bytes)
    → IfSome found (λ n. (d : Datum) × Encodes order place field_single_type d (take n bytes))
    → IfNone found ((t : SingleType) → StandsFirst t (40 ∷ 121 ∷ 118 ∷ 41 ∷ []) → EncodeNothing order place t bytes)
    → Finds (λ n. behind_bytes n place bytes) found (behind (datum_at 64 order field_single_type (at place bytes)))
length-by order place bytes None low within some none = length-nothing order place bytes low (none field_single_type ([], refl))
length-by order place bytes (Some n) low within some none = length-found order place n bytes within some

-- so many bytes were gone over
pub bytes-behind : (n : ℕ) (c : Cursor) (y : List ℕ × Cursor) → bytes_at n c ≡ Some y → behind_bytes n c.place c.rest ≡ y.1
bytes-behind n c y e =
    let g = guard_some (nat_le n (length c.rest)) (Some (take n c.rest, at (c.place + n) (drop n c.rest))) y e in
    ap (λ (z : List ℕ × Cursor). z.1) (some_is (take n c.rest, at (c.place + n) (drop n c.rest)) y g.1)
