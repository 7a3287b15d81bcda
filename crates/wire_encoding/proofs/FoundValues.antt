-- A value that is read stands there: the bytes that were read are its encoding, and it is within the limits.
use Rattle.std.proofs.Common.{◌≡◌, ◌↔◌, ℕ, zero, suc, ◌+◌, ◌<◌, ◌≤◌, true, nat_le, nat_lt, if◌then◌else◌, List, [], ◌∷◌, ◌++◌, length, Some, None, is_some, refl, sym, ◌∙◌, ap, subst, arith, append-nil}
use Rattle.std.specs.List.{list_all}
use Rattle.std.specs.Int.{w32, w8, byte_len}
use Rattle.std.specs.Str.{is_utf8}
use Rattle.std.proofs.lemmas.Str.{IsUtf8-from_is_utf8, is_utf8-from_IsUtf8}
use Rattle.std.proofs.lemmas.Bool.{leb-true, ltb-true, lt-ltb}
use Rattle.std.proofs.lemmas.List.{length-replicate}
use Rattle.std.proofs.lemmas.List.Sums.{AllPass-from_list_all, list_all-from_AllPass}
use Rattle.wire_number.specs.declared.endian.Endian.{Endian}
use Rattle.wire_number.specs.Number.{number_text, pad, padding, counted_text}
use Rattle.wire_signature.specs.declared.basic.BasicType.{BasicType}
use Rattle.wire_signature.specs.declared.basic.BasicType.TheVariants as basics
use Rattle.wire_signature.specs.SingleType.{SingleType, basic, variant as any, array as array_of, dict as dict_of, struct as struct_of, SingleTypes, no_single_types, single_types, alignment, basic_alignment, IsType, TypeText, type_text}
use Rattle.wire_signature.specs.Parsing.{type_in, types_in}
use Rattle.wire_signature.proofs.Exact.{is_some-types_in, type_in-takes}
use Rattle.wire_tree.specs.Datum.{FixedType, byte, StringLike, string, object_path, signature, Datum, num, text, array, struct, variant, bound, num_type, text_type, data_of, entry_type, type_of, types_of, IsTextOf, WellTyped, AreWellTyped, AreElements}
use Rattle.wire_encoding.specs.Encoding.{width_of, length_width, aligned, first_place, array_form, encoding, encodings, depth, depths, ArraysFit, AllFit}
use Rattle.wire_number.specs.Reading.{Cursor, Parse, made, bytes_at, align_at, number_at, counted_at}
use Rattle.wire_encoding.specs.Reading.{num_at, is_text_of, text_at, num_value_at, text_value_at, basic_at, none_at, more_at, many_at, elements_at, array_at, variant_at, fields_at, struct_at, value_at}
use Rattle.wire_number.proofs.Steps.{at, AreBytes, Reads, reads_then, Takes, IsNumber, IsShort, limit, bind_some, map_some, both_true, guard_some, some_is, bytes_take, align_takes, number_takes, length-number_text, IsCounted, counted_takes}

-- a number of the type is one of its width
pub num_width : (n : FixedType) → IsShort (width_of n) × (bound n ≤ limit (width_of n))
num_width byte = (tt, omega arith)
num_width n = (tt, omega arith)

short_text : (t : StringLike) → IsShort (length_width t)
short_text string = tt
short_text t = tt

-- a value of a type, with at most so many containers open at once, that stands there
pub record IsValue (room : ℕ) (order : Endian) (t : SingleType) (c : Cursor) (y : Datum × Cursor) : Type 0 where
  pub reads : Reads c (encoding order c.place y.0) y.1
  pub kind : type_of y.0 ≡ t
  pub well_typed : WellTyped y.0
  pub within : depth y.0 ≤ room
  pub fit : ArraysFit order c.place y.0

-- what was read and was made into a value
pub made_as : {A : Type 0} (f : A → Datum) (found : Parse A) (y : Datum × Cursor) (P : Datum × Cursor → Type 0) → made f found ≡ Some y
    → ((x : A × Cursor) → found ≡ Some x → P (f x.0, x.1)) → P y
made_as f found y P e g = let x = map_some (λ x. (f x.0, x.1)) found y e in subst P x.2 (g x.0 x.1)

pub num_takes : (room : ℕ) (n : FixedType) (order : Endian) (c : Cursor) (y : Datum × Cursor) → num_value_at n order c ≡ Some y → AreBytes c.rest
    → IsValue room order (basic (num_type n)) c y
unfolding num_at encoding ArraysFit
num_takes room n order c y e low =
    made_as (num n) (num_at n order c) y (IsValue room order (basic (num_type n)) c) e
    (λ z f.
    let p = bind_some (align_at (basic_alignment (num_type n)) c) _ z f in
    let x = bind_some (number_at (width_of n) order p.0) (λ x. if nat_lt x.0 (bound n) then Some x else None) z p.2 in
    let g = guard_some (nat_lt x.0.0 (bound n)) (Some x.0) z x.2 in
    let front : Reads c (padding c.place (basic_alignment (num_type n))) p.0 = align_takes (basic_alignment (num_type n)) c p.0 p.1 low in
    let k : IsNumber (width_of n) order p.0 x.0 = number_takes (width_of n) order p.0 x.0 (num_width n).0 x.1 front.bytes in
    subst (λ (z : ℕ × Cursor). IsValue room order (basic (num_type n)) c (num n z.0, z.1)) (some_is x.0 z g.1)
    (record { reads = reads_then c p.0 x.0.1 _ _ front k.reads; kind = refl; well_typed = ltb-true x.0.0 (bound n) g.0; within = omega arith; fit = tt }))

-- a text begins on the boundary of its length
pub text_boundary : (t : StringLike) → byte_len (length_width t) ≡ basic_alignment (text_type t)
text_boundary string = refl
text_boundary t = refl

-- a text as the test has it, no longer than its length can say
pub text_is : (t : StringLike) (bs : List ℕ) → ((is_text_of t bs ≡ true) × (length bs < limit (length_width t))) ↔ IsTextOf t bs
text_is string bs = (
  λ h. let two = both_true (is_utf8 bs) (list_all (λ b. nat_lt 0 b) bs) h.0 in
      (IsUtf8-from_is_utf8 bs two.0, λ k d i. ltb-true 0 _ (AllPass-from_list_all (λ b. nat_lt 0 b) bs two.1 k d i), omega arith),
  λ h. let one = is_utf8-from_IsUtf8 bs h.0 in
      let two : list_all (λ b. nat_lt 0 b) bs ≡ true = list_all-from_AllPass (λ b. nat_lt 0 b) bs (λ k d i. lt-ltb 0 _ (h.1 k d i)) in (cc, omega (arith, h.2)),
)
text_is object_path bs = (λ h. (h.0, omega arith), λ h. (h.0, omega (arith, h.1)))
text_is signature bs =
    let k = is_some-types_in (is_some (types_in bs)) bs refl in
    (λ h. k.0 h.0, λ h. (k.1 h, omega (arith, ap length h.1.text, h.1.valid.within)))

pub text_takes : (room : ℕ) (t : StringLike) (order : Endian) (c : Cursor) (y : Datum × Cursor) → text_value_at t order c ≡ Some y → AreBytes c.rest
    → IsValue room order (basic (text_type t)) c y
unfolding text_at encoding ArraysFit
text_takes room t order c y e low =
    made_as (text t) (text_at t order c) y (IsValue room order (basic (text_type t)) c) e
    (λ z f.
    let x = bind_some (counted_at (length_width t) order c) _ z f in
    let g = guard_some (is_text_of t x.0.0) (Some x.0) z x.2 in
    let k : IsCounted (length_width t) order c x.0 = counted_takes (length_width t) order c x.0 (short_text t) x.1 low in
    subst (λ (z : List ℕ × Cursor). IsValue room order (basic (text_type t)) c (text t z.0, z.1)) (some_is x.0 z g.1)
    (record {
      reads = subst (λ (n : ℕ). Reads c (padding c.place n ++ counted_text (length_width t) order x.0.0) x.0.1) (text_boundary t) k.reads;
      kind = refl;
      well_typed = (text_is t x.0.0).0 (g.0, k.below);
      within = omega arith;
      fit = tt;
    }))

-- what a reader of values gives
abbrev pub IsReader : ℕ → Endian → (SingleType → Cursor → Parse Datum) → Type 0
IsReader room order read = (t : SingleType) (c : Cursor) (y : Datum × Cursor) → read t c ≡ Some y → AreBytes c.rest → IsValue room order t c y

-- ---- basic types

pub basic_takes : (room : ℕ) (order : Endian) (b : BasicType) (c : Cursor) (y : Datum × Cursor) → basic_at b order c ≡ Some y → AreBytes c.rest
    → IsValue room order (basic b) c y
basic_takes room order basics.String c y e low = text_takes room string order c y e low
basic_takes room order basics.ObjectPath c y e low = text_takes room object_path order c y e low
basic_takes room order basics.Signature c y e low = text_takes room signature order c y e low
basic_takes room order b c y e low = num_takes room _ order c y e low

-- ---- arrays

-- the bytes of an array's elements, between its length and what follows
pub record AreTheElements (order : Endian) (boundary : ℕ) (c : Cursor) (x : Cursor × Cursor) : Type 0 where
  pub start : x.0.place ≡ first_place c.place boundary
  pub reads : Reads c (array_form order c.place boundary x.0.rest) x.1
  pub bytes : AreBytes x.0.rest
  pub short : length x.0.rest ≤ 67108864

pub elements_take : (order : Endian) (boundary : ℕ) (c : Cursor) (x : Cursor × Cursor) → elements_at order boundary c ≡ Some x → AreBytes c.rest
    → AreTheElements order boundary c x
unfolding elements_at
elements_take order boundary c y e low =
    let p = bind_some (align_at 4 c) _ y e in
    let n = bind_some (number_at w32 order p.0) _ y p.2 in
    let f = bind_some (if nat_le n.0.0 67108864 then align_at boundary n.0.1 else None) _ y n.2 in
    let x = bind_some (bytes_at n.0.0 f.0) (λ x. Some (at f.0.place x.0, x.1)) y f.2 in
    let g = guard_some (nat_le n.0.0 67108864) (align_at boundary n.0.1) f.0 f.1 in
    let front : Reads c (padding c.place 4) p.0 = align_takes 4 c p.0 p.1 low in
    let k : IsNumber w32 order p.0 n.0 = number_takes w32 order p.0 n.0 tt n.1 front.bytes in
    let pads : Reads n.0.1 (padding n.0.1.place boundary) f.0 = align_takes boundary n.0.1 f.0 g.1 k.reads.bytes in
    let b : Takes n.0.0 f.0 x.0.0 x.0.1 = bytes_take n.0.0 f.0 x.0 x.1 pads.bytes in
    let before : n.0.1.place ≡ aligned c.place 4 + 4 =
    omega (arith, front.place_is, k.reads.place_is, length-replicate {A = ℕ} (pad c.place 4) 0, length-number_text w32 order n.0.0) in
    let digits : Reads p.0 (number_text w32 order (length x.0.0)) n.0.1 = subst (λ (m : ℕ). Reads p.0 (number_text w32 order m) n.0.1) (sym b.long) k.reads in
    let gap : Reads n.0.1 (padding (aligned c.place 4 + 4) boundary) f.0 = subst (λ (m : ℕ). Reads n.0.1 (padding m boundary) f.0) before pads in
    let start : f.0.place ≡ first_place c.place boundary =
    pads.place_is ∙ ap (λ k. n.0.1.place + k) (length-replicate (pad n.0.1.place boundary) 0) ∙ ap (λ m. aligned m boundary) before in
    let whole : Reads c (array_form order c.place boundary x.0.0) x.0.1 =
    reads_then c p.0 x.0.1 _ _ front (reads_then p.0 n.0.1 x.0.1 _ _ digits (reads_then n.0.1 f.0 x.0.1 _ _ gap b.reads)) in
    subst (λ (y : Cursor × Cursor). AreTheElements order boundary c y) (some_is (at f.0.place x.0.0, x.0.1) y x.2)
    (record { start = start; reads = whole; bytes = b.low; short = omega (arith, b.long, leb-true n.0.0 67108864 g.0) })

-- values that stand there one behind the other, with at most so many containers open at once in each
pub record AreValues (room : ℕ) (order : Endian) (c : Cursor) (y : List Datum × Cursor) : Type 0 where
  pub reads : Reads c (encodings order c.place (data_of y.0)) y.1
  pub well_typed : AreWellTyped (data_of y.0)
  pub within : depths (data_of y.0) ≤ room
  pub fit : AllFit order c.place (data_of y.0)

no_values : (room : ℕ) (order : Endian) (c : Cursor) → AreBytes c.rest → AreValues room order c ([], c)
unfolding encodings AllFit
no_values room order c low =
    record { reads = record { text_is = refl; place_is = omega arith; bytes = low }; well_typed = tt; within = omega arith; fit = tt }

more_values : (room : ℕ) (order : Endian) (t : SingleType) (c : Cursor) (x : Datum × Cursor) (y : List Datum × Cursor)
    → IsValue room order t c x → AreValues room order x.1 y → AreValues room order c (x.0 ∷ y.0, y.1)
unfolding encodings AllFit
more_values room order t c x y one others = record {
  reads = reads_then c x.1 y.1 _ _ one.reads
      (subst (λ (p : ℕ). Reads x.1 (encodings order p (data_of y.0)) y.1) one.reads.place_is others.reads);
  well_typed = (one.well_typed, others.well_typed);
  within = (let i : depth x.0 ≤ room = one.within in let j : depths (data_of y.0) ≤ room = others.within in omega arith);
  fit = (one.fit, subst (λ (p : ℕ). AllFit order p (data_of y.0)) one.reads.place_is others.fit);
}

none_is : {A : Type 0} (bs : List ℕ) (xs : List A) → none_at bs ≡ Some xs → (bs ≡ []) × ([] ≡ xs)
none_is [] xs e = (refl, some_is [] xs e)
none_is (b ∷ bs) xs e = absurd (cc)

-- What holds of nothing where no bytes are left, and of one more where it holds of the others, holds of what is read.
pub many_hold : {A : Type 0} (P : Cursor → List A → Type 0) (read : Cursor → Parse A)
    → ((c : Cursor) → c.rest ≡ [] → P c [])
    → ((c : Cursor) (x : A × Cursor) (xs : List A) → read c ≡ Some x → AreBytes c.rest → P x.1 xs → P c (x.0 ∷ xs))
    → ((c : Cursor) (x : A × Cursor) → read c ≡ Some x → AreBytes c.rest → AreBytes x.1.rest)
    → (n : ℕ) (c : Cursor) (xs : List A) → many_at n read c ≡ Some xs → AreBytes c.rest → P c xs
unfolding many_at
many_hold {A} P read none more bytes zero c xs e low =
    let k = none_is c.rest xs e in subst (λ (xs : List A). P c xs) k.1 (none c k.0)
many_hold {A} P read none more bytes (suc n) c xs e low = by (many_hold P read none more bytes n) c.rest refl e where
  by : ((c : Cursor) (xs : List A) → many_at n read c ≡ Some xs → AreBytes c.rest → P c xs) → (bs : List ℕ) → c.rest ≡ bs
      → more_at (many_at n read) read c bs ≡ Some xs → P c xs
  by others [] r e = subst (λ (xs : List A). P c xs) (some_is [] xs e) (none c r)
  by others (b ∷ bs) r e =
      let x = bind_some (read c) _ xs e in
      let y = bind_some (many_at n read x.0.1) (λ ys. Some (x.0.0 ∷ ys)) xs x.2 in
      subst (λ (xs : List A). P c xs) (some_is (x.0.0 ∷ y.0) xs y.2) (more c x.0 y.0 x.1 low (others x.0.1 y.0 y.1 (bytes c x.0 x.1 low)))

-- elements of a type that fill the bytes
record AreItems (room : ℕ) (order : Endian) (t : SingleType) (c : Cursor) (ds : List Datum) : Type 0 where
  pub end : Cursor
  pub values : AreValues room order c (ds, end)
  pub whole : end.rest ≡ []
  pub types : AreElements t (data_of ds)

items_take : (room : ℕ) (order : Endian) (t : SingleType) (read : SingleType → Cursor → Parse Datum) → IsReader room order read
    → (n : ℕ) (c : Cursor) (ds : List Datum) → many_at n (read t) c ≡ Some ds → AreBytes c.rest → AreItems room order t c ds
items_take room order t read reads n c ds e low =
    many_hold (AreItems room order t) (read t)
    (λ c e. record { end = c; values = no_values room order c (subst AreBytes (sym e) tt); whole = e; types = tt })
    (λ c x ds f l others. let one : IsValue room order t c x = reads t c x f l in record {
      end = others.end;
      values = more_values room order t c x (ds, others.end) one others.values;
      whole = others.whole;
      types = ((one.well_typed, one.kind), others.types);
    })
    (λ c x f l. (reads t c x f l).reads.bytes)
    n c ds e low

-- an array of what was read as one
array_takes : (room : ℕ) (order : Endian) (t : SingleType) (read : SingleType → Cursor → Parse Datum) → IsReader room order read
    → (c : Cursor) (z : List Datum × Cursor) → array_at (alignment t) (read t) order c ≡ Some z → AreBytes c.rest
    → IsValue (suc room) order (array_of t) c (array t (data_of z.0), z.1)
unfolding array_at encoding ArraysFit
array_takes room order t read reads c z f low =
    let x = bind_some (elements_at order (alignment t) c) _ z f in
    let xs = bind_some (many_at (length x.0.0.rest) (read t) x.0.0) (λ xs. Some (xs, x.0.1)) z x.2 in
    let k : AreTheElements order (alignment t) c x.0 = elements_take order (alignment t) c x.0 x.1 low in
    let i : AreItems room order t x.0.0 xs.0 = items_take room order t read reads (length x.0.0.rest) x.0.0 xs.0 xs.1 k.bytes in
    let body : x.0.0.rest ≡ encodings order (first_place c.place (alignment t)) (data_of xs.0) =
    i.values.reads.text_is ∙ ap (λ r. encodings order x.0.0.place (data_of xs.0) ++ r) i.whole ∙ append-nil (encodings order x.0.0.place (data_of xs.0))
    ∙ ap (λ p. encodings order p (data_of xs.0)) k.start in
    subst (λ (z : List Datum × Cursor). IsValue (suc room) order (array_of t) c (array t (data_of z.0), z.1)) (some_is (xs.0, x.0.1) z xs.2)
    (record {
      reads = subst (λ (r : List ℕ). Reads c (array_form order c.place (alignment t) r) x.0.1) body k.reads;
      kind = refl;
      well_typed = i.types;
      within = (let j : depths (data_of xs.0) ≤ room = i.values.within in omega arith);
      fit = (subst (λ (r : List ℕ). length r ≤ 67108864) body k.short, subst (λ (p : ℕ). AllFit order p (data_of xs.0)) k.start i.values.fit);
    })

-- ---- structs

fields_take : (room : ℕ) (order : Endian) (read : SingleType → Cursor → Parse Datum) → IsReader room order read
    → (ts : SingleTypes) (c : Cursor) (y : List Datum × Cursor) → fields_at read ts c ≡ Some y → AreBytes c.rest → AreValues room order c y × (types_of (data_of y.0) ≡ ts)
unfolding fields_at
fields_take room order read reads no_single_types c y e low =
    subst (λ (y : List Datum × Cursor). AreValues room order c y × (types_of (data_of y.0) ≡ no_single_types)) (some_is ([], c) y e) (no_values room order c low, refl)
fields_take room order read reads (single_types t ts) c y e low =
    let x = bind_some (read t c) _ y e in
    let z = map_some (λ z. (x.0.0 ∷ z.0, z.1)) (fields_at read ts x.0.1) y x.2 in
    let k : IsValue room order t c x.0 = reads t c x.0 x.1 low in
    let others = fields_take room order read reads ts x.0.1 z.0 z.1 k.reads.bytes in
    subst (λ (y : List Datum × Cursor). AreValues room order c y × (types_of (data_of y.0) ≡ single_types t ts)) z.2
    (more_values room order t c x.0 z.0 k others.0, ap (λ u. single_types u (types_of (data_of z.0.0))) k.kind ∙ ap (single_types t) others.1)

struct_takes : (room : ℕ) (order : Endian) (read : SingleType → Cursor → Parse Datum) → IsReader room order read
    → (ts : SingleTypes) (c : Cursor) (z : List Datum × Cursor) → struct_at read ts c ≡ Some z → AreBytes c.rest
    → IsValue (suc room) order (struct_of ts) c (struct (data_of z.0), z.1)
unfolding struct_at encoding ArraysFit
struct_takes room order read reads ts c z f low =
    let p = bind_some (align_at 8 c) (fields_at read ts) z f in
    let pads : Reads c (padding c.place 8) p.0 = align_takes 8 c p.0 p.1 low in
    let k = fields_take room order read reads ts p.0 z p.2 pads.bytes in
    let values : AreValues room order p.0 z = k.0 in
    let start : p.0.place ≡ aligned c.place 8 = pads.place_is ∙ ap (λ n. c.place + n) (length-replicate (pad c.place 8) 0) in
    record {
      reads = reads_then c p.0 z.1 _ _ pads (subst (λ (q : ℕ). Reads p.0 (encodings order q (data_of z.0)) z.1) start values.reads);
      kind = ap struct_of k.1;
      well_typed = values.well_typed;
      within = (let j : depths (data_of z.0) ≤ room = values.within in omega arith);
      fit = subst (λ (q : ℕ). AllFit order q (data_of z.0)) start values.fit;
    }

-- ---- variants

pub pad_one : (p : ℕ) → pad p 1 ≡ 0
pad_one p = omega arith

variant_value : (room : ℕ) (order : Endian) (read : SingleType → Cursor → Parse Datum) → IsReader room order read
    → (c : Cursor) (y : Datum × Cursor) → variant_at read order c ≡ Some y → AreBytes c.rest → IsValue (suc room) order any c y
unfolding variant_at encoding ArraysFit
variant_value room order read reads c y e low =
    let s = bind_some (counted_at w8 order c) _ y e in
    let t = bind_some (type_in s.0.0) (λ t. made variant (read t s.0.1)) y s.2 in
    let k : IsCounted w8 order c s.0 = counted_takes w8 order c s.0 tt s.1 low in
    let encoded : TypeText t.0 s.0.0 = type_in-takes s.0.0 t.0 t.1 in
    made_as variant (read t.0 s.0.1) y (IsValue (suc room) order any c) t.2
    (λ x f.
    let v : IsValue room order t.0 s.0.1 x = reads t.0 s.0.1 x f k.reads.bytes in
    let d : Datum = x.0 in
    let type_is : s.0.0 ≡ type_text (type_of d) = encoded.text ∙ ap type_text (sym v.kind) in
    let sign = rw (type_is, pad_one c.place) at k.reads in
    record {
      reads = reads_then c s.0.1 x.1 _ _ sign (subst (λ (q : ℕ). Reads s.0.1 (encoding order q d) x.1) sign.place_is v.reads);
      kind = refl;
      well_typed = (v.well_typed, subst IsType (sym v.kind) encoded.valid);
      within = (let j : depth d ≤ room = v.within in omega arith);
      fit = subst (λ (q : ℕ). ArraysFit order q d) sign.place_is v.fit;
    })

-- ---- all values

pub value_takes : (room : ℕ) (order : Endian) → IsReader room order (value_at room order)
unfolding value_at encoding ArraysFit
value_takes zero order (basic b) c y e low = basic_takes 0 order b c y e low
value_takes zero order t c y e low = absurd (cc)
value_takes (suc room) order (basic b) c y e low = basic_takes (suc room) order b c y e low
value_takes (suc room) order any c y e low = variant_value room order (value_at room order) (value_takes room order) c y e low
value_takes (suc room) order (array_of t) c y e low =
    made_as _ _ y (IsValue _ order _ c) e (λ z f. array_takes room order t (value_at room order) (value_takes room order) c z f low)
-- a dict stands there as an array of its entries does
value_takes (suc room) order (dict_of k v) c y e low =
    made_as _ _ y (IsValue _ order _ c) e
    (λ z f. let h = array_takes room order (entry_type k v) (value_at room order) (value_takes room order) c z f low in
    record { reads = h.reads; kind = refl; well_typed = h.well_typed; within = h.within; fit = h.fit })
value_takes (suc room) order (struct_of ts) c y e low =
    made_as _ _ y (IsValue _ order _ c) e (λ z f. struct_takes room order (value_at room order) (value_takes room order) ts c z f low)
