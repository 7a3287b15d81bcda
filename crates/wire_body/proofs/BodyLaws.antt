-- The bytes and the depths of a body's values.
use Rattle.std.proofs.Common.{◌≡◌, ℕ, zero, suc, ◌+◌, ◌%◌, ◌<◌, ◌≤◌, None, Result, Ok, Err, List, [], ◌∷◌, ◌++◌, length, get_or, take, drop, drop-cons, add-one, sym, ◌∙◌, ap, subst, arith, Bool, true, false, ◌⊎◌, inl, inr}
use Rattle.std.proofs.lemmas.Bool.{cases_lt}
use Rattle.std.proofs.lemmas.List.{drop_all, take_at}
use Rattle.wire_number.specs.declared.endian.Endian.{Endian}
use Rattle.wire_tree.specs.Datum.{Datum, data_of}
use Rattle.wire_encoding.specs.Encoding.{encodings, depth, depths, AllFit}
use Rattle.wire_codec.specs.Encoder.{EncoderView}
use Rattle.wire_codec.specs.Writing.{Refused, Writes, WritesValue, WritesAll, AreNotEncoded}
use Rattle.wire_codec.specs.declared.error.EncodeError.{EncodeError}
use Rattle.wire_codec.specs.declared.error.EncodeError.TheVariants.{Variant, ExcessData, Memory}
use Rattle.wire_codec.proofs.Writes.{Writing, same_text, rest_written, first_refused, none_written}
use Rattle.wire_codec.proofs.EncodeLaws.{around}
use Rattle.wire_encoding.proofs.Shift.{Alike, encodings_alike, all_alike}

-- ---- depths

pub depth_value : (ds : List Datum) (i : ℕ) (d : Datum) → i < length ds → d ≡ get_or ds i d → depth d ≤ depths (data_of ds)
depth_value [] i d h e = absurd (omega arith)
depth_value (x ∷ xs) zero d h e = omega (arith, ap depth e)
depth_value (x ∷ xs) (suc i) d h e = let k : depth d ≤ depths (data_of xs) = depth_value xs i d (omega arith) e in omega arith

pub depth_more : (ds : List Datum) (i : ℕ) (d : Datum) → i < length ds → d ≡ get_or ds i d → depths (data_of (take i ds)) ≤ 64 → depth d ≤ 64
    → depths (data_of (take (suc i) ds)) ≤ 64
depth_more [] i d h e k l = absurd (omega arith)
depth_more (x ∷ xs) zero d h e k l = omega (arith, ap depth e)
depth_more (x ∷ xs) (suc i) d h e k l =
    let m : depths (data_of (take (suc i) xs)) ≤ 64 = depth_more xs i d (omega arith) e (omega arith) l in omega arith

-- ---- bytes

next_value : (ds : List Datum) (i : ℕ) (d : Datum) → i < length ds → d ≡ get_or ds i d → drop i ds ≡ d ∷ drop (i + 1) ds
next_value ds i d h e = rw add-one (drop-cons ds i d h ∙ ap (λ u. u ∷ drop (suc i) ds) (sym e))

module _ (ds : List Datum) (i : ℕ) (old now : EncoderView) (w : Writing (data_of ds) (data_of (drop i ds)) old now) where
  -- `t` is the tree's value, and `d` that of the list
  module _ (d t : Datum) (next : EncoderView) (h : i < length ds) (e : d ≡ get_or ds i d) (same : t ≡ d) where
    first : Writing (data_of ds) (data_of (d ∷ drop (i + 1) ds)) old now
    first = subst (λ (left : List Datum). Writing (data_of ds) (data_of left) old now) (next_value ds i d h e) w

    pub value_next : WritesValue {A = Unit {0}} (Ok tt) t now next → Writing (data_of ds) (data_of (drop (i + 1) ds)) old next
    value_next f r new g =
        first r new (rest_written r d (data_of (drop (i + 1) ds)) now next new (subst (λ (x : Datum). WritesValue {A = Unit {0}} (Ok tt) x now next) same f) g)

    pub value_refused : (x : EncodeError) → WritesValue {A = Unit {0}} (Err x) t now next → WritesAll {A = Unit {0}} (Err x) (data_of ds) old next
    value_refused x f =
        first (Err x) next (first_refused x d (data_of (drop (i + 1) ds)) now next (subst (λ (u : Datum). WritesValue {A = Unit {0}} (Err x) u now next) same f))

  pub values_done : length ds ≤ i → WritesAll {A = Unit {0}} (Ok tt) (data_of ds) old now
  values_done h = subst (λ (left : List Datum). Writing (data_of ds) (data_of left) old now) (drop_all i ds h) w (Ok tt) now (none_written now)

-- ---- the whole body

deeper : (n : ℕ) (b : Bool) → (n ≤ 64 → b ≡ true) → b ≡ false → (64 < n) ⊎ (n ≤ 64) → 64 < n
deeper n b f e (inl h) = h
deeper n b f e (inr h) = absurd (let same : false ≡ true = sym e ∙ f h in cc)

pub body_deep : (ds : List Datum) (b : Bool) → (depths (data_of ds) ≤ 64 → b ≡ true) → b ≡ false → 64 < depths (data_of ds)
body_deep ds b f e = deeper (depths (data_of ds)) b f e (cases_lt 64 (depths (data_of ds)))

pub body_refused : (e : EncodeError) (order : Endian) (ds : List Datum) → depths (data_of ds) ≤ 64 → Refused e (AllFit order 0 (data_of ds)) → AreNotEncoded e order ds
body_refused (Variant v) order ds within h = absurd h
body_refused ExcessData order ds within h = (within, h)
body_refused Memory order ds within h = tt

-- no output without an end is too long
fits_alone : (e : EncodeError) (fits : Type 0) → Refused e (fits × Unit {0}) → Refused e fits
fits_alone (Variant v) fits h = h
fits_alone ExcessData fits h = λ k. h (k, tt)
fits_alone Memory fits h = tt

-- A body that begins on a multiple of 8 is encoded as one that begins at 0.
module _ (order : Endian) (ds es : List Datum) (old : List ℕ) (start next : EncoderView) (from : start ≡ around order 0 old) (same : ds ≡ es) (placed : length old % 8 ≡ 0) where
  body_placed : (r : Result (Unit {0}) EncodeError) → WritesAll r (data_of ds) start next
      → Writes r (encodings order 0 (data_of es)) (AllFit order 0 (data_of es)) (around order 0 old) next
  body_placed r h =
      let there : Alike (0 + length old) 0 = record { rest = omega (arith, placed) } in
      let here : Alike 0 (0 + length old) = record { rest = omega (arith, placed) } in
      subst (λ (xs : List Datum). Writes r (encodings order 0 (data_of xs)) (AllFit order 0 (data_of xs)) (around order 0 old) next) same
      (same_text r (encodings order (0 + length old) (data_of ds)) _ _ _ _ _ (encodings_alike order (0 + length old) 0 (data_of ds) there)
      (all_alike order (0 + length old) 0 (data_of ds) there) (all_alike order 0 (0 + length old) (data_of ds) here)
      (subst (λ (w : EncoderView). WritesAll r (data_of ds) w next) from h))

  -- what was written whole stays
  pub body_stays : (new : List ℕ) → new ≡ next.items → WritesAll {A = Unit {0}} (Ok tt) (data_of ds) start next
      → (new ≡ old ++ encodings order 0 (data_of es)) × AllFit order 0 (data_of es)
  body_stays new e h = let w = body_placed (Ok tt) h in (e ∙ ap (λ (u : EncoderView). u.items) w.0, w.1)

  -- else the output is cut back to what stood before
  pub body_cut : (error : EncodeError) (new : List ℕ) (n : ℕ) → n ≡ length old → new ≡ take n next.items → WritesAll {A = Unit {0}} (Err error) (data_of ds) start next
      → Refused error (AllFit order 0 (data_of es)) × (new ≡ old)
  body_cut error new n long cut h =
      let w = body_placed (Err error) h in
      (fits_alone error _ w.0, cut ∙ ap (λ (u : EncoderView). take n u.items) w.1.1 ∙ take_at old w.1.0 n (sym long))
