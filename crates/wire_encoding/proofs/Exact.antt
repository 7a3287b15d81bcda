-- What stands at the front of bytes, in the standard's words.
use Rattle.std.proofs.Common.{◌≡◌, ℕ, ◌+◌, ◌-◌, ◌%◌, ◌<◌, ◌≤◌, List, [], ◌++◌, length, take, Option, Some, None, IfSome, refl, sym, ◌∙◌, ap, subst, arith, append-nil, length-append}
use Rattle.std.proofs.lemmas.List.{take_at}
use Rattle.std.proofs.Math.Nat.{mod-mod}
use Rattle.wire_number.specs.declared.endian.Endian.{Endian}
use Rattle.wire_signature.specs.declared.error.VariantError.{VariantError}
use Rattle.wire_signature.specs.declared.error.VariantError.TheVariants as errors
use Rattle.wire_signature.specs.SingleType.{SingleType, IsType, type_text, TypeText, BeginsWithType}
use Rattle.wire_signature.specs.Parsing.{first_at}
use Rattle.wire_signature.proofs.Takes.{Takes}
use Rattle.wire_signature.proofs.Exact.{begins_again, first_again}
use Rattle.wire_tree.specs.Datum.{Datum}
use Rattle.wire_encoding.specs.Encoding.{encoding, Encodes}
use Rattle.wire_number.specs.Reading.{Cursor}
use Rattle.wire_encoding.specs.Reading.{value_at}
use Rattle.wire_encoding.specs.Walking.{walk_at}
use Rattle.wire_encoding.specs.Promises.{EncodeNothing, EncodeOnlyThe, StandsFirst, Explains}
use Rattle.wire_encoding.specs.ReaderView.{Refuses}
use Rattle.wire_encoding.proofs.Walks.{left_none, left_some, walks}
use Rattle.wire_number.proofs.Steps.{at, AreBytes, some_is}
use Rattle.wire_encoding.proofs.FoundValues.{IsValue, value_takes}
use Rattle.wire_encoding.proofs.ReadAgain.{value_again}
use Rattle.wire_encoding.proofs.Shift.{Alike, value_alike}

-- an encoding depends on its place by its rest alone
pub encodes_alike : (order : Endian) (p q : ℕ) (t : SingleType) (d : Datum) (bytes : List ℕ) → Alike p q → Encodes order p t d bytes → Encodes order q t d bytes
encodes_alike order p q t d bytes h s = record {
  kind = s.kind;
  valid = s.valid;
  within = s.within;
  fit = (value_alike order p q d h).1 s.fit;
  text = s.text ∙ (value_alike order p q d h).0;
}

pub value_only : (order : Endian) (p : ℕ) (t : SingleType) (d : Datum) (body rest : List ℕ) → Encodes order p t d body
    → value_at 64 order t (at p (body ++ rest)) ≡ Some (d, at (p + length body) rest)
value_only order p t d body rest s =
    ap (λ r. value_at 64 order t (at p (r ++ rest))) s.text ∙ ap (λ t. value_at 64 order t (at p (encoding order p d ++ rest))) (sym s.kind)
    ∙ value_again 64 order d p rest s.valid.well_typed s.valid.type.fields s.within s.fit
    ∙ ap (λ r. Some (d, at (p + length r) rest)) (sym s.text)

-- ---- laws

-- two encodings at the fronts of the same bytes are one, of one value
pub same_front : (order : Endian) (p : ℕ) (t : SingleType) (d e : Datum) (a b x y : List ℕ) → Encodes order p t d a → Encodes order p t e b → a ++ x ≡ b ++ y
    → (a ≡ b) × (d ≡ e) × (x ≡ y)
same_front order p t d e a b x y s k same =
    let both : (d, at (p + length a) x) ≡ (e, at (p + length b) y) =
    some_is _ _ (sym (value_only order p t d a x s) ∙ ap (λ r. value_at 64 order t (at p r)) same ∙ value_only order p t e b y k) in
    let one : d ≡ e = ap (λ z. z.0) both in
    (s.text ∙ ap (encoding order p) one ∙ sym k.text, one, ap (λ z. z.1.rest) both)

-- ---- what a reading found, in the standard's words

-- where a reading begins
abbrev pub start : ℕ → List ℕ → Cursor
start place bytes = at (place % 8) bytes

encoded_read : (order : Endian) (place : ℕ) (t : SingleType) (bytes : List ℕ) (d : Datum) (front rest : List ℕ) → Encodes order place t d front → bytes ≡ front ++ rest
    → value_at 64 order t (start place bytes) ≡ Some (d, at (place % 8 + length front) rest)
encoded_read order place t bytes d front rest s e =
    ap (λ r. value_at 64 order t (start place r)) e
    ∙ value_only order (place % 8) t d front rest (encodes_alike order place (place % 8) t d front (record { rest = sym (mod-mod place 8) }) s)

-- ---- by the text of a type

takes_itself : (t : SingleType) (rest : List ℕ) → IsType t → Takes 32 32 (type_text t ++ rest) t rest
takes_itself t rest h = record { text_is = refl; arrays_in = h.arrays; structs_in = h.structs; fields = h.fields }

-- one type stands at the front of a text
pub first_one : (t u : SingleType) (rest others : List ℕ) → IsType t → IsType u → type_text t ++ rest ≡ type_text u ++ others → (t ≡ u) × (rest ≡ others)
first_one t u rest others h k e =
    let both : (t, rest) ≡ (u, others) =
    some_is _ _ (sym (first_again t rest (takes_itself t rest h)) ∙ ap first_at e ∙ first_again u others (takes_itself u others k)) in
    (ap (λ x. x.0) both, ap (λ x. x.1) both)

pub stands_begins : (t : SingleType) (types : List ℕ) → IsType t → StandsFirst t types → BeginsWithType types (length (type_text t))
stands_begins t types h k = record { first = t; rest = k.0; text = k.1; long = refl; arrays = h.arrays; structs = h.structs; fields = h.fields }

-- the first type of a text, if it is no longer than a signature may be
pub first_is_type : (types : List ℕ) (n : ℕ) (b : BeginsWithType types n) → n ≤ 255 → IsType b.first
first_is_type types n b h = record { arrays = b.arrays; structs = b.structs; fields = b.fields; within = omega (arith, b.long) }

-- ---- what a call that began at a cursor found

pub record Decoded (order : Endian) (place : ℕ) (t : SingleType) (bytes : List ℕ) (c : Cursor) (x : Datum × Cursor) : Type 0 where
  pub found : Encodes order place t x.0 (take (x.1.place - c.place) bytes)
  pub before : c.place ≤ x.1.place
  pub within : x.1.place - c.place ≤ length bytes
  pub only : EncodeOnlyThe order place t bytes (x.0, x.1.place - c.place)

pub decoded_from : (order : Endian) (place : ℕ) (t : SingleType) (bytes : List ℕ) (c : Cursor) (x : Datum × Cursor) → c ≡ start place bytes → IsType t → AreBytes bytes
    → value_at 64 order t c ≡ Some x → Decoded order place t bytes c x
decoded_from order place t bytes c x same valid low e =
    let p : ℕ = place % 8 in
    let f : value_at 64 order t (start place bytes) ≡ Some x = sym (ap (value_at 64 order t) same) ∙ e in
    let k : IsValue 64 order t (start place bytes) x = value_takes 64 order t (start place bytes) x f low in
    let long : length (encoding order p x.0) ≡ x.1.place - p = omega (arith, k.reads.place_is) in
    let found : Encodes order p t x.0 (take (x.1.place - p) bytes) = record {
      kind = k.kind;
      valid = record { type = subst IsType (sym k.kind) valid; well_typed = k.well_typed };
      within = k.within;
      fit = k.fit;
      text = ap (take (x.1.place - p)) k.reads.text_is ∙ take_at (encoding order p x.0) x.1.rest (x.1.place - p) long;
    } in
    subst (λ (c : Cursor). Decoded order place t bytes c x) (sym same)
    (record {
      found = encodes_alike order p place t x.0 _ (record { rest = mod-mod place 8 }) found;
      before = omega (arith, k.reads.place_is);
      within = omega (arith, k.reads.place_is, ap length k.reads.text_is, length-append (encoding order p x.0) x.1.rest);
      only = λ d front rest s same.
          let one : x ≡ (d, at (p + length front) rest) = some_is _ _ (sym f ∙ encoded_read order place t bytes d front rest s same) in
          let there : x.1.place ≡ p + length front = ap (λ y. y.1.place) one in
          (ap (λ y. y.0) one, omega arith);
    })

-- a value that was not found
pub nothing_from : (order : Endian) (place : ℕ) (t : SingleType) (bytes : List ℕ) (c : Cursor) → c ≡ start place bytes
    → value_at 64 order t c ≡ None → EncodeNothing order place t bytes
nothing_from order place t bytes c same e d front rest s f =
    let found = encoded_read order place t bytes d front rest s f in absurd (cc)

pub explained_from : (e : VariantError) (order : Endian) (place : ℕ) (t : SingleType) (bytes : List ℕ) (c : Cursor) → c ≡ start place bytes
    → Refuses e (value_at 64 order t c) → Explains e order place t bytes
explained_from errors.Malformed order place t bytes c same h = nothing_from order place t bytes c same h
explained_from e order place t bytes c same h = h

pub encodes_type : (order : Endian) (place : ℕ) (t : SingleType) (d : Datum) (front : List ℕ) → Encodes order place t d front → IsType t
encodes_type order place t d front s = subst IsType s.kind s.valid.type

-- what was found by the text of a type was found by the type
pub found_alone : (order : Endian) (place : ℕ) (t : SingleType) (text bytes : List ℕ) (found : Option ℕ) → TypeText t text
    → IfSome found (λ n. (u : SingleType) × (d : Datum) × StandsFirst u text × Encodes order place u d (take n bytes))
    → IfSome found (λ n. (d : Datum) × Encodes order place t d (take n bytes))
found_alone order place t text bytes None h k = tt
found_alone order place t text bytes (Some n) h k =
    let same : type_text k.0 ++ k.2.0 ≡ type_text t ++ [] = sym k.2.1 ∙ h.text ∙ sym (append-nil (type_text t)) in
    let one = first_one k.0 t k.2.0 [] (encodes_type order place k.0 k.1 _ k.3) h.valid same in
    (k.1, subst (λ (t : SingleType). Encodes order place t k.1 (take n bytes)) one.0 k.3)

-- what a walk by the text of a type found, and that it found nothing
pub walked_from : (order : Endian) (place : ℕ) (t : SingleType) (types bytes : List ℕ) (c : Cursor) (y : List ℕ × Cursor) → c ≡ start place bytes → IsType t → StandsFirst t types
    → AreBytes bytes → walk_at 64 order types c ≡ Some y → (d : Datum) × Decoded order place t bytes c (d, y.1)
walked_from order place t types bytes c y same valid k low w =
    let x = left_some k.0 (value_at 64 order t c) y (sym (walks 64 order t k.0 c valid) ∙ ap (λ text. walk_at 64 order text c) (sym k.1) ∙ w) in
    (x.0, decoded_from order place t bytes c (x.0, y.1) same valid low x.1)

pub walked_nothing : (order : Endian) (place : ℕ) (types bytes : List ℕ) (c : Cursor) → c ≡ start place bytes → walk_at 64 order types c ≡ None
    → (t : SingleType) → StandsFirst t types → EncodeNothing order place t bytes
walked_nothing order place types bytes c same w t k d front rest s f =
    nothing_from order place t bytes c same
    (left_none k.0 (value_at 64 order t c)
    (sym (walks 64 order t k.0 c (encodes_type order place t d front s)) ∙ ap (λ text. walk_at 64 order text c) (sym k.1) ∙ w)) d front rest s f

pub no_first : (order : Endian) (place : ℕ) (types bytes : List ℕ) → ((n : ℕ) → BeginsWithType types n → ⊥)
    → (t : SingleType) → StandsFirst t types → EncodeNothing order place t bytes
no_first order place types bytes h t k d front rest s f = h (length (type_text t)) (stands_begins t types (encodes_type order place t d front s) k)

pub long_first : (order : Endian) (place : ℕ) (types bytes : List ℕ) (n : ℕ) → BeginsWithType types n → 255 < n
    → (t : SingleType) → StandsFirst t types → EncodeNothing order place t bytes
long_first order place types bytes n b h t k d front rest s f =
    let valid : IsType t = encodes_type order place t d front s in
    let one : n ≡ length (type_text t) = some_is _ _ (sym (begins_again types n b) ∙ begins_again types (length (type_text t)) (stands_begins t types valid k)) in
    absurd (omega (arith, valid.within))

pub same_value : (order : Endian) (p : ℕ) (t : SingleType) (d e : Datum) (bytes : List ℕ) → Encodes order p t d bytes → Encodes order p t e bytes → d ≡ e
same_value order p t d e bytes s k = (same_front order p t d e bytes bytes [] [] s k refl).1

pub not_begun : (order : Endian) (p : ℕ) (t : SingleType) (d e : Datum) (bytes rest : List ℕ) → Encodes order p t d bytes → Encodes order p t e (bytes ++ rest) → rest ≡ []
not_begun order p t d e bytes rest s k =
    (same_front order p t d e bytes (bytes ++ rest) rest [] s k (sym (append-nil (bytes ++ rest)))).2
