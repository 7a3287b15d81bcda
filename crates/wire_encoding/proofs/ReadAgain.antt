-- A value within the limits is read where its encoding stands, whatever stands behind it.
use Rattle.std.proofs.Common.{◌≡◌, ℕ, zero, suc, ◌+◌, ◌<◌, ◌≤◌, nat_le, nat_lt, List, [], ◌∷◌, ◌++◌, length, Some, refl, sym, ◌∙◌, ap, subst, arith, append_assoc, length-append}
use Rattle.std.specs.Int.{Width, w8, w32, byte_len}
use Rattle.std.proofs.lemmas.Bool.{le-leb, lt-ltb}
use Rattle.wire_number.specs.declared.endian.Endian.{Endian}
use Rattle.wire_number.specs.Number.{number_text, pad, padding, counted_text}
use Rattle.wire_signature.specs.declared.basic.BasicType.{BasicType}
use Rattle.wire_signature.specs.SingleType.{SingleType, basic, alignment, basic_alignment, IsType, TypeText, type_text, HasFields, AllHaveFields, AreFields}
use Rattle.wire_signature.proofs.Exact.{type_in-again}
use Rattle.wire_tree.specs.Datum.{FixedType, byte, StringLike, string, Datum, num, text, array, dict, struct, variant, Data, no_data, items, data_of, list_of, bound, IsTextOf, entry_type, num_type, text_type, type_of, types_of, WellTyped, AreWellTyped, AreElements}
use Rattle.wire_encoding.specs.Encoding.{width_of, length_width, aligned, first_place, array_form, encoding, encodings, depth, depths, ArraysFit, AllFit}
use Rattle.wire_number.specs.Reading.{Cursor, Parse, made}
use Rattle.wire_encoding.specs.Reading.{num_at, is_text_of, text_at, num_value_at, text_value_at, basic_at, many_at, elements_at, array_at, variant_at, fields_at, struct_at, value_at}
use Rattle.wire_number.proofs.Steps.{at, guarded, bound_some, bytes_again, align_again, number_again, length-number_text, length_padding, length-padded, counted_again}
use Rattle.wire_encoding.proofs.Loops.{many_done, many_next}
use Rattle.wire_encoding.proofs.FoundValues.{num_width, text_boundary, text_is, pad_one}

data_of-list_of : (ds : Data) → data_of (list_of ds) ≡ ds
data_of-list_of no_data = refl
data_of-list_of (items d ds) = ap (items d) (data_of-list_of ds)

-- a list that was read is held by a value
held_again : (hold : Data → Datum) (found : Parse (List Datum)) (ds : Data) (c : Cursor) → found ≡ Some (list_of ds, c)
    → made (λ ds. hold (data_of ds)) found ≡ Some (hold ds, c)
held_again hold found ds c e = ap (made (λ ds. hold (data_of ds))) e ∙ ap (λ ds. Some (hold ds, c)) (data_of-list_of ds)

-- ---- basic types

pub basic_room : (room : ℕ) (order : Endian) (b : BasicType) (c : Cursor) → value_at room order (basic b) c ≡ basic_at b order c
unfolding value_at
basic_room zero order b c = refl
basic_room (suc room) order b c = refl

pub num_basic : (n : FixedType) (order : Endian) (c : Cursor) → basic_at (num_type n) order c ≡ num_value_at n order c
num_basic byte order c = refl
num_basic n order c = refl

text_basic : (t : StringLike) (order : Endian) (c : Cursor) → basic_at (text_type t) order c ≡ text_value_at t order c
text_basic string order c = refl
text_basic t order c = refl

pub num_again : (n : FixedType) (order : Endian) (v p : ℕ) (rest : List ℕ) → v < bound n
    → num_at n order (at p (encoding order p (num n v) ++ rest)) ≡ Some (v, at (p + length (encoding order p (num n v))) rest)
unfolding num_at encoding
num_again n order v p rest h =
    let a : ℕ = basic_alignment (num_type n) in
    let digits : List ℕ = number_text (width_of n) order v in
    let long : p + pad p a + byte_len (width_of n) ≡ p + length (padding p a ++ digits) = omega (arith, length-padded p a digits, length-number_text (width_of n) order v) in
    rw append_assoc
    (bound_some _ _ _ (align_again a p (digits ++ rest))
    ∙ bound_some _ _ _ (number_again (width_of n) order v (p + pad p a) rest (omega (arith, (num_width n).1)))
    ∙ guarded (nat_lt v (bound n)) _ (lt-ltb v (bound n) h)
    ∙ ap (λ k. Some (v, at k rest)) long)

pub text_again : (t : StringLike) (order : Endian) (bs : List ℕ) (p : ℕ) (rest : List ℕ) → IsTextOf t bs
    → text_at t order (at p (encoding order p (text t bs) ++ rest)) ≡ Some (bs, at (p + length (encoding order p (text t bs))) rest)
unfolding text_at encoding
text_again t order bs p rest h =
    let found = rw (text_boundary t) at (counted_again (length_width t) order bs p rest ((text_is t bs).1 h).1) in
    bound_some _ _ _ found ∙ guarded (is_text_of t bs) _ ((text_is t bs).1 h).0

-- ---- no encoding is empty

some_width : (w : Width) → 0 < byte_len w
some_width w8 = omega arith
some_width w = omega arith

mutual
  unfolding encoding encodings

  pub some_encoding : (order : Endian) (p : ℕ) (d : Datum) → HasFields (type_of d) → 0 < length (encoding order p d)
  some_encoding order p (num n v) h = omega (arith, length-append {A = ℕ}, length-number_text (width_of n) order v, some_width (width_of n))
  some_encoding order p (text t bs) h = omega (arith, length-append {A = ℕ})
  some_encoding order p (array t ds) h =
      omega (arith, length-append {A = ℕ}, length-number_text w32 order (length (encodings order (first_place p (alignment t)) ds)))
  some_encoding order p (dict k v es) h = omega (arith, length-append {A = ℕ}, length-number_text w32 order (length (encodings order (first_place p 8) es)))
  some_encoding order p (struct ds) h = omega (arith, length-append {A = ℕ}, some_encodings order (aligned p 8) ds h.0 h.1)
  some_encoding order p (variant d) h = omega (arith, length-append {A = ℕ})

  pub some_encodings : (order : Endian) (p : ℕ) (ds : Data) → AreFields (types_of ds) → AllHaveFields (types_of ds) → 0 < length (encodings order p ds)
  some_encodings order p no_data f h = absurd f
  some_encodings order p (items d ds) f h = omega (arith, length-append {A = ℕ}, some_encoding order p d h.0)

-- ---- arrays

elements_again : (order : Endian) (boundary p : ℕ) (elements rest : List ℕ) → length elements ≤ 67108864
    → elements_at order boundary (at p (array_form order p boundary elements ++ rest))
    ≡ Some (at (first_place p boundary) elements, at (p + length (array_form order p boundary elements)) rest)
unfolding elements_at
elements_again order boundary p elements rest h =
    let digits : List ℕ = number_text w32 order (length elements) in
    let q : ℕ = aligned p 4 in
    let gap : List ℕ = padding (q + 4) boundary in
    let long : first_place p boundary + length elements ≡ p + length (array_form order p boundary elements) =
    omega (arith, length-append {A = ℕ}, length_padding p 4, length_padding (q + 4) boundary, length-number_text w32 order (length elements)) in
    simp append_assoc
    (bound_some _ _ _ (align_again 4 p (digits ++ (gap ++ (elements ++ rest))))
    ∙ bound_some _ _ _ (number_again w32 order (length elements) q (gap ++ (elements ++ rest)) (omega arith))
    ∙ bound_some _ _ _ (guarded (nat_le (length elements) 67108864) _ (le-leb (length elements) 67108864 h) ∙ align_again boundary (q + 4) (elements ++ rest))
    ∙ bound_some _ _ _ (bytes_again (length elements) (first_place p boundary) elements rest refl)
    ∙ ap (λ k. Some (at (first_place p boundary) elements, at k rest)) long)

-- one more, of which it is known how it and the others are read
pub many_with : {A : Type 0} (n p : ℕ) (read : Cursor → Parse A) (front back : List ℕ) (x : A) (xs : List A) → 0 < length front
    → read (at p (front ++ back)) ≡ Some (x, at (p + length front) back) → many_at n read (at (p + length front) back) ≡ Some xs
    → many_at (suc n) read (at p (front ++ back)) ≡ Some (x ∷ xs)
many_with n p read front back x xs h e f =
    many_next n (suc n) read (at p (front ++ back)) _ refl (omega (arith, length-append front back)) e
    ∙ bound_some (many_at n read (at (p + length front) back)) _ _ f

-- an array whose elements are known
array_with : {A : Type 0} (order : Endian) (boundary p : ℕ) (read : Cursor → Parse A) (elements rest : List ℕ) (xs : List A) → length elements ≤ 67108864
    → many_at (length elements) read (at (first_place p boundary) elements) ≡ Some xs
    → array_at boundary read order (at p (array_form order p boundary elements ++ rest)) ≡ Some (xs, at (p + length (array_form order p boundary elements)) rest)
unfolding array_at
array_with order boundary p read elements rest xs h e =
    bound_some _ _ _ (elements_again order boundary p elements rest h) ∙ bound_some _ _ _ e

variant_with : (read : SingleType → Cursor → Parse Datum) (order : Endian) (p : ℕ) (d : Datum) (body rest : List ℕ) → IsType (type_of d)
    → read (type_of d) (at (p + length (counted_text w8 order (type_text (type_of d)))) (body ++ rest))
    ≡ Some (d, at (p + length (counted_text w8 order (type_text (type_of d))) + length body) rest)
    → variant_at read order (at p ((counted_text w8 order (type_text (type_of d)) ++ body) ++ rest))
    ≡ Some (variant d, at (p + length (counted_text w8 order (type_text (type_of d)) ++ body)) rest)
unfolding variant_at
variant_with read order p d body rest h e =
    let t : List ℕ = type_text (type_of d) in
    let sign : List ℕ = counted_text w8 order t in
    let encoded : TypeText (type_of d) t = record { valid = h; text = refl } in
    let found = rw (pad_one p) at (counted_again w8 order t p (body ++ rest) (omega (arith, h.within))) in
    rw (append_assoc sign body rest)
    (bound_some _ _ _ found
    ∙ bound_some _ _ _ (type_in-again (type_of d) t encoded)
    ∙ ap (made variant) e
    ∙ ap (λ k. Some (variant d, at k rest)) (omega (arith, length-append sign body)))

-- ---- all values

mutual
  unfolding value_at encoding encodings ArraysFit AllFit fields_at struct_at

  pub value_again : (room : ℕ) (order : Endian) (d : Datum) (p : ℕ) (rest : List ℕ) → WellTyped d → HasFields (type_of d) → depth d ≤ room → ArraysFit order p d
      → value_at room order (type_of d) (at p (encoding order p d ++ rest)) ≡ Some (d, at (p + length (encoding order p d)) rest)
  value_again room order (num n v) p rest s h w f =
      basic_room room order (num_type n) _ ∙ num_basic n order _ ∙ ap (made (num n)) (num_again n order v p rest s)
  value_again room order (text x bs) p rest s h w f =
      basic_room room order (text_type x) _ ∙ text_basic x order _ ∙ ap (made (text x)) (text_again x order bs p rest s)
  value_again (suc room) order (array u ds) p rest s h w f =
      let elements : List ℕ = encodings order (first_place p (alignment u)) ds in
      held_again (array u) _ ds _ (array_with order (alignment u) p (value_at room order u) elements rest (list_of ds) f.0
      (items_again (length elements) room order u ds (first_place p (alignment u)) s h (omega arith) f.1 (omega arith)))
  value_again (suc room) order (dict a v ds) p rest s h w f =
      let elements : List ℕ = encodings order (first_place p 8) ds in
      held_again (dict a v) _ ds _ (array_with order 8 p (value_at room order (entry_type a v)) elements rest (list_of ds) f.0
      (items_again (length elements) room order (entry_type a v) ds (first_place p 8) s (tt, (tt, (h, tt))) (omega arith) f.1 (omega arith)))
  value_again (suc room) order (struct ds) p rest s h w f =
      let body : List ℕ = encodings order (aligned p 8) ds in
      rw (append_assoc (padding p 8) body rest)
      (held_again struct _ ds _ (bound_some _ _ _ (align_again 8 p (body ++ rest)) ∙ fields_again room order ds (aligned p 8) rest s h.1 (omega arith) f)
      ∙ ap (λ q. Some (struct ds, at q rest)) (omega (arith, length-padded p 8 body)))
  value_again (suc room) order (variant d) p rest s h w f =
      let q : ℕ = p + length (counted_text w8 order (type_text (type_of d))) in
      variant_with (value_at room order) order p d (encoding order q d) rest s.1 (value_again room order d q rest s.0 s.1.fields (omega arith) f)
  value_again zero order d p rest s h w f = absurd (omega arith)

  pub items_again : (n room : ℕ) (order : Endian) (t : SingleType) (ds : Data) (p : ℕ) → AreElements t ds → HasFields t → depths ds ≤ room → AllFit order p ds
      → length (encodings order p ds) ≤ n → many_at n (value_at room order t) (at p (encodings order p ds)) ≡ Some (list_of ds)
  items_again n room order t no_data p s h w f l = many_done n (value_at room order t) (at p []) refl
  items_again zero room order t (items d ds) p s h w f l =
      absurd (omega (arith, length-append {A = ℕ}, some_encoding order p d (subst HasFields (sym s.0.1) h)))
  items_again (suc n) room order t (items d ds) p s h w f l =
      let q : ℕ = p + length (encoding order p d) in
      let fields : HasFields (type_of d) = subst HasFields (sym s.0.1) h in
      let some : 0 < length (encoding order p d) = some_encoding order p d fields in
      many_with n p (value_at room order t) (encoding order p d) (encodings order q ds) d (list_of ds) some
      (subst (λ (t : SingleType). value_at room order t (at p (encoding order p d ++ encodings order q ds)) ≡ Some (d, at q (encodings order q ds))) s.0.1
      (value_again room order d p (encodings order q ds) s.0.0 fields (omega arith) f.0))
      (items_again n room order t ds q s.1 h (omega arith) f.1 (omega (arith, length-append {A = ℕ})))

  pub fields_again : (room : ℕ) (order : Endian) (ds : Data) (p : ℕ) (rest : List ℕ) → AreWellTyped ds → AllHaveFields (types_of ds) → depths ds ≤ room → AllFit order p ds
      → fields_at (value_at room order) (types_of ds) (at p (encodings order p ds ++ rest)) ≡ Some (list_of ds, at (p + length (encodings order p ds)) rest)
  fields_again room order no_data p rest s h w f = ap (λ q. Some ([], at q rest)) (omega arith)
  fields_again room order (items d ds) p rest s h w f =
      let q : ℕ = p + length (encoding order p d) in
      let others : List ℕ = encodings order q ds in
      rw (append_assoc (encoding order p d) others rest)
      (bound_some _ _ _ (value_again room order d p (others ++ rest) s.0 h.0 (omega arith) f.0)
      ∙ ap (made (λ ds. d ∷ ds)) (fields_again room order ds q rest s.1 h.1 (omega arith) f.1)
      ∙ ap (λ k. Some (d ∷ list_of ds, at k rest)) (omega (arith, length-append (encoding order p d) others)))
