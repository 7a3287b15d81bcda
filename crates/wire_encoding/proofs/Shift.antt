-- An encoding depends on its place by its rest modulo 8 alone.
use Rattle.std.proofs.Common.{◌≡◌, ℕ, ◌+◌, ◌%◌, ◌≤◌, List, length, refl, subst, arith}
use Rattle.std.specs.Int.{w8}
use Rattle.wire_number.specs.declared.endian.Endian.{Endian}
use Rattle.wire_number.specs.Number.{pad, counted_text}
use Rattle.wire_signature.specs.declared.basic.BasicType.TheVariants as basics
use Rattle.wire_signature.specs.SingleType.{SingleType, basic, variant as any, array as array_of, no_single_types, struct as struct_of, alignment, type_text}
use Rattle.wire_tree.specs.Datum.{Datum, num, text, array, dict, struct, variant, Data, no_data, items, entry_type, num_type, text_type, type_of}
use Rattle.wire_encoding.specs.Encoding.{aligned, first_place, encoding, encodings, ArraysFit, AllFit}

-- each boundary is at least 1
pub boundary_some : (t : SingleType) → 1 ≤ alignment t
boundary_some (basic basics.Byte) = omega arith
boundary_some (basic b) = omega arith
boundary_some t = omega arith

-- places with the same rest modulo 8
pub record Alike (p q : ℕ) : Type 0 where
  pub rest : p % 8 ≡ q % 8

plus : (p q n : ℕ) → Alike p q → Alike (p + n) (q + n)
plus p q n h = record { rest = (let e : p % 8 ≡ q % 8 = h.rest in omega arith) }

-- the padding before a value of a type, and the place behind it
pads : (t : SingleType) (p q : ℕ) → Alike p q → pad p (alignment t) ≡ pad q (alignment t)
pads (basic basics.Byte) p q h = omega arith
pads (basic b) p q h = let e : p % 8 ≡ q % 8 = h.rest in omega arith
pads any p q h = omega arith
pads t p q h = let e : p % 8 ≡ q % 8 = h.rest in omega arith

on : (t : SingleType) (p q : ℕ) → Alike p q → Alike (aligned p (alignment t)) (aligned q (alignment t))
on t p q h = subst (λ (n : ℕ). Alike (p + pad p (alignment t)) (q + n)) (pads t p q h) (plus p q (pad p (alignment t)) h)

-- the same of an array, and whether it fits
list_alike : (order : Endian) (p q : ℕ) (t : SingleType) (ds : Data) → Alike p q
    → ((a b : ℕ) → Alike a b → (encodings order a ds ≡ encodings order b ds) × (AllFit order a ds → AllFit order b ds))
    → (encoding order p (array t ds) ≡ encoding order q (array t ds)) × (ArraysFit order p (array t ds) → ArraysFit order q (array t ds))
unfolding encoding ArraysFit
list_alike order p q t ds h same =
    let first : pad p 4 ≡ pad q 4 = pads (array_of any) p q h in
    let length_end = plus (aligned p 4) (aligned q 4) 4 (on (array_of any) p q h) in
    let second : pad (aligned p 4 + 4) (alignment t) ≡ pad (aligned q 4 + 4) (alignment t) = pads t _ _ length_end in
    let k = same (first_place p (alignment t)) (first_place q (alignment t)) (on t _ _ length_end) in
    let body : encodings order (first_place p (alignment t)) ds ≡ encodings order (first_place q (alignment t)) ds = k.0 in
    (cc, λ f. (subst (λ (r : List ℕ). length r ≤ 67108864) body f.0, k.1 f.1))

mutual
  unfolding encoding encodings ArraysFit AllFit

  -- what a value is encoded as, and whether it fits
  pub value_alike : (order : Endian) (p q : ℕ) (d : Datum) → Alike p q → (encoding order p d ≡ encoding order q d) × (ArraysFit order p d → ArraysFit order q d)
  value_alike order p q (num n v) h = let e = pads (basic (num_type n)) p q h in (cc, λ f. tt)
  value_alike order p q (text t bs) h = let e = pads (basic (text_type t)) p q h in (cc, λ f. tt)
  value_alike order p q (array t ds) h = list_alike order p q t ds h (λ a b k. values_alike order a b ds k)
  value_alike order p q (dict k v ds) h = list_alike order p q (entry_type k v) ds h (λ a b k. values_alike order a b ds k)
  value_alike order p q (struct ds) h =
      let e : pad p 8 ≡ pad q 8 = pads (struct_of no_single_types) p q h in
      let k = values_alike order (aligned p 8) (aligned q 8) ds (on (struct_of no_single_types) p q h) in (cc, k.1)
  value_alike order p q (variant d) h =
      let k = value_alike order _ _ d (plus p q (length (counted_text w8 order (type_text (type_of d)))) h) in (cc, k.1)

  values_alike : (order : Endian) (p q : ℕ) (ds : Data) → Alike p q → (encodings order p ds ≡ encodings order q ds) × (AllFit order p ds → AllFit order q ds)
  values_alike order p q no_data h = (refl, λ f. tt)
  values_alike order p q (items d ds) h =
      let one = value_alike order p q d h in
      let behind = subst (λ (zs : List ℕ). Alike (p + length (encoding order p d)) (q + length zs)) one.0 (plus p q (length (encoding order p d)) h) in
      let others = values_alike order (p + length (encoding order p d)) (q + length (encoding order q d)) ds behind in (cc, λ f. (one.1 f.0, others.1 f.1))

pub encodings_alike : (order : Endian) (p q : ℕ) (ds : Data) → Alike p q → encodings order p ds ≡ encodings order q ds
encodings_alike order p q ds h = (values_alike order p q ds h).0

pub all_alike : (order : Endian) (p q : ℕ) (ds : Data) → Alike p q → AllFit order p ds → AllFit order q ds
all_alike order p q ds h = (values_alike order p q ds h).1
