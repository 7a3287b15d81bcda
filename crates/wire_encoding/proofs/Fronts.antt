-- What is read of values, one of each type, is what stands at the front of bytes.
use Rattle.std.proofs.Common.{ℕ, ◌≡◌, ◌+◌, ◌≤◌, List, [], ◌∷◌, ◌++◌, length, Some, refl, sym, ap, ◌∙◌, subst, arith, append_assoc, length-append}
use Rattle.wire_number.specs.declared.endian.Endian.{Endian}
use Rattle.wire_signature.specs.SingleType.{SingleType, no_single_types, single_types, single_types_of, type_text, types_text, array_depths, struct_depths, AllHaveFields, IsType, IsSignature}
use Rattle.wire_tree.specs.Datum.{Datum}
use Rattle.wire_encoding.specs.Encoding.{encoding, Encodes}
use Rattle.wire_encoding.specs.Each.{EncodeEach}
use Rattle.wire_number.specs.Reading.{Cursor, made, ◌>>=◌}
use Rattle.wire_encoding.specs.Reading.{value_at, fields_at}
use Rattle.wire_number.proofs.Steps.{at, AreBytes, bind_some, map_some, some_is}
use Rattle.wire_encoding.proofs.FoundValues.{IsValue, value_takes}
use Rattle.wire_encoding.proofs.Exact.{value_only}

first_by : (t : SingleType) (ts : List SingleType) → array_depths (single_types_of (t ∷ ts)) ≤ 32 → struct_depths (single_types_of (t ∷ ts)) ≤ 32 → AllHaveFields (single_types_of (t ∷ ts))
    → length (types_text (single_types_of (t ∷ ts))) ≤ 255 → IsType t × IsSignature ts
first_by t ts a s f w =
    let long = length-append (type_text t) (types_text (single_types_of ts)) in (
      record { arrays = omega arith; structs = omega arith; fields = f.0; within = omega arith },
      record { arrays = omega arith; structs = omega arith; fields = f.1; within = omega arith },
    )

first_type : (t : SingleType) (ts : List SingleType) → IsSignature (t ∷ ts) → IsType t × IsSignature ts
first_type t ts h = first_by t ts h.arrays h.structs h.fields h.within

-- what stands at the front of bytes, and what is left behind it
pub record Front (order : Endian) (ts : List SingleType) (p : ℕ) (bytes : List ℕ) (y : List Datum × Cursor) : Type 0 where
  pub front : List ℕ
  pub whole : bytes ≡ front ++ y.1.rest
  pub encoded : EncodeEach order p ts y.0 front

encodes_by : (order : Endian) (p : ℕ) (t : SingleType) (bytes : List ℕ) (x : Datum × Cursor) → IsType t → IsValue 64 order t (at p bytes) x → Encodes order p t x.0 (encoding order p x.0)
encodes_by order p t bytes x valid k = record {
  kind = k.kind;
  valid = record { type = subst IsType (sym k.kind) valid; well_typed = k.well_typed };
  within = k.within;
  fit = k.fit;
  text = refl;
}

more_front : (order : Endian) (t : SingleType) (ts : List SingleType) (p : ℕ) (bytes : List ℕ) (x : Datum × Cursor) (z : List Datum × Cursor) → IsType t
    → IsValue 64 order t (at p bytes) x → Front order ts x.1.place x.1.rest z → Front order (t ∷ ts) p bytes (x.0 ∷ z.0, z.1)
more_front order t ts p bytes x z valid k f = record {
  front = encoding order p x.0 ++ f.front;
  whole = k.reads.text_is ∙ ap (λ r. encoding order p x.0 ++ r) f.whole ∙ sym (append_assoc (encoding order p x.0) f.front z.1.rest);
  encoded = (
    encoding order p x.0,
    f.front,
    refl,
    encodes_by order p t bytes x valid k,
    subst (λ (n : ℕ). EncodeEach order n ts z.0 f.front) k.reads.place_is f.encoded,
  );
}

pub each_found : (order : Endian) (ts : List SingleType) (p : ℕ) (bytes : List ℕ) (y : List Datum × Cursor) → IsSignature ts → AreBytes bytes
    → fields_at (value_at 64 order) (single_types_of ts) (at p bytes) ≡ Some y → Front order ts p bytes y
unfolding fields_at
each_found order [] p bytes y h low e =
    subst (λ (y : List Datum × Cursor). Front order [] p bytes y) (some_is ([], at p bytes) y e) (record { front = []; whole = refl; encoded = refl })
each_found order (t ∷ ts) p bytes y h low e =
    let x = bind_some (value_at 64 order t (at p bytes)) _ y e in
    let z = map_some (λ z. (x.0.0 ∷ z.0, z.1)) (fields_at (value_at 64 order) (single_types_of ts) x.0.1) y x.2 in
    let k : IsValue 64 order t (at p bytes) x.0 = value_takes 64 order t (at p bytes) x.0 x.1 low in
    let one = first_type t ts h in
    subst (λ (y : List Datum × Cursor). Front order (t ∷ ts) p bytes y) z.2
    (more_front order t ts p bytes x.0 z.0 one.0 k (each_found order ts x.0.1.place x.0.1.rest z.0 one.1 k.reads.bytes z.1))

none_again : (order : Endian) (p : ℕ) (front rest : List ℕ) → front ≡ [] → fields_at (value_at 64 order) no_single_types (at p (front ++ rest)) ≡ Some ([], at (p + length front) rest)
unfolding fields_at
none_again order p front rest s =
    let here : p ≡ p + length front = omega (arith, ap length s) in
    ap (λ f. Some ([], at p (f ++ rest))) s ∙ ap (λ n. Some ([], at n rest)) here

pub each_again : (order : Endian) (ts : List SingleType) (p : ℕ) (ds : List Datum) (front rest : List ℕ) → EncodeEach order p ts ds front
    → fields_at (value_at 64 order) (single_types_of ts) (at p (front ++ rest)) ≡ Some (ds, at (p + length front) rest)
unfolding fields_at
each_again order [] p [] front rest s = none_again order p front rest s
each_again order [] p (d ∷ ds) front rest s = absurd s
each_again order (t ∷ ts) p [] front rest s = absurd s
each_again order (t ∷ ts) p (d ∷ ds) front rest s =
    let there : p + length s.0 + length s.1 ≡ p + length front = omega (arith, ap length s.2, length-append s.0 s.1) in
    ap (λ b. fields_at (value_at 64 order) (single_types t (single_types_of ts)) (at p b)) (ap (λ f. f ++ rest) s.2 ∙ append_assoc s.0 s.1 rest)
    ∙ ap (λ o. o >>= (λ x. made (λ (vs : List Datum). x.0 ∷ vs) (fields_at (value_at 64 order) (single_types_of ts) x.1))) (value_only order p t d s.0 (s.1 ++ rest) s.3)
    ∙ ap (λ o. made (λ (vs : List Datum). d ∷ vs) o) (each_again order ts (p + length s.0) ds s.1 rest s.4)
    ∙ ap (λ n. Some (d ∷ ds, at n rest)) there
