-- A text and the types that it is the signature of determine each other.
use Rattle.std.proofs.Common.{◌≡◌, ℕ, ◌+◌, ◌-◌, ◌≤◌, true, nat_le, if◌then◌else◌, inl, inr, List, [], ◌∷◌, ◌++◌, length, Option, Some, None, refl, sym, ◌∙◌, ap, arith, option_map, append-nil, length-append, Result, Ok, Err, Bool, IsTrue, is_some, ◌↔◌}
use borrow.Author.Tests.{leb-true, le-leb}
use Rattle.wire_signature.specs.declared.error.VariantError.{VariantError}
use Rattle.wire_signature.specs.declared.error.VariantError.TheVariants as errors
use Rattle.wire_signature.specs.declared.walk.End.TheVariants as ends
use Rattle.wire_signature.specs.SingleType.{SingleType, single_types_of, list_of, type_text, types_text, SignatureText, TypeText, BeginsWithType}
use Rattle.wire_signature.specs.Parsing.{Found, GivesType, TellsSignature, TellsType, behind, whole, many_at, type_at, first_at, first_length, type_in, types_in}
use Rattle.wire_signature.proofs.Takes.{Takes, TakesAll, type_takes, many_takes, some_is, if_ways}
use Rattle.wire_signature.proofs.Again.{type_again, types_again, list_of-single_types_of}

pub first_takes : (text : List ℕ) (t : SingleType) (rest : List ℕ) → first_at text ≡ Some (t, rest) → Takes 32 32 text t rest
unfolding first_at
first_takes text t rest e = type_takes 65 32 32 text t rest e

pub first_again : (t : SingleType) (rest : List ℕ) (k : Takes 32 32 (type_text t ++ rest) t rest) → first_at (type_text t ++ rest) ≡ Some (t, rest)
unfolding first_at
first_again t rest k = type_again 65 32 32 t rest (omega arith) k.arrays_in k.structs_in k.fields

text_end : (text rest : List ℕ) → behind ends.Text text ≡ Some rest → (text ≡ []) × (rest ≡ [])
text_end [] rest e = (refl, sym (some_is [] rest e))
text_end (c ∷ cs) rest e = absurd (cc)

-- types that stand in a text up to its end are a signature
pub types_valid : (text : List ℕ) (ts : List SingleType) (rest : List ℕ) → many_at (length text) ends.Text (type_at 65 32 32) text ≡ Some (ts, rest)
    → length text ≤ 255 → SignatureText ts text
types_valid text ts rest e l =
    let k : TakesAll 32 32 ends.Text text ts rest = many_takes (length text) 32 32 ends.Text (type_at 65 32 32) (type_takes 65 32 32) text ts rest e in
    let text_is : text ≡ types_text (single_types_of ts) = k.text_is ∙ ap (λ r. types_text (single_types_of ts) ++ r) (text_end k.left rest k.end).0 ∙ append-nil (types_text (single_types_of ts)) in
    let long : length text ≡ length (types_text (single_types_of ts)) = ap length text_is in
    record { valid = record { arrays = k.arrays_in; structs = k.structs_in; fields = k.fields; within = omega arith }; text = text_is }

mapped : {A B : Type 0} (f : A → B) (o : Option A) (y : B) → option_map f o ≡ Some y → (x : A) × (o ≡ Some x) × (f x ≡ y)
mapped f None y e = absurd (cc)
mapped f (Some x) y e = (x, refl, some_is (f x) y e)

pub types_in-takes : (bytes : List ℕ) (ts : List SingleType) → types_in bytes ≡ Some ts → SignatureText ts bytes
unfolding types_in first_at
types_in-takes bytes ts e =
    elim (if_ways (nat_le (length bytes) 255) _ _ (Some ts) e) [
      | inl w ↦
          let x = mapped (λ x. x.0) (many_at (length bytes) ends.Text (type_at 65 32 32) bytes) ts w.1 in
          types_valid bytes ts x.0.1 (x.1 ∙ ap (λ us. Some (us, x.0.1)) x.2) (leb-true (length bytes) 255 w.0)
      | inr w ↦ absurd (cc)
    ]

pub types_in-again : (ts : List SingleType) (bytes : List ℕ) → SignatureText ts bytes → types_in bytes ≡ Some ts
unfolding types_in first_at
types_in-again ts bytes h =
    let short : length bytes ≤ 255 = omega (arith, ap length h.text, h.valid.within) in
    let read : many_at (length bytes) ends.Text (type_at 65 32 32) (types_text (single_types_of ts) ++ []) ≡ Some (list_of (single_types_of ts), []) =
    types_again (length bytes) 65 32 32 ends.Text (single_types_of ts) [] [] (omega arith) h.valid.arrays h.valid.structs h.valid.fields (omega (arith, ap length h.text)) refl in
    let same : bytes ≡ types_text (single_types_of ts) ++ [] = h.text ∙ sym (append-nil (types_text (single_types_of ts))) in
    ap (λ b. if b then option_map (λ x. x.0) (many_at (length bytes) ends.Text (type_at 65 32 32) bytes) else None) (le-leb (length bytes) 255 short)
    ∙ ap (λ r. option_map (λ x. x.0) (many_at (length bytes) ends.Text (type_at 65 32 32) r)) same
    ∙ ap (option_map (λ x. x.0)) read ∙ ap Some (list_of-single_types_of ts)

whole_is : (found : Found SingleType) (t : SingleType) → whole found ≡ Some t → found ≡ Some (t, [])
whole_is None t e = absurd (cc)
whole_is (Some x) t e =
    let y = mapped (λ _. x.0) (behind ends.Text x.1) t e in
    ap (λ u. Some (u, x.1)) y.2 ∙ ap (λ r. Some (t, r)) (text_end x.1 y.0 y.1).0

pub type_in-takes : (bytes : List ℕ) (t : SingleType) → type_in bytes ≡ Some t → TypeText t bytes
unfolding type_in
type_in-takes bytes t e =
    elim (if_ways (nat_le (length bytes) 255) _ _ (Some t) e) [
      | inl w ↦
          let k : Takes 32 32 bytes t [] = first_takes bytes t [] (whole_is (first_at bytes) t w.1) in
          let text_is : bytes ≡ type_text t = k.text_is ∙ append-nil (type_text t) in
          let short : length bytes ≤ 255 = leb-true (length bytes) 255 w.0 in
          let long : length bytes ≡ length (type_text t) = ap length text_is in
          record { valid = record { arrays = k.arrays_in; structs = k.structs_in; fields = k.fields; within = omega arith }; text = text_is }
      | inr w ↦ absurd (cc)
    ]

pub type_in-again : (t : SingleType) (bytes : List ℕ) → TypeText t bytes → type_in bytes ≡ Some t
unfolding type_in
type_in-again t bytes h =
    let short : length bytes ≤ 255 = omega (arith, ap length h.text, h.valid.within) in
    let same : bytes ≡ type_text t ++ [] = h.text ∙ sym (append-nil (type_text t)) in
    let k : Takes 32 32 (type_text t ++ []) t [] = record { text_is = refl; arrays_in = h.valid.arrays; structs_in = h.valid.structs; fields = h.valid.fields } in
    ap (λ b. if b then whole (first_at bytes) else None) (le-leb (length bytes) 255 short)
    ∙ ap (λ r. whole (first_at r)) same ∙ ap whole (first_again t [] k)

-- a text is the signature of one list of types
pub SignatureText-one : (ts us : List SingleType) (bytes : List ℕ) → SignatureText ts bytes → SignatureText us bytes → ts ≡ us
SignatureText-one ts us bytes h k = some_is ts us (sym (types_in-again ts bytes h) ∙ types_in-again us bytes k)

pub TypeText-one : (t u : SingleType) (bytes : List ℕ) → TypeText t bytes → TypeText u bytes → t ≡ u
TypeText-one t u bytes h k = some_is t u (sym (type_in-again t bytes h) ∙ type_in-again u bytes k)

-- what was read from left to right, in the standard's words
pub signature_told : (r : Result (List SingleType) VariantError) (text : List ℕ) → GivesType r (types_in text) → TellsSignature r text
signature_told (Ok ts) text h = types_in-takes text ts h
signature_told (Err errors.Signature) text h = λ ts k. let e : types_in text ≡ Some ts = types_in-again ts text k in absurd (cc)
signature_told (Err errors.Depth) text h = h
signature_told (Err errors.Malformed) text h = h
signature_told (Err errors.SignatureMismatch) text h = h
signature_told (Err errors.Memory) text h = tt

pub type_told : (r : Result SingleType VariantError) (text : List ℕ) → GivesType r (type_in text) → TellsType r text
type_told (Ok t) text h = type_in-takes text t h
type_told (Err errors.Signature) text h = λ t k. let e : type_in text ≡ Some t = type_in-again t text k in absurd (cc)
type_told (Err errors.Depth) text h = h
type_told (Err errors.Malformed) text h = h
type_told (Err errors.SignatureMismatch) text h = h
type_told (Err errors.Memory) text h = tt

-- the type at the front, in the standard's words
pub begins : (text : List ℕ) (n : ℕ) → first_length text ≡ Some n → BeginsWithType text n
begins text n e =
    let x = mapped (λ x. length (type_text x.0)) (first_at text) n e in
    let k : Takes 32 32 text x.0.0 x.0.1 = first_takes text x.0.0 x.0.1 x.1 in
    record { first = x.0.0; rest = x.0.1; text = k.text_is; long = sym x.2; arrays = k.arrays_in; structs = k.structs_in; fields = k.fields }

pub begins_again : (text : List ℕ) (n : ℕ) → BeginsWithType text n → first_length text ≡ Some n
begins_again text n h =
    let k : Takes 32 32 (type_text h.first ++ h.rest) h.first h.rest = record { text_is = refl; arrays_in = h.arrays; structs_in = h.structs; fields = h.fields } in
    ap first_length h.text ∙ ap (option_map (λ x. length (type_text x.0))) (first_again h.first h.rest k) ∙ ap Some (sym h.long)

none_mapped : (found : Found SingleType) → None ≡ option_map (λ x. x.1) found → option_map (λ x. length (type_text x.0)) found ≡ None
none_mapped None e = refl
none_mapped (Some x) e = absurd (cc)

-- the text behind the type at the front gives its length
pub first_length-rest : (text rest : List ℕ) → Some rest ≡ option_map (λ x. x.1) (type_at 65 32 32 text)
    → (first_length text ≡ Some (length text - length rest)) × (length rest ≤ length text)
unfolding first_at
first_length-rest text rest e =
    let x = mapped (λ x. x.1) (type_at 65 32 32 text) rest (sym e) in
    let k : Takes 32 32 text x.0.0 x.0.1 = type_takes 65 32 32 text x.0.0 x.0.1 x.1 in
    let long : length text ≡ length (type_text x.0.0) + length x.0.1 = ap length k.text_is ∙ length-append (type_text x.0.0) x.0.1 in
    let behind : length x.0.1 ≡ length rest = ap length x.2 in
    let count : length (type_text x.0.0) ≡ length text - length rest = omega arith in
    (ap (option_map (λ x. length (type_text x.0))) x.1 ∙ ap Some count, omega arith)

pub first_length-none : (text : List ℕ) → None ≡ option_map (λ x. x.1) (type_at 65 32 32 text) → first_length text ≡ None
unfolding first_at
first_length-none text e = none_mapped (type_at 65 32 32 text) e

some_types : (text : List ℕ) (found : Option (List SingleType)) → types_in text ≡ found → is_some found ≡ true → (ts : List SingleType) × SignatureText ts text
some_types text None e h = absurd (cc)
some_types text (Some ts) e h = (ts, types_in-takes text ts e)

-- the test of a text, in the standard's words
pub is_some-types_in : (b : Bool) (text : List ℕ) → b ≡ is_some (types_in text) → IsTrue b ↔ ((ts : List SingleType) × SignatureText ts text)
is_some-types_in b text e =
    (λ h. some_types text (types_in text) refl (sym e ∙ h), λ k. (e ∙ ap is_some (types_in-again k.0 text k.1)))
