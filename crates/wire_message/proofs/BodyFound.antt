-- Reading a body: what a front of its bytes encodes.
use Rattle.std.proofs.Common.{◌≡◌, ℕ, ◌+◌, Bool, true, false, IsTrue, nat_eq, is_some, List, [], ◌∷◌, length, map, take, drop, Result, Ok, Err, IfErr, IfOk, refl, sym, ap, subst, ◌∙◌}
use Rattle.std.proofs.lemmas.List.{take-append-drop}
use Rattle.wire_number.specs.declared.endian.Endian.{Endian}
use Rattle.wire_signature.specs.SingleType.{SingleType, single_types_of, types_text, AllHaveFields, IsSignature, SignatureText}
use Rattle.std.specs.Cmp.Lexicographic.{pointwise, same_text}
use Rattle.wire_signature.specs.Parsing.{types_in}
use Rattle.wire_signature.proofs.Exact.{is_some-types_in}
use Rattle.wire_body.proofs.SignatureTexts.{types_text-one}
use Rattle.wire_tree.specs.Datum.{Datum, type_of}
use Rattle.wire_encoding.specs.Each.{EncodeEach}
use Rattle.wire_signature.specs.declared.error.VariantError.{VariantError}
use Rattle.wire_signature.specs.declared.error.VariantError.TheVariants as faults
use Rattle.wire_body.specs.Arguments.{PutsSignature}
use Rattle.wire_body.specs.Bodies.{Explains, HasArguments, HasNoBody, HasOnlyBody}
use Rattle.wire_message.specs.BodyReading.{Begins, BeginsNoBody, HasTypes, TellsBegun}
use Rattle.wire_message.specs.Front.{MessageView}

-- values that are encoded have the types
pub types_encoded : (order : Endian) (place : ℕ) (ts : List SingleType) (ds : List Datum) (bytes : List ℕ) → EncodeEach order place ts ds bytes → map type_of ds ≡ ts
types_encoded order place [] [] bytes s = refl
types_encoded order place [] (d ∷ ds) bytes s = absurd s
types_encoded order place (t ∷ ts) [] bytes s = absurd s
types_encoded order place (t ∷ ts) (d ∷ ds) bytes s =
    ap (λ (x : SingleType). x ∷ map type_of ds) s.3.kind ∙ ap (λ (xs : List SingleType). t ∷ xs) (types_encoded order (place + length s.0) ts ds s.1 s.4)

-- a front that encodes the values is a body with them alone, and read as they are
pub begins : {A : Type 0} (read : List Datum → A) (order : Endian) (kinds types : List SingleType) (bytes : List ℕ) (values body : List Datum) (n : ℕ) (x : A) → types ≡ kinds → body ≡ values
    → IsSignature kinds → EncodeEach order 0 types values (take n bytes) → HasOnlyBody order types bytes values n → x ≡ read body → Begins read order kinds bytes x
begins read order kinds types bytes values body n x same one valid s only e =
    let own = subst (λ (ts : List SingleType). HasOnlyBody order ts bytes values n) same only in
    let encoded = subst (λ (ts : List SingleType). EncodeEach order 0 ts values (take n bytes)) same s in record {
      values = values;
      there = record { front = take n bytes; rest = drop n bytes; text = sym (take-append-drop n bytes); signature = valid; encoded = encoded };
      only = λ others b. (own others b.front b.rest b.encoded b.text).0;
      same = e ∙ ap read one;
    }

-- no front is a body
pub begins_none : (order : Endian) (types : List SingleType) (bytes : List ℕ) → HasNoBody order types bytes → BeginsNoBody order types bytes
unfolding BeginsNoBody
begins_none order types bytes none values b = none values b.front b.rest b.encoded b.text

-- types that are no signature are those of no body
pub begins_unsigned : (order : Endian) (types : List SingleType) (bytes : List ℕ) → (IsSignature types → ⊥) → BeginsNoBody order types bytes
unfolding BeginsNoBody
begins_unsigned order types bytes none values b = none b.signature

pub no_signature : (e : VariantError) (types : List SingleType) (text : List ℕ) → PutsSignature {A = Unit {0}} (Err e) types text → IsSignature types → ⊥
no_signature faults.Signature types text h = h
no_signature other types text h = absurd h

-- what reading arguments tells, of types that are a signature
pub tells_begun : {A : Type 0} (r : Result A VariantError) (read : List Datum → A) (order : Endian) (types : List SingleType) (bytes : List ℕ) → IsSignature types
    → IfOk r (λ x. HasArguments order types bytes read x) → IfErr r (λ e. Explains e order types bytes) → TellsBegun r read order types bytes
tells_begun (Ok x) read order types bytes valid h none = record {
  values = h.values;
  there = record { front = h.front; rest = h.rest; text = h.text; signature = valid; encoded = h.encoded };
  only = λ others b. (h.only others b.front b.rest b.encoded b.text).0;
  same = h.same;
}
tells_begun (Err faults.Malformed) read order types bytes valid h none = begins_none order types bytes none
tells_begun (Err faults.Memory) read order types bytes valid h none = tt
tells_begun (Err other) read order types bytes valid h none = absurd none

-- ---- the header's types

-- a message has its types once
pub one_types : (m : MessageView) (ts us : List SingleType) → HasTypes m ts → HasTypes m us → ts ≡ us
one_types m ts us s t = types_text-one ts us s.valid.fields t.valid.fields (sym s.text ∙ t.text)

-- a signature with the text of these types is theirs
pub own_types : (b : Bool) (kinds : List SingleType) (own text : List ℕ) → AllHaveFields (single_types_of kinds) → own ≡ types_text (single_types_of kinds) → IsTrue (is_some (types_in text))
    → b ≡ pointwise nat_eq own text → b ≡ true → SignatureText kinds text
own_types false kinds own text fields e valid same t = absurd (cc)
own_types true kinds own text fields e valid same t =
    let one : own ≡ text = same_text own text same in
    let k = (is_some-types_in (is_some (types_in text)) text refl).0 valid in
    let kinds-are : k.0 ≡ kinds = types_text-one k.0 kinds k.1.valid.fields fields (sym k.1.text ∙ sym one ∙ e) in
    subst (λ (ts : List SingleType). SignatureText ts text) kinds-are k.1

pub ruleset found_bodies = (types_encoded, begins)
