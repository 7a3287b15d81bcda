-- The text of types determines them.
use Rattle.std.proofs.Common.{◌≡◌, ℕ, suc, zero, ◌+◌, ◌<◌, true, false, List, [], ◌∷◌, ◌++◌, length, get_or, map, take, Some, Result, Ok, Err, refl, sym, ◌∙◌, ap, subst, arith, append-nil, append_assoc}
use Rattle.wire_signature.specs.declared.error.VariantError.{VariantError}
use Rattle.wire_signature.specs.declared.error.VariantError.TheVariants as errors
use Rattle.wire_signature.specs.declared.walk.End.TheVariants as ends
use Rattle.wire_signature.specs.SingleType.{SingleType, single_types_of, list_of, type_text, types_text, array_depths, struct_depths, HasFields, AllHaveFields, IsSignature, SignatureText}
use Rattle.wire_signature.specs.Parsing.{type_at, many_at, TellsSignature}
use Rattle.std.specs.Str.{is_utf8}
use Rattle.std.proofs.lemmas.Str.{is_utf8-from_IsUtf8}
use Rattle.wire_signature.proofs.Ascii.{types_utf8}
use Rattle.wire_signature.proofs.Again.{types_again, list_of-single_types_of}
use Rattle.wire_tree.specs.Datum.{Datum, type_of}
use Rattle.wire_body.specs.Arguments.{TellsKinds}

all_are : (x y : List SingleType × List ℕ) → Some x ≡ Some y → x.0 ≡ y.0
all_are x y e = let k : x ≡ y = cc in ap (λ z. z.0) k

pub types_text-one : (ts us : List SingleType) → AllHaveFields (single_types_of ts) → AllHaveFields (single_types_of us) → types_text (single_types_of ts) ≡ types_text (single_types_of us) → ts ≡ us
types_text-one ts us h k e =
    let a = array_depths (single_types_of ts) + array_depths (single_types_of us) in let s = struct_depths (single_types_of ts) + struct_depths (single_types_of us) in
    let n = length (types_text (single_types_of ts)) + length (types_text (single_types_of us)) in
    sym (list_of-single_types_of ts)
    ∙ all_are (list_of (single_types_of ts), []) (list_of (single_types_of us), [])
    (sym (types_again n (suc (a + s)) a s ends.Text (single_types_of ts) [] [] (omega arith) (omega arith) (omega arith) h (omega arith) refl)
    ∙ ap (λ r. many_at n ends.Text (type_at (suc (a + s)) a s) (r ++ [])) e
    ∙ types_again n (suc (a + s)) a s ends.Text (single_types_of us) [] [] (omega arith) (omega arith) (omega arith) k (omega arith) refl)
    ∙ list_of-single_types_of us

-- A signature whose text is that of types is these types.
pub theirs : (kinds ts : List SingleType) (text : List ℕ) → AllHaveFields (single_types_of kinds) → text ≡ types_text (single_types_of kinds) → SignatureText ts text
    → (ts ≡ kinds) × IsSignature kinds
theirs kinds ts text h e k =
    let same : ts ≡ kinds = types_text-one ts kinds k.valid.fields h (sym k.text ∙ e) in (same, subst IsSignature same k.valid)

-- a signature that is read from the text of types is these types
pub kinds_tell : (r : Result (List SingleType) VariantError) (kinds : List SingleType) (text : List ℕ) → AllHaveFields (single_types_of kinds) → text ≡ types_text (single_types_of kinds)
    → TellsSignature r text → TellsKinds r kinds
kinds_tell (Ok ts) kinds text h e k = theirs kinds ts text h e k
kinds_tell (Err errors.Signature) kinds text h e k = λ s. k kinds (record { valid = s; text = e })
kinds_tell (Err errors.Depth) kinds text h e k = k
kinds_tell (Err errors.Malformed) kinds text h e k = k
kinds_tell (Err errors.SignatureMismatch) kinds text h e k = k
kinds_tell (Err errors.Memory) kinds text h e k = tt

-- The text of types is UTF-8.
pub not_ascii : (kinds : List SingleType) (text : List ℕ) → text ≡ types_text (single_types_of kinds) → is_utf8 text ≡ false → ⊥
not_ascii kinds text e h = absurd (let k : is_utf8 text ≡ true = is_utf8-from_IsUtf8 text (types_utf8 text (single_types_of kinds) e) in cc)

-- the text of one value's type more
pub types_text-take : (ds : List Datum) (i : ℕ) (d : Datum) → i < length ds → d ≡ get_or ds i d
    → types_text (single_types_of (map type_of (take (suc i) ds))) ≡ types_text (single_types_of (map type_of (take i ds))) ++ type_text (type_of d)
types_text-take [] i d h e = absurd (omega arith)
types_text-take (a ∷ ds) zero d h e = append-nil (type_text (type_of a)) ∙ sym (ap (λ v. type_text (type_of v)) e)
types_text-take (a ∷ ds) (suc i) d h e =
    ap (λ r. type_text (type_of a) ++ r) (types_text-take ds i d (omega arith) e)
    ∙ sym (append_assoc (type_text (type_of a)) (types_text (single_types_of (map type_of (take i ds)))) (type_text (type_of d)))

pub fields-take : (ds : List Datum) (i : ℕ) (d : Datum) → i < length ds → d ≡ get_or ds i d → AllHaveFields (single_types_of (map type_of (take i ds)))
    → HasFields (type_of d) → AllHaveFields (single_types_of (map type_of (take (suc i) ds)))
fields-take [] i d h e k l = absurd (omega arith)
fields-take (a ∷ ds) zero d h e k l = (subst (λ v. HasFields (type_of v)) e l, tt)
fields-take (a ∷ ds) (suc i) d h e k l = (k.0, fields-take ds i d (omega arith) e k.1 l)
