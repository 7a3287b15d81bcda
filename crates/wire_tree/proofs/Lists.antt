-- Lists of values and plain data, and when values are one.
use Rattle.std.proofs.Common.{◌≡◌, ◌↔◌, ℕ, zero, suc, ◌<◌, Bool, IsTrue, List, [], ◌∷◌, length, get_or, map, refl, sym, ◌∙◌, ap, arith}
use Rattle.wire_signature.specs.declared.basic.BasicType.{BasicType}
use Rattle.wire_signature.specs.SingleType.{SingleType}
use Rattle.wire_tree.specs.Datum.{Datum, array, dict, struct, data_of, list_of, entries_of, pairs_of}

pub list_of-data_of : (ds : List Datum) → list_of (data_of ds) ≡ ds
list_of-data_of [] = refl
list_of-data_of (d ∷ ds) = ap (λ es. d ∷ es) (list_of-data_of ds)

pub pairs_of-entries_of : (es : List (Datum × Datum)) → pairs_of (entries_of es) ≡ es
pairs_of-entries_of [] = refl
pairs_of-entries_of (e ∷ es) = ap (λ fs. e ∷ fs) (pairs_of-entries_of es)

pub data_of-one : (xs ys : List Datum) → data_of xs ≡ data_of ys → xs ≡ ys
data_of-one xs ys e = sym (list_of-data_of xs) ∙ ap list_of e ∙ list_of-data_of ys

pub entries_of-one : (xs ys : List (Datum × Datum)) → entries_of xs ≡ entries_of ys → xs ≡ ys
entries_of-one xs ys e = sym (pairs_of-entries_of xs) ∙ ap pairs_of e ∙ pairs_of-entries_of ys

-- Values that hold lists are one where the lists are, if what holds a list tells which.
pub lists-same : {A : Type 0} (hold : List A → Datum) → ((xs ys : List A) → hold xs ≡ hold ys → xs ≡ ys) → (b : Bool) (xs ys : List A) (d e : Datum)
    → hold xs ≡ d → hold ys ≡ e → IsTrue b ↔ (xs ≡ ys) → IsTrue b ↔ (d ≡ e)
lists-same hold one b xs ys d e f g h = (λ k. sym f ∙ ap hold (h.0 k) ∙ g, λ k. h.1 (one xs ys (f ∙ k ∙ sym g)))

pub structs-one : (xs ys : List Datum) → struct (data_of xs) ≡ struct (data_of ys) → xs ≡ ys
structs-one xs ys e = data_of-one xs ys (cc)

pub arrays-one : (t : SingleType) (xs ys : List Datum) → array t (data_of xs) ≡ array t (data_of ys) → xs ≡ ys
arrays-one t xs ys e = data_of-one xs ys (cc)

pub dicts-one : (k : BasicType) (t : SingleType) (xs ys : List (Datum × Datum)) → dict k t (entries_of xs) ≡ dict k t (entries_of ys) → xs ≡ ys
dicts-one k t xs ys e = entries_of-one xs ys (cc)

-- one item of two lists that are seen as one, each by its function
pub seen-item : {A B C : Type 0} (f : A → C) (g : B → C) (xs : List A) (ys : List B) (i : ℕ) (x : A) (y : B) → map f xs ≡ map g ys → i < length xs
    → x ≡ get_or xs i x → y ≡ get_or ys i y → f x ≡ g y
seen-item f g [] ys i x y e h p q = absurd (omega arith)
seen-item f g (a ∷ xs) [] i x y e h p q = absurd (cc)
seen-item f g (a ∷ xs) (b ∷ ys) zero x y e h p q =
    let heads : f a ≡ g b = cc in ap f p ∙ heads ∙ sym (ap g q)
seen-item f g (a ∷ xs) (b ∷ ys) (suc i) x y e h p q =
    let tails : map f xs ≡ map g ys = cc in seen-item f g xs ys i x y tails (omega arith) p q
