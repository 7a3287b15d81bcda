-- One type of a list of types.
use Rattle.std.proofs.Common.{◌≡◌, ℕ, zero, suc, ◌<◌, ◌≤◌, List, [], ◌∷◌, ◌++◌, length, get_or, take, sym, ◌∙◌, ap, arith, append_assoc, append-nil, Bool, IsTrue, ◌↔◌}
use Rattle.wire_signature.specs.SingleType.{SingleType, SingleTypes, struct, single_types_of, list_of, type_count, types_count, type_text, types_text}
use Rattle.wire_signature.proofs.Again.{list_of-single_types_of}

type_count-at : (ts : List SingleType) (i : ℕ) (d : SingleType) → i < length ts → type_count (get_or ts i d) ≤ types_count (single_types_of ts)
type_count-at [] i d h = absurd (omega arith)
type_count-at (t ∷ ts) zero d h = omega arith
type_count-at (t ∷ ts) (suc i) d h = let k : type_count (get_or ts i d) ≤ types_count (single_types_of ts) = type_count-at ts i d (omega arith) in omega arith

-- a type of a list holds no more types than the list
pub type_count-item : (ts : List SingleType) (i : ℕ) (t : SingleType) → i < length ts → t ≡ get_or ts i t → type_count t ≤ types_count (single_types_of ts)
type_count-item ts i t h e = omega (arith, type_count-at ts i t h, ap type_count e)

-- the text of one type more
pub types_text-take : (ts : List SingleType) (i : ℕ) (t : SingleType) → i < length ts → t ≡ get_or ts i t
    → types_text (single_types_of (take (suc i) ts)) ≡ types_text (single_types_of (take i ts)) ++ type_text t
types_text-take [] i t h e = absurd (omega arith)
types_text-take (u ∷ us) zero t h e = append-nil (type_text u) ∙ sym (ap type_text e)
types_text-take (u ∷ us) (suc i) t h e =
    ap (λ r. type_text u ++ r) (types_text-take us i t (omega arith) e)
    ∙ sym (append_assoc (type_text u) (types_text (single_types_of (take i us))) (type_text t))

inner_of : (ts us : SingleTypes) → struct ts ≡ struct us → ts ≡ us
inner_of ts us e = cc

-- structs are one exactly where their fields are
pub structs-same : (b : Bool) (xs ys : List SingleType) (t u : SingleType) → struct (single_types_of xs) ≡ t → struct (single_types_of ys) ≡ u
    → IsTrue b ↔ (xs ≡ ys) → IsTrue b ↔ (t ≡ u)
structs-same b xs ys t u e f h = (
  λ k. sym e ∙ ap (λ zs. struct (single_types_of zs)) (h.0 k) ∙ f,
  λ k. let inner : single_types_of xs ≡ single_types_of ys = inner_of (single_types_of xs) (single_types_of ys) (e ∙ k ∙ sym f) in
      h.1 (sym (list_of-single_types_of xs) ∙ ap list_of inner ∙ list_of-single_types_of ys),
)
