-- When types are one.
use Rattle.std.proofs.Common.{◌≡◌, ◌<◌, ℕ, zero, suc, length, get_or, map, take, arith, Bool, true, false, IsTrue, ◌↔◌, nat_eq, List, [], ◌∷◌, refl, sym, ◌∙◌, ap, subst, Option, Some, None}
use Rattle.std.specs.Cmp.Lexicographic.{pointwise, same_text, other_text}
use Rattle.wire_signature.specs.SingleType.{SingleType, SingleTypes, single_types, single_types_of, IsType, TypeText, type_text}
use Rattle.wire_signature.proofs.Exact.{TypeText-one}
use Rattle.wire_tree.specs.Check.{TellsOwn, TellsType}
use Rattle.wire_tree.specs.Datum.{data_of, type_of, types_of}
use Rattle.wire_tree.specs.DatumView.{datum_of}
use Rattle.wire_tree.specs.declared.tree.Tree.{Tree}

pub texts_tell : (r : Bool) (t u : SingleType) → IsType t → IsType u → r ≡ pointwise nat_eq (type_text t) (type_text u) → IsTrue r ↔ (t ≡ u)
texts_tell true t u h k e = (
  λ _. TypeText-one t u (type_text t) (record { valid = h; text = refl }) (record { valid = k; text = same_text (type_text t) (type_text u) e }),
  λ _. refl,
)
texts_tell false t u h k e = (λ f. absurd (cc), λ f. absurd (other_text (type_text t) (type_text u) e (ap type_text f)))

first_of : (t u : SingleType) (ts us : SingleTypes) → single_types t ts ≡ single_types u us → t ≡ u
first_of t u ts us e = cc

rest_of : (t u : SingleType) (ts us : SingleTypes) → single_types t ts ≡ single_types u us → ts ≡ us
rest_of t u ts us e = cc

pub types-length : (ts : List Tree) (us : List SingleType) → types_of (data_of (map datum_of ts)) ≡ single_types_of us → length ts ≡ length us
types-length [] [] e = refl
types-length [] (u ∷ us) e = absurd (cc)
types-length (t ∷ ts) [] e = absurd (cc)
types-length (t ∷ ts) (u ∷ us) e = ap suc (types-length ts us (rest_of (type_of (datum_of t)) u (types_of (data_of (map datum_of ts))) (single_types_of us) e))

-- where the types of all are these, so is each
pub types-item : (ts : List Tree) (us : List SingleType) (i : ℕ) (t : Tree) (u : SingleType) → types_of (data_of (map datum_of ts)) ≡ single_types_of us
    → i < length ts → t ≡ get_or ts i t → u ≡ get_or us i u → type_of (datum_of t) ≡ u
types-item [] us i t u e h f g = absurd (omega arith)
types-item (a ∷ ts) [] i t u e h f g = absurd (cc)
types-item (a ∷ ts) (b ∷ us) zero t u e h f g =
    ap (λ v. type_of (datum_of v)) f ∙ first_of (type_of (datum_of a)) b (types_of (data_of (map datum_of ts))) (single_types_of us) e ∙ sym g
types-item (a ∷ ts) (b ∷ us) (suc i) t u e h f g =
    types-item ts us i t u (rest_of (type_of (datum_of a)) b (types_of (data_of (map datum_of ts))) (single_types_of us) e) (omega arith) f g

-- one type more
pub types-take : (ts : List Tree) (us : List SingleType) (i : ℕ) (t : Tree) (u : SingleType)
    → types_of (data_of (map datum_of (take i ts))) ≡ single_types_of (take i us) → i < length ts → i < length us → t ≡ get_or ts i t → u ≡ get_or us i u
    → type_of (datum_of t) ≡ u → types_of (data_of (map datum_of (take (suc i) ts))) ≡ single_types_of (take (suc i) us)
types-take [] us i t u e h k f g p = absurd (omega arith)
types-take (a ∷ ts) [] i t u e h k f g p = absurd (omega arith)
types-take (a ∷ ts) (b ∷ us) zero t u e h k f g p =
    ap (λ s. single_types s (types_of (data_of (map datum_of (take zero ts))))) (sym (ap (λ v. type_of (datum_of v)) f) ∙ p ∙ g)
types-take (a ∷ ts) (b ∷ us) (suc i) t u e h k f g p =
    let heads : type_of (datum_of a) ≡ b = first_of (type_of (datum_of a)) b (types_of (data_of (map datum_of (take i ts)))) (single_types_of (take i us)) e in
    let tails : types_of (data_of (map datum_of (take (suc i) ts))) ≡ single_types_of (take (suc i) us) =
    types-take ts us i t u (rest_of (type_of (datum_of a)) b (types_of (data_of (map datum_of (take i ts)))) (single_types_of (take i us)) e) (omega arith) (omega arith) f g p in cc

-- a type that is read from the text of a type is that type
pub own_tells : (kind : Option SingleType) (own t : SingleType) (bytes : List ℕ) → TypeText t bytes → bytes ≡ type_text own → TellsOwn kind own t → TellsType kind own
own_tells (Some u) own t bytes h e k = (k.0 ∙ sym k.1, subst IsType (sym k.1) h.valid)
own_tells None own t bytes h e k = λ f. k (TypeText-one own t bytes (record { valid = f; text = e }) h)
