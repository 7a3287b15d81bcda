-- One well-typed value of a list of them.
use Rattle.std.proofs.Common.{◌≡◌, ◌↔◌, ℕ, zero, suc, ◌<◌, List, [], ◌∷◌, length, get_or, map, take, sym, ◌∙◌, ap, subst, arith}
use Rattle.wire_signature.specs.declared.basic.BasicType.{BasicType}
use Rattle.wire_signature.specs.SingleType.{SingleType, basic, struct, single_types, no_single_types}
use Rattle.wire_tree.specs.Datum.{Datum, data_of, entries_of, entry_type, type_of, WellTyped, AreWellTyped, AreElements}
use Rattle.wire_tree.specs.DatumView.{datum_of, pair_of, entry_of}
use Rattle.wire_tree.specs.declared.tree.Tree.{Tree}
use Rattle.wire_tree.proofs.Parts.{entries_are}

pub well_typed-item : {A : Type 0} (f : A → Datum) (xs : List A) (i : ℕ) (x : A) → AreWellTyped (data_of (map f xs)) → i < length xs → x ≡ get_or xs i x → WellTyped (f x)
well_typed-item f [] i x s h e = absurd (omega arith)
well_typed-item f (a ∷ xs) zero x s h e = subst (λ u. WellTyped (f u)) (sym e) s.0
well_typed-item f (a ∷ xs) (suc i) x s h e = well_typed-item f xs i x s.1 (omega arith) e

pub well_typed-take : (ts : List Tree) (i : ℕ) (t : Tree) → AreWellTyped (data_of (map datum_of (take i ts))) → i < length ts → t ≡ get_or ts i t
    → WellTyped (datum_of t) → AreWellTyped (data_of (map datum_of (take (suc i) ts)))
well_typed-take [] i t s h e k = absurd (omega arith)
well_typed-take (a ∷ ts) zero t s h e k = (subst (λ u. WellTyped (datum_of u)) e k, tt)
well_typed-take (a ∷ ts) (suc i) t s h e k = (s.0, well_typed-take ts i t s.1 (omega arith) e k)

pub element-item : {A : Type 0} (f : A → Datum) (s : SingleType) (xs : List A) (i : ℕ) (x : A) → AreElements s (data_of (map f xs)) → i < length xs → x ≡ get_or xs i x
    → WellTyped (f x) × (type_of (f x) ≡ s)
element-item f s [] i x k h e = absurd (omega arith)
element-item f s (a ∷ xs) zero x k h e = subst (λ u. WellTyped (f u) × (type_of (f u) ≡ s)) (sym e) k.0
element-item f s (a ∷ xs) (suc i) x k h e = element-item f s xs i x k.1 (omega arith) e

pub element-take : {A : Type 0} (f : A → Datum) (s : SingleType) (xs : List A) (i : ℕ) (x : A) → AreElements s (data_of (map f (take i xs))) → i < length xs → x ≡ get_or xs i x
    → WellTyped (f x) × (type_of (f x) ≡ s) → AreElements s (data_of (map f (take (suc i) xs)))
element-take f s [] i x k h e g = absurd (omega arith)
element-take f s (a ∷ xs) zero x k h e g = (subst (λ u. WellTyped (f u) × (type_of (f u) ≡ s)) e g, tt)
element-take f s (a ∷ xs) (suc i) x k h e g = (k.0, element-take f s xs i x k.1 (omega arith) e g)

-- a key of the basic type and a value of the type, both well typed
abbrev pub IsEntry : BasicType → SingleType → Tree × Tree → Type 0
IsEntry b s p = (WellTyped (datum_of p.0) × (type_of (datum_of p.0) ≡ basic b)) × (WellTyped (datum_of p.1) × (type_of (datum_of p.1) ≡ s))

-- that is a well-typed dict entry of their types
pub entry-is : (b : BasicType) (s : SingleType) (p : Tree × Tree) → IsEntry b s p ↔ (WellTyped (entry_of p) × (type_of (entry_of p) ≡ entry_type b s))
entry-is b s p = (
  λ h. ((h.0.0, (h.1.0, tt)), ap (λ k. pair_type k (type_of (datum_of p.1))) h.0.1 ∙ ap (pair_type (basic b)) h.1.1),
  λ h. ((h.0.0, cc), (h.0.1.0, cc)),
) where
  pair_type : SingleType → SingleType → SingleType
  pair_type k v = struct (single_types k (single_types v no_single_types))

pub entry-item : (b : BasicType) (s : SingleType) (ps : List (Tree × Tree)) (i : ℕ) (p : Tree × Tree) → AreElements (entry_type b s) (entries_of (map pair_of ps))
    → i < length ps → p ≡ get_or ps i p → IsEntry b s p
entry-item b s ps i p k h e =
    (entry-is b s p).1 (element-item entry_of (entry_type b s) ps i p (subst (AreElements (entry_type b s)) (entries_are ps) k) h e)

pub entry-take : (b : BasicType) (s : SingleType) (ps : List (Tree × Tree)) (i : ℕ) (p : Tree × Tree) → AreElements (entry_type b s) (entries_of (map pair_of (take i ps)))
    → i < length ps → p ≡ get_or ps i p → IsEntry b s p → AreElements (entry_type b s) (entries_of (map pair_of (take (suc i) ps)))
entry-take b s ps i p k h e g =
    subst (AreElements (entry_type b s)) (sym (entries_are (take (suc i) ps)))
    (element-take entry_of (entry_type b s) ps i p (subst (AreElements (entry_type b s)) (entries_are (take i ps)) k) h e ((entry-is b s p).0 g))
