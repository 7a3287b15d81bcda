-- Items that are looked at one after the other: whether a message may hold an array of them.
use Rattle.std.proofs.Common.{◌≡◌, ℕ, zero, suc, ◌+◌, ◌-◌, ◌<◌, ◌≤◌, ◌==◌, max, Bool, true, false, List, [], ◌∷◌, ◌++◌, length, get_or, take, map, Err, refl, sym, ◌∙◌, ap, subst, arith}
use Rattle.std.proofs.lemmas.Bool.{eqb-true, eqb-false}
use Rattle.wire_signature.specs.SingleType.{SingleType}
use Rattle.wire_tree.specs.Datum.{Datum, data_of, type_of, WellTyped, AreWellTyped, AreElements}
use Rattle.wire_signature.specs.declared.error.VariantError.{VariantError}
use Rattle.wire_signature.specs.declared.error.VariantError.TheVariants as errors
use Rattle.wire_argument.specs.Arguments.{Checks}
use Rattle.wire_encoding.specs.Encoding.{depth, depths}

-- All are well typed; as long as none was too deep, none is, and each is read again as itself; else one is.
pub record Passing {A : Type 0} (datum : A → Datum) (read : Datum → A) (deep : Bool) (room : ℕ) (xs : List A) : Type 0 where
  pub well : AreWellTyped (data_of (map datum xs))
  pub shallow : deep ≡ false → (depths (data_of (map datum xs)) + 1 ≤ room) × (map read (map datum xs) ≡ xs)
  pub deeper : deep ≡ true → room < depths (data_of (map datum xs)) + 1

pub passing_start : {A : Type 0} (datum : A → Datum) (read : Datum → A) (deep : Bool) (room : ℕ) → deep ≡ (room == 0) → Passing datum read deep room []
passing_start datum read deep room e = record {
  well = tt;
  shallow = λ f. (some_room room (eqb-false room 0 (sym e ∙ f)), refl);
  deeper = λ f. let none : room ≡ 0 = eqb-true room 0 (sym e ∙ f) in omega (arith, none);
} where
  some_room : (n : ℕ) → (n ≡ 0 → ⊥) → 1 ≤ n
  some_room zero h = absurd (h refl)
  some_room (suc n) h = omega arith

well_more : {A : Type 0} (datum : A → Datum) (xs : List A) (x : A) → AreWellTyped (data_of (map datum xs)) → WellTyped (datum x) → AreWellTyped (data_of (map datum (xs ++ x ∷ [])))
well_more datum [] x h k = (k, tt)
well_more datum (a ∷ xs) x h k = (h.0, well_more datum xs x h.1 k)

depths_more : {A : Type 0} (datum : A → Datum) (xs : List A) (x : A) → depths (data_of (map datum (xs ++ x ∷ []))) ≡ max (depths (data_of (map datum xs))) (depth (datum x))
depths_more datum [] x = omega arith
depths_more datum (a ∷ xs) x = omega (arith, depths_more datum xs x)

round_more : {A : Type 0} (datum : A → Datum) (read : Datum → A) (xs : List A) (x : A) → map read (map datum xs) ≡ xs → read (datum x) ≡ x → map read (map datum (xs ++ x ∷ [])) ≡ xs ++ x ∷ []
round_more datum read [] x h k = ap (λ y. y ∷ []) k
round_more datum read (a ∷ xs) x h k =
    let first : read (datum a) ≡ a = cc in let rest : map read (map datum xs) ≡ xs = cc in
    ap (λ y. y ∷ map read (map datum (xs ++ x ∷ []))) first ∙ ap (λ ys. a ∷ ys) (round_more datum read xs x rest k)

take_next : {A : Type 0} (xs : List A) (i : ℕ) (x : A) → i < length xs → x ≡ get_or xs i x → take (suc i) xs ≡ take i xs ++ x ∷ []
take_next [] i x h e = absurd (omega arith)
take_next (a ∷ xs) zero x h e = ap (λ y. y ∷ []) (sym e)
take_next (a ∷ xs) (suc i) x h e = ap (λ ys. a ∷ ys) (take_next xs i x (omega arith) e)

next : (i : ℕ) → i + 1 ≡ suc i
next i = omega arith

pub passing_ok : {A : Type 0} (datum : A → Datum) (read : Datum → A) (deep : Bool) (room inner : ℕ) (xs : List A) (i : ℕ) (x : A) → Passing datum read deep room (take i xs)
    → i < length xs → x ≡ get_or xs i x → inner ≡ room - 1 → WellTyped (datum x) × (depth (datum x) ≤ inner) → read (datum x) ≡ x → Passing datum read deep room (take (i + 1) xs)
passing_ok datum read deep room inner xs i x p h e f k r =
    subst (Passing datum read deep room) (sym (ap (λ k. take k xs) (next i) ∙ take_next xs i x h e)) (record {
      well = well_more datum (take i xs) x p.well k.0;
      shallow = λ s. let q = p.shallow s in (omega (arith, depths_more datum (take i xs) x, q.0, k.1, f), round_more datum read (take i xs) x q.1 r);
      deeper = λ s. let q = p.deeper s in omega (arith, depths_more datum (take i xs) x, q);
    })

pub passing_deep : {A : Type 0} (datum : A → Datum) (read : Datum → A) (deep : Bool) (room inner : ℕ) (xs : List A) (i : ℕ) (x : A) → Passing datum read deep room (take i xs)
    → i < length xs → x ≡ get_or xs i x → inner ≡ room - 1 → WellTyped (datum x) × (inner < depth (datum x)) → Passing datum read true room (take (i + 1) xs)
passing_deep datum read deep room inner xs i x p h e f k =
    subst (Passing datum read true room) (sym (ap (λ k. take k xs) (next i) ∙ take_next xs i x h e)) (record {
      well = well_more datum (take i xs) x p.well k.0;
      shallow = λ s. absurd (cc);
      deeper = λ s. omega (arith, depths_more datum (take i xs) x, k.1, f);
    })

pub elements_from : {A : Type 0} (datum : A → Datum) (t : SingleType) (xs : List A) → ((x : A) → type_of (datum x) ≡ t) → AreWellTyped (data_of (map datum xs)) → AreElements t (data_of (map datum xs))
elements_from datum t [] h k = tt
elements_from datum t (x ∷ xs) h k = ((k.0, h x), elements_from datum t xs h k.1)

take_all : {A : Type 0} (xs : List A) (i : ℕ) → length xs ≤ i → take i xs ≡ xs
take_all [] zero h = refl
take_all [] (suc i) h = refl
take_all (x ∷ xs) zero h = absurd (omega arith)
take_all (x ∷ xs) (suc i) h = ap (λ ys. x ∷ ys) (take_all xs i (omega arith))

pub passing_end : {A : Type 0} (datum : A → Datum) (read : Datum → A) (deep : Bool) (room : ℕ) (xs : List A) (i : ℕ) → Passing datum read deep room (take i xs) → length xs ≤ i
    → Passing datum read deep room xs
passing_end datum read deep room xs i p h = subst (Passing datum read deep room) (take_all xs i h) p

-- a refusal that is none for depth
pub other_check : (e : VariantError) (well : Type 0) (deep room : ℕ) → (e ≡ errors.Depth → ⊥) → Checks {A = Unit {0}} (Err e) well deep room → well → ⊥
other_check errors.Malformed well deep room other h k = h k
other_check errors.Depth well deep room other h k = other refl
other_check errors.Signature well deep room other h k = h
other_check errors.SignatureMismatch well deep room other h k = h
other_check errors.Memory well deep room other h k = h

pub deep_check : (e : VariantError) (well : Type 0) (deep room : ℕ) → e ≡ errors.Depth → Checks {A = Unit {0}} (Err e) well deep room → well × (room < deep)
deep_check e well deep room is h = subst (λ x. Checks {A = Unit {0}} (Err x) well deep room) is h
