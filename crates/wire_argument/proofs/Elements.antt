-- The elements of arrays.
use Rattle.std.proofs.Common.{◌≡◌, ℕ, zero, suc, ◌<◌, List, [], ◌∷◌, length, get_or, map, Result, Ok, Err, IfOk, IfErr, refl, sym, ◌∙◌, ap, subst, arith}
use Rattle.wire_signature.specs.SingleType.{SingleType, array as array_of}
use Rattle.wire_tree.specs.Datum.{Datum, num, text, array, dict, struct, variant, Data, no_data, items, data_of, list_of, type_of, WellTyped, AreWellTyped, AreElements}
use Rattle.wire_signature.specs.declared.error.VariantError.{VariantError}
use Rattle.wire_signature.specs.declared.error.VariantError.TheVariants as errors
use Rattle.wire_argument.specs.Arguments.{TellsRead}
use Rattle.wire_argument.specs.Kinds.{elements_in}

data_of-list_of : (ds : Data) → data_of (list_of ds) ≡ ds
data_of-list_of no_data = refl
data_of-list_of (items d ds) = ap (items d) (data_of-list_of ds)

-- the elements of an array that is well typed
pub elements_typed : (d : Datum) (t : SingleType) → WellTyped d → type_of d ≡ array_of t → AreElements t (data_of (elements_in d))
elements_typed (array u ds) t h e = let k : u ≡ t = cc in subst (λ s. AreElements s (data_of (list_of ds))) k (subst (AreElements u) (sym (data_of-list_of ds)) h)
elements_typed (num n v) t h e = absurd (cc)
elements_typed (text k bytes) t h e = absurd (cc)
elements_typed (dict k v es) t h e = absurd (cc)
elements_typed (struct ds) t h e = absurd (cc)
elements_typed (variant d) t h e = absurd (cc)

-- one element of an array
pub element_item : {A : Type 0} (f : A → Datum) (t : SingleType) (xs : List A) (i : ℕ) (x : A) → AreElements t (data_of (map f xs)) → i < length xs → x ≡ get_or xs i x
    → WellTyped (f x) × (type_of (f x) ≡ t)
element_item f t [] i x h k e = absurd (omega arith)
element_item f t (a ∷ xs) zero x h k e = subst (λ b. WellTyped (f b) × (type_of (f b) ≡ t)) (sym e) h.0
element_item f t (a ∷ xs) (suc i) x h k e = element_item f t xs i x h.1 (omega arith) e

-- what reading tells, where the type is the right one
pub tells : {X B : Type 0} (view : X → B) (r : Result X VariantError) (found read : B) (own kind : SingleType) → found ≡ read → own ≡ kind
    → IfOk r (λ x. view x ≡ found) → IfErr r (λ e. e ≡ errors.Memory) → TellsRead view r read own kind
tells view (Ok x) found read own kind e k h f = (h ∙ e, k)
tells view (Err errors.Memory) found read own kind e k h f = tt
tells view (Err errors.Signature) found read own kind e k h f = absurd (cc)
tells view (Err errors.Depth) found read own kind e k h f = absurd (cc)
tells view (Err errors.Malformed) found read own kind e k h f = absurd (cc)
tells view (Err errors.SignatureMismatch) found read own kind e k h f = absurd (cc)

pub elements_well : (t : SingleType) (ds : Data) → AreElements t ds → AreWellTyped ds
elements_well t no_data h = tt
elements_well t (items d ds) h = (h.0.0, elements_well t ds h.1)
