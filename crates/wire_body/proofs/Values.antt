-- Trees that become values one after another.
use Rattle.std.proofs.Common.{◌≡◌, List, [], ◌∷◌, ◌++◌, Result, Err, map, refl, sym, ap, subst}
use Rattle.wire_signature.specs.SingleType.{IsType}
use Rattle.wire_signature.specs.declared.error.VariantError.{VariantError}
use Rattle.wire_signature.specs.declared.error.VariantError.TheVariants as errors
use Rattle.wire_tree.specs.Check.{TellsValid}
use Rattle.wire_tree.specs.Datum.{Datum, WellTyped, type_of}
use Rattle.wire_body.specs.Arguments.{AreAllWellTyped, TellsWellTyped}

pub map-more : {A B : Type 0} (f : A → B) (xs : List A) (x : A) → map f (xs ++ x ∷ []) ≡ map f xs ++ f x ∷ []
map-more f [] x = refl
map-more f (y ∷ ys) x = ap (λ zs. f y ∷ zs) (map-more f ys x)

pub well_typed-more : {A : Type 0} (f : A → Datum) (xs : List A) (x : A) → AreAllWellTyped (map f xs) → WellTyped (f x) → AreAllWellTyped (map f (xs ++ x ∷ []))
well_typed-more f [] x h k = (k, tt)
well_typed-more f (y ∷ ys) x h k = (h.0, well_typed-more f ys x h.1 k)

well_typed-behind : {A : Type 0} (f : A → Datum) (xs ys : List A) (x : A) → AreAllWellTyped (map f (xs ++ x ∷ ys)) → WellTyped (f x)
well_typed-behind f [] ys x h = h.0
well_typed-behind f (y ∷ xs) ys x h = well_typed-behind f xs ys x h.1

-- Where one of them is no value, they aren't all well typed.
pub one_refused : {A B : Type 0} (r : Result B VariantError) (e : VariantError) (f : A → Datum) (xs ys all : List A) (x : A) → r ≡ Err e → xs ++ x ∷ ys ≡ all → IsType (type_of (f x))
    → TellsValid (Err e) (f x) → TellsWellTyped r (map f all)
one_refused {B} r e f xs ys all x is split type h = subst (λ (r : Result B VariantError). TellsWellTyped r (map f all)) (sym is) (by e h) where
  by : (e : VariantError) → TellsValid (Err e) (f x) → TellsWellTyped {A = B} (Err e) (map f all)
  by errors.Malformed h =
      λ k. h (record { type = type; well_typed = well_typed-behind f xs ys x (subst (λ zs. AreAllWellTyped (map f zs)) (sym split) k) })
  by errors.Memory h = tt
  by errors.Signature h = absurd h
  by errors.Depth h = absurd h
  by errors.SignatureMismatch h = absurd h
