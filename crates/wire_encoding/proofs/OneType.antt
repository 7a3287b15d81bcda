-- A text is a single complete type exactly where the type at its front is as long as it.
use Rattle.std.proofs.Common.{◌≡◌, ℕ, Bool, true, false, ◌==◌, nat_le, if◌then◌else◌, List, [], ◌∷◌, length, Option, Some, None, is_some, refl, sym, ap, arith, option_map, length-append}
use Rattle.std.proofs.lemmas.Bool.{eq-eqb, ne_eqb}
use Rattle.wire_signature.specs.SingleType.{SingleType, type_text}
use Rattle.wire_signature.specs.Parsing.{Found, type_in, first_at, first_length, whole}
use Rattle.wire_signature.proofs.Exact.{first_takes}

-- the length of the type at the front, tested
abbrev pub is_long : Option ℕ → ℕ → Bool
is_long None long = false
is_long (Some n) long = n == long

whole_test : (bs : List ℕ) (found : Found SingleType) → first_at bs ≡ found → is_some (whole found) ≡ is_long (option_map (λ x. length (type_text x.0)) found) (length bs)
whole_test bs None f = refl
whole_test bs (Some (t, [])) f = sym (eq-eqb _ _ (omega (arith, ap length (first_takes bs t [] f).text_is, length-append (type_text t) [])))
whole_test bs (Some (t, r ∷ rs)) f =
    sym (ne_eqb _ _ (λ k. omega (arith, k, ap length (first_takes bs t (r ∷ rs) f).text_is, length-append (type_text t) (r ∷ rs))))

-- whether the type at the front is the whole text
pub type_test : (bs : List ℕ) → is_some (type_in bs) ≡ (if nat_le (length bs) 255 then is_long (first_length bs) (length bs) else false)
unfolding type_in
type_test bs = by (nat_le (length bs) 255) where
  by : (b : Bool) → is_some (if b then whole (first_at bs) else None) ≡ (if b then is_long (first_length bs) (length bs) else false)
  by true = whole_test bs (first_at bs) refl
  by false = refl
