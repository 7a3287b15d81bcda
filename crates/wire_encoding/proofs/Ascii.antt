-- The texts of types are ASCII, so they are UTF-8.
use Rattle.std.proofs.Common.{◌≡◌, ℕ, true, false, List, Option, Some, None, is_some, refl, IsUtf8}
use Rattle.std.specs.Str.{is_utf8}
use Rattle.std.proofs.lemmas.Bool.{false_from_ne_true}
use Rattle.std.proofs.lemmas.Str.{IsUtf8-from_is_utf8, is_utf8-from_IsUtf8}
use Rattle.wire_signature.specs.SingleType.{SingleType, single_types_of, TypeText}
use Rattle.wire_signature.specs.Parsing.{type_in, types_in}
use Rattle.wire_signature.proofs.Ascii.{type_utf8, types_utf8}
use Rattle.wire_signature.proofs.Exact.{is_some-types_in, type_in-takes}

-- bytes that are no UTF-8 are no signature
pub no_signature : (bs : List ℕ) → is_utf8 bs ≡ false → is_some (types_in bs) ≡ false
no_signature bs e =
    false_from_ne_true (is_some (types_in bs))
    (λ h. let k = (is_some-types_in (is_some (types_in bs)) bs refl).0 h in
    let g : is_utf8 bs ≡ true = is_utf8-from_IsUtf8 bs (types_utf8 bs (single_types_of k.0) k.1.text) in absurd (cc))

pub no_type : (bs : List ℕ) → is_utf8 bs ≡ false → type_in bs ≡ None
no_type bs e = nothing (type_in bs) refl where
  nothing : (found : Option SingleType) → type_in bs ≡ found → found ≡ None
  nothing None f = refl
  nothing (Some t) f =
      let k : TypeText t bs = type_in-takes bs t f in
      let g : is_utf8 bs ≡ true = is_utf8-from_IsUtf8 bs (type_utf8 bs t k.text) in absurd (cc)

pub not_utf8 : (bs : List ℕ) → (IsUtf8 bs → ⊥) → is_utf8 bs ≡ false
not_utf8 bs h = false_from_ne_true (is_utf8 bs) (λ e. h (IsUtf8-from_is_utf8 bs e))

pub ruleset utf8_tests = (not_utf8, is_utf8-from_IsUtf8)
