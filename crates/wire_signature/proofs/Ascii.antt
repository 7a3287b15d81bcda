-- The texts of types are ASCII, so they are UTF-8.
use Rattle.std.proofs.Common.{◌≡◌, ℕ, ◌<◌, List, [], ◌∷◌, ◌++◌, sym, subst, arith, IsAscii, IsUtf8}
use Rattle.std.proofs.lemmas.Str.{IsUtf8-from_ascii, IsAscii-append}
use Rattle.std.proofs.lemmas.Str.Ascii.{IsAscii-nil, IsAscii-cons}
use Rattle.wire_signature.specs.declared.basic.BasicType.{BasicType}
use Rattle.wire_signature.specs.declared.basic.BasicType.TheVariants as basics
use Rattle.wire_signature.specs.SingleType.{SingleType, basic, variant, array, dict, struct, SingleTypes, no_single_types, single_types, letter, type_text, types_text}

letter_low : (b : BasicType) → letter b < 128
letter_low basics.Byte = omega arith
letter_low b = omega arith

one : (b : ℕ) → b < 128 → IsAscii (b ∷ [])
one b h = IsAscii-cons b [] h IsAscii-nil

mutual
  type_ascii : (t : SingleType) → IsAscii (type_text t)
  type_ascii (basic b) = one (letter b) (letter_low b)
  type_ascii variant = one 118 (omega arith)
  type_ascii (array t) = IsAscii-cons 97 (type_text t) (omega arith) (type_ascii t)
  type_ascii (dict k v) =
      let value : IsAscii (type_text v ++ 125 ∷ []) = IsAscii-append (type_text v) (125 ∷ []) (type_ascii v) (one 125 (omega arith)) in
      let key : IsAscii (letter k ∷ (type_text v ++ 125 ∷ [])) = IsAscii-cons (letter k) (type_text v ++ 125 ∷ []) (letter_low k) value in
      IsAscii-cons 97 (123 ∷ letter k ∷ (type_text v ++ 125 ∷ [])) (omega arith) (IsAscii-cons 123 (letter k ∷ (type_text v ++ 125 ∷ [])) (omega arith) key)
  type_ascii (struct ts) = IsAscii-cons 40 (types_text ts ++ 41 ∷ []) (omega arith) (IsAscii-append (types_text ts) (41 ∷ []) (types_ascii ts) (one 41 (omega arith)))

  types_ascii : (ts : SingleTypes) → IsAscii (types_text ts)
  types_ascii no_single_types = IsAscii-nil
  types_ascii (single_types t ts) = IsAscii-append (type_text t) (types_text ts) (type_ascii t) (types_ascii ts)

pub type_utf8 : (bs : List ℕ) (t : SingleType) → bs ≡ type_text t → IsUtf8 bs
type_utf8 bs t e = IsUtf8-from_ascii bs (subst IsAscii (sym e) (type_ascii t))

pub types_utf8 : (bs : List ℕ) (ts : SingleTypes) → bs ≡ types_text ts → IsUtf8 bs
types_utf8 bs ts e = IsUtf8-from_ascii bs (subst IsAscii (sym e) (types_ascii ts))
