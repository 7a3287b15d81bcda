-- Texts and values as they are read.
use Rattle.std.proofs.Common.{◌≡◌, ℕ, zero, suc, List, [], Some, None, Result, Ok, Err, unwrap_or, refl, ◌∙◌, ap, arith}
use Rattle.wire_signature.specs.declared.error.VariantError.{VariantError}
use Rattle.wire_signature.specs.SingleType.{basic, variant as any}
use Rattle.wire_signature.specs.Parsing.{types_in}
use Rattle.wire_number.specs.declared.endian.Endian.{Endian}
use Rattle.wire_number.specs.Reading.{Cursor, Parse, made}
use Rattle.wire_tree.specs.Datum.{StringLike, string, object_path, signature, Datum, text, variant, text_type}
use Rattle.wire_encoding.specs.Reading.{basic_at, text_at, text_value_at, value_at}
use Rattle.wire_encoding.specs.ReaderView.{Gives}
use Rattle.wire_encoding.proofs.ReadAgain.{basic_room}
use Rattle.wire_encoding.proofs.Loops.{refuses_as}
use Rattle.wire_argument.specs.Kinds.{text_in, signature_in, value_in}

text_basic : (t : StringLike) (order : Endian) (c : Cursor) → basic_at (text_type t) order c ≡ text_value_at t order c
text_basic string order c = refl
text_basic object_path order c = refl
text_basic signature order c = refl

text_made : (t : StringLike) (found : Parse (List ℕ)) → made text_in (made (text t) found) ≡ found
text_made t None = refl
text_made t (Some x) = refl

pub text_read : (t : StringLike) (room : ℕ) (order : Endian) (c : Cursor) → made text_in (value_at room order (basic (text_type t)) c) ≡ text_at t order c
text_read t room order c = ap (made text_in) (basic_room room order (text_type t) c ∙ text_basic t order c) ∙ text_made t (text_at t order c)

signature_made : (found : Parse (List ℕ)) → made signature_in (made (text signature) found) ≡ made (λ bytes. unwrap_or (types_in bytes) []) found
signature_made None = refl
signature_made (Some x) = refl

pub signature_read : (room : ℕ) (order : Endian) (c : Cursor)
    → made signature_in (value_at room order (basic (text_type signature)) c) ≡ made (λ bytes. unwrap_or (types_in bytes) []) (text_at signature order c)
signature_read room order c = ap (made signature_in) (basic_room room order (text_type signature) c ∙ text_basic signature order c) ∙ signature_made (text_at signature order c)

pub none_held : (room : ℕ) (order : Endian) (c : Cursor) → room ≡ 0 → made value_in (value_at room order any c) ≡ None
unfolding value_at
none_held zero order c e = refl
none_held (suc room) order c e = absurd (omega (arith, e))

-- the value that was read of a variant
pub given_held : {X : Type 0} (value : X → Datum) (after : X → Cursor) (r : Result X VariantError) (found : Parse Datum)
    → Gives (λ x. (variant (value x), after x)) r found → Gives (λ x. (value x, after x)) r (made value_in found)
given_held value after (Ok x) found h = ap (made value_in) h
given_held value after (Err e) found h = refuses_as e found (made value_in found) (λ none. ap (made value_in) none) h
