-- The text of types determines them.
use Rattle.std.proofs.Common.{◌≡◌, ℕ, suc, ◌+◌, Bool, true, false, IsTrue, ◌↔◌, nat_eq, List, [], ◌++◌, length, Some, Result, Ok, Err, is_ok, IfOk, IfErr, refl, sym, ◌∙◌, ap, arith}
use Rattle.std.specs.Cmp.Lexicographic.{pointwise, same_text, other_text}
use Rattle.wire_signature.specs.declared.error.VariantError.{VariantError}
use Rattle.wire_signature.specs.declared.error.VariantError.TheVariants as errors
use Rattle.wire_signature.specs.SingleType.{SingleType, type_text, array_depth, struct_depth, HasFields, IsType, TypeText}
use Rattle.wire_signature.specs.Parsing.{type_at, TellsType}
use Rattle.wire_signature.proofs.Again.{type_again}
use Rattle.wire_signature.proofs.Exact.{TypeText-one}
use Rattle.wire_argument.specs.Arguments.{IsWritten, Puts}

first_is : (x y : SingleType × List ℕ) → Some x ≡ Some y → x.0 ≡ y.0
first_is x y e = let k : x ≡ y = cc in ap (λ z. z.0) k

pub type_text-one : (t u : SingleType) → HasFields t → HasFields u → type_text t ≡ type_text u → t ≡ u
type_text-one t u h k e =
    let a = array_depth t + array_depth u in let s = struct_depth t + struct_depth u in
    first_is (t, []) (u, [])
    (sym (type_again (suc (a + s)) a s t [] (omega arith) (omega arith) (omega arith) h)
    ∙ ap (λ r. type_at (suc (a + s)) a s (r ++ [])) e
    ∙ type_again (suc (a + s)) a s u [] (omega arith) (omega arith) (omega arith) k)

-- two texts tell whether the types are one
pub kind_tells : (r : Bool) (t kind : SingleType) (a b : List ℕ) → IsType t → HasFields kind → a ≡ type_text t → b ≡ type_text kind → r ≡ pointwise nat_eq b a → IsTrue r ↔ (t ≡ kind)
kind_tells true t kind a b h k p q e = (λ _. type_text-one t kind h.fields k (sym p ∙ sym (same_text b a e) ∙ q), λ _. refl)
kind_tells false t kind a b h k p q e = (λ f. absurd (cc), λ f. absurd (other_text b a e (q ∙ ap type_text (sym f) ∙ sym p)))

-- where one text was written
pub written_tells : (r written : Bool) (t kind : SingleType) (a b : List ℕ) → IsTrue written → IsType t → HasFields kind → a ≡ type_text t → IsWritten written b kind → r ≡ pointwise nat_eq b a
    → IsTrue r ↔ (t ≡ kind)
written_tells r true t kind a b w h k p q e = kind_tells r t kind a b h k p q e
written_tells r false t kind a b w h k p q e = absurd (cc)

-- a text that is too long is no type's
pub none_written : (written : Bool) (t kind : SingleType) (b : List ℕ) → (IsTrue written → ⊥) → IsType t → IsWritten written b kind → t ≡ kind → ⊥
none_written true t kind b w h q e = w refl
none_written false t kind b w h q e = let k : length (type_text t) ≡ length (type_text kind) = ap (λ u. length (type_text u)) e in absurd (omega (arith, h.within, q))

-- a type that is read from the text of a kind is that kind
pub own_kind : (r : Result SingleType VariantError) (kind : SingleType) (text : List ℕ) → TypeText kind text → TellsType r text → IfOk r (λ t. t ≡ kind)
own_kind (Ok t) kind text h k = TypeText-one t kind text k h
own_kind (Err x) kind text h k = tt

-- where the text is a type's, only memory may be wanting
pub only_memory : (r : Result SingleType VariantError) (text : List ℕ) → (t : SingleType) × TypeText t text → TellsType r text → IfErr r (λ e. e ≡ errors.Memory)
only_memory (Ok t) text h k = tt
only_memory (Err errors.Signature) text h k = absurd (k h.0 h.1)
only_memory (Err errors.Memory) text h k = refl
only_memory (Err errors.Depth) text h k = absurd k
only_memory (Err errors.Malformed) text h k = absurd k
only_memory (Err errors.SignatureMismatch) text h k = absurd k

-- what writing a type's text into an empty buffer tells
pub written : (r : Result (Unit {0}) VariantError) (ok : Bool) (kind : SingleType) (old new : List ℕ) → ok ≡ is_ok r → old ≡ [] → Puts r (type_text kind) old new → IsWritten ok new kind
written (Ok done) true kind old new e f h = h ∙ ap (λ r. r ++ type_text kind) f
written (Err errors.Signature) false kind old new e f h = omega (arith, h, ap length f)
written (Ok done) false kind old new e f h = absurd (cc)
written (Err errors.Signature) true kind old new e f h = absurd (cc)
written (Err errors.Depth) ok kind old new e f h = absurd h
written (Err errors.Malformed) ok kind old new e f h = absurd h
written (Err errors.SignatureMismatch) ok kind old new e f h = absurd h
written (Err errors.Memory) ok kind old new e f h = absurd h
