-- Types and signatures are equal exactly where their texts are.
use Rattle.std.proofs.Common.{◌≡◌, ℕ, Bool, true, false, IsTrue, ◌↔◌, nat_eq, List, refl, sym, ap}
use Rattle.std.specs.Cmp.Lexicographic.{pointwise}
use Rattle.std.proofs.lemmas.Slice.Eq.{bytes_eq-Decides}
use Rattle.wire_signature.specs.SingleType.{SingleType, IsSignature, IsType, signature_text, type_text}
use Rattle.wire_signature.proofs.Exact.{SignatureText-one, TypeText-one}

module _ {A : Type 0} (text : A → List ℕ) (t u : A) (one : text t ≡ text u → t ≡ u) where
  pub texts_decide : IsTrue (pointwise nat_eq (text t) (text u)) ↔ (t ≡ u)
  texts_decide = (λ e. one ((bytes_eq-Decides (text t) (text u)).0 e), λ e. (bytes_eq-Decides (text t) (text u)).1 (ap text e))

  differs : (p : Bool) → (IsTrue p → IsTrue false) → false ≡ p
  differs false f = refl
  differs true f = f refl

  test_is : (b : Bool) → IsTrue b ↔ (t ≡ u) → b ≡ pointwise nat_eq (text t) (text u)
  test_is true f = sym (texts_decide.1 (f.0 refl))
  test_is false f = differs (pointwise nat_eq (text t) (text u)) (λ e. f.1 (texts_decide.0 e))

type_one : (t u : SingleType) → IsType t → IsType u → type_text t ≡ type_text u → t ≡ u
type_one t u h k e = TypeText-one t u (type_text t) (record { valid = h; text = refl }) (record { valid = k; text = e })

signature_one : (ts us : List SingleType) → IsSignature ts → IsSignature us → signature_text ts ≡ signature_text us → ts ≡ us
signature_one ts us h k e = SignatureText-one ts us (signature_text ts) (record { valid = h; text = refl }) (record { valid = k; text = e })

pub types_test : (b : Bool) (t u : SingleType) → IsType t → IsType u → IsTrue b ↔ (t ≡ u) → b ≡ pointwise nat_eq (type_text t) (type_text u)
types_test b t u h k f = test_is type_text t u (type_one t u h k) b f

pub signatures_test : (b : Bool) (ts us : List SingleType) → IsSignature ts → IsSignature us → IsTrue b ↔ (ts ≡ us) → b ≡ pointwise nat_eq (signature_text ts) (signature_text us)
signatures_test b ts us h k f = test_is signature_text ts us (signature_one ts us h k) b f

pub types_decide : (t u : SingleType) → IsType t → IsType u → IsTrue (pointwise nat_eq (type_text t) (type_text u)) ↔ (t ≡ u)
types_decide t u h k = texts_decide type_text t u (type_one t u h k)

pub signatures_decide : (ts us : List SingleType) → IsSignature ts → IsSignature us → IsTrue (pointwise nat_eq (signature_text ts) (signature_text us)) ↔ (ts ≡ us)
signatures_decide ts us h k = texts_decide signature_text ts us (signature_one ts us h k)
