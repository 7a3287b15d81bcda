-- Steps of the reader that builds types.
use Rattle.std.proofs.Common.{◌≡◌, ℕ, zero, suc, ◌+◌, ◌<◌, ◌≤◌, List, [], ◌∷◌, ◌++◌, length, Option, Some, None, refl, sym, ◌∙◌, ap, arith, option_and_then, append_assoc, append-nil, length-append}
use Rattle.wire_signature.specs.declared.error.VariantError.{VariantError}
use Rattle.wire_signature.specs.declared.error.VariantError.TheVariants as errors
use Rattle.wire_signature.specs.declared.walk.End.{End}
use Rattle.wire_signature.specs.SingleType.{SingleType, IsType, type_text}
use Rattle.wire_signature.specs.Parsing.{Found, Tells, behind, many_at, none_at, with_first, type_at}
use Rattle.wire_signature.proofs.Steps.{before, many_at-end, many_at-last, many_at-more}
use Rattle.wire_signature.proofs.Takes.{Takes, type_takes}

-- a type that is read is within the limits
pub type_valid : (room a s : ℕ) (text : List ℕ) (t : SingleType) (rest : List ℕ) → type_at room a s text ≡ Some (t, rest)
    → a ≤ 32 → s ≤ 32 → length text ≤ 255 → IsType t
type_valid room a s text t rest e i j l =
    let k : Takes a s text t rest = type_takes room a s text t rest e in
    let long : length text ≡ length (type_text t) + length rest = ap length k.text_is ∙ length-append (type_text t) rest in
    record { arrays = omega (arith, k.arrays_in); structs = omega (arith, k.structs_in); fields = k.fields; within = omega arith }

-- what is behind it is no longer than the text
pub type_shorter : (room a s : ℕ) (text : List ℕ) (t : SingleType) (rest : List ℕ) → type_at room a s text ≡ Some (t, rest)
    → length text ≤ 255 → length rest ≤ 255
type_shorter room a s text t rest e l =
    let k : Takes a s text t rest = type_takes room a s text t rest e in
    let long : length text ≡ length (type_text t) + length rest = ap length k.text_is ∙ length-append (type_text t) rest in omega arith

-- a refusal of a part is one of the whole
pub tells_as : {X Y : Type 0} (e : VariantError) (part : Option X) (whole : Option Y) → (part ≡ None → whole ≡ None) → Tells e part → Tells e whole
tells_as errors.Signature part whole f h = f h
tells_as errors.Depth part whole f h = absurd h
tells_as errors.Malformed part whole f h = absurd h
tells_as errors.SignatureMismatch part whole f h = absurd h
tells_as errors.Memory part whole f h = tt

pub before-end : (n : ℕ) (until : End) (read : List ℕ → Found SingleType) (text rest : List ℕ) (ts : List SingleType) (whole : Found (List SingleType))
    → whole ≡ before ts (many_at n until read text) → behind until text ≡ Some rest → whole ≡ Some (ts, rest)
before-end n until read text rest ts whole e f =
    e ∙ ap (before ts) (many_at-end n until read text rest f) ∙ ap (λ us. Some (us, rest)) (append-nil ts)

pub before-last : (n : ℕ) (until : End) (read : List ℕ → Found SingleType) (text : List ℕ) (ts : List SingleType) (whole : Found (List SingleType))
    → whole ≡ before ts (many_at n until read text) → n ≡ 0 → behind until text ≡ None → whole ≡ None
before-last n until read text ts whole e k f = e ∙ ap (before ts) (many_at-last n until read text k ∙ ap none_at f)

before-with_first : (ts : List SingleType) (t : SingleType) (found : Found (List SingleType)) → before ts (with_first t found) ≡ before (ts ++ t ∷ []) found
before-with_first ts t None = refl
before-with_first ts t (Some y) = ap (λ us. Some (us, y.1)) (sym (append_assoc ts (t ∷ []) y.0))

pub before-more : (n m : ℕ) (until : End) (read : List ℕ → Found SingleType) (text : List ℕ) (t : SingleType) (rest : List ℕ) (ts : List SingleType) (whole : Found (List SingleType))
    → whole ≡ before ts (many_at m until read text) → m ≡ suc n → behind until text ≡ None → read text ≡ Some (t, rest)
    → whole ≡ before (ts ++ t ∷ []) (many_at n until read rest)
before-more n m until read text t rest ts whole e k f g =
    e ∙ ap (λ m. before ts (many_at m until read text)) k ∙ ap (before ts) (many_at-more n until read text f)
    ∙ ap (λ found. before ts (option_and_then (λ x. with_first x.0 (many_at n until read x.1)) found)) g
    ∙ before-with_first ts t (many_at n until read rest)

pub before-none : (m : ℕ) (until : End) (read : List ℕ → Found SingleType) (text : List ℕ) (ts : List SingleType) (whole : Found (List SingleType))
    → whole ≡ before ts (many_at m until read text) → 0 < m → behind until text ≡ None → read text ≡ None → whole ≡ None
before-none zero until read text ts whole e k f g = absurd (omega arith)
before-none (suc n) until read text ts whole e k f g =
    e ∙ ap (before ts) (many_at-more n until read text f ∙ ap (option_and_then (λ x. with_first x.0 (many_at n until read x.1))) g)
