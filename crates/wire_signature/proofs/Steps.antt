-- One step of a row of types.
use Rattle.std.proofs.Common.{◌≡◌, ℕ, zero, suc, ◌-◌, ◌<◌, List, [], ◌∷◌, ◌++◌, Option, Some, None, refl, sym, ◌∙◌, ap, arith, option_and_then}
use Rattle.wire_signature.specs.SingleType.{SingleType}
use Rattle.wire_signature.specs.Parsing.{Found, rest_of, behind, many_at, more_at, none_at, with_first, type_at, type_step}
use Rattle.wire_signature.specs.declared.walk.End.{End}

-- what is made of the types found changes nothing behind them
pub rest_of-made : {A B : Type 0} (f : A → B) (found : Found A) → rest_of (option_and_then (λ x. Some (f x.0, x.1)) found) ≡ rest_of found
rest_of-made f None = refl
rest_of-made f (Some x) = refl

-- where the end stands at the front, there is no type
pub many_at-end : (n : ℕ) (until : End) (read : List ℕ → Found SingleType) (text rest : List ℕ)
    → behind until text ≡ Some rest → many_at n until read text ≡ Some ([], rest)
unfolding many_at
many_at-end zero until read text rest e = ap none_at e
many_at-end (suc n) until read text rest e = ap (more_at (many_at n until read) read text) e

-- where it does not, a type does
pub many_at-more : (n : ℕ) (until : End) (read : List ℕ → Found SingleType) (text : List ℕ)
    → behind until text ≡ None
    → many_at (suc n) until read text ≡ option_and_then (λ x. with_first x.0 (many_at n until read x.1)) (read text)
unfolding many_at
many_at-more n until read text e = ap (more_at (many_at n until read) read text) e

rest_of-with_first : (t : SingleType) (found : Found (List SingleType)) → rest_of (with_first t found) ≡ rest_of found
rest_of-with_first t None = refl
rest_of-with_first t (Some x) = refl

then_rest : (found : Found SingleType) (rest : List ℕ) (others : List ℕ → Found (List SingleType)) → Some rest ≡ rest_of found
    → rest_of (option_and_then (λ x. with_first x.0 (others x.1)) found) ≡ rest_of (others rest)
then_rest None rest others e = absurd (cc)
then_rest (Some x) rest others e = rest_of-with_first x.0 (others x.1) ∙ ap (λ r. rest_of (others r)) (cc)

pub rest_of-more : (n m : ℕ) (until : End) (read : List ℕ → Found SingleType) (text rest : List ℕ)
    → m ≡ suc n → behind until text ≡ None → Some rest ≡ rest_of (read text)
    → rest_of (many_at m until read text) ≡ rest_of (many_at n until read rest)
rest_of-more n m until read text rest k e f =
    ap (λ m. rest_of (many_at m until read text)) k ∙ ap rest_of (many_at-more n until read text e) ∙ then_rest (read text) rest (many_at n until read) f

none_then : (found : Found SingleType) (others : List ℕ → Found (List SingleType)) → None ≡ rest_of found
    → option_and_then (λ x. with_first x.0 (others x.1)) found ≡ None
none_then None others e = refl
none_then (Some x) others e = absurd (cc)

-- the types that came before, and then what was found
abbrev pub before : List SingleType → Found (List SingleType) → Found (List SingleType)
before ts found = option_and_then (λ y. Some (ts ++ y.0, y.1)) found

-- no type there: none in the row
pub rest_of-none : (n : ℕ) (until : End) (read : List ℕ → Found SingleType) (text : List ℕ)
    → 0 < n → behind until text ≡ None → None ≡ rest_of (read text)
    → rest_of (many_at n until read text) ≡ None
rest_of-none zero until read text k e f = absurd (omega arith)
rest_of-none (suc n) until read text k e f = ap rest_of (many_at-more n until read text e ∙ none_then (read text) (many_at n until read) f)

rest_of-none_at : (end : Option (List ℕ)) → rest_of (none_at end) ≡ end
rest_of-none_at None = refl
rest_of-none_at (Some rest) = refl

-- no step is left: the end stands there, or nothing does
pub many_at-last : (n : ℕ) (until : End) (read : List ℕ → Found SingleType) (text : List ℕ)
    → n ≡ 0 → many_at n until read text ≡ none_at (behind until text)
unfolding many_at
many_at-last n until read text k = ap (λ n. many_at n until read text) k

pub rest_of-last : (n : ℕ) (until : End) (read : List ℕ → Found SingleType) (text : List ℕ)
    → n ≡ 0 → rest_of (many_at n until read text) ≡ behind until text
rest_of-last n until read text k = ap rest_of (many_at-last n until read text k) ∙ rest_of-none_at (behind until text)

-- one level of a type
pub type_at-kind : (room arrays structs first : ℕ) (text rest : List ℕ) → 0 < room → text ≡ first ∷ rest
    → type_at room arrays structs text ≡ type_step (type_at (room - 1)) arrays structs (first ∷ rest)
unfolding type_at
type_at-kind zero arrays structs first text rest h e = absurd (omega arith)
type_at-kind (suc room) arrays structs first text rest h e =
    let k : suc room - 1 ≡ room = omega arith in
    ap (type_step (type_at room) arrays structs) e ∙ ap (λ n. type_step (type_at n) arrays structs (first ∷ rest)) (sym k)
