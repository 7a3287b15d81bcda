-- Types as trees of numbers, by which a proof tells them apart.
use Rattle.std.specs.Prelude.{◌≡◌, ℕ, zero, suc, refl, Some, unwrap_or}
use Rattle.std.proofs.Common.{sym, ◌∙◌, ap}
use base.Stored.{Coded, Gv, gnil, gnum, gcons}
use Rattle.wire_signature.specs.declared.basic.BasicType.{BasicType}
use Rattle.wire_signature.specs.declared.basic.BasicType.TheVariants.{Byte}
use Rattle.wire_signature.specs.SingleType.{SingleType, basic, variant, array, dict, struct, SingleTypes, no_single_types, single_types, letter, basic_of}

-- From its letter a basic type is found again.
pub basic_of-letter : (b : BasicType) → basic_of (letter b) ≡ Some b
basic_of-letter Byte = refl
basic_of-letter b = refl

-- the basic type of a code; of other numbers nothing is said
abbrev pub basic_at : ℕ → BasicType
basic_at n = unwrap_or (basic_of n) Byte

basic_at-letter : (b : BasicType) → basic_at (letter b) ≡ b
basic_at-letter b = ap (λ o. unwrap_or o Byte) (basic_of-letter b)

-- Two basic types with one letter are one type.
pub letter-inj : (x y : BasicType) → letter x ≡ letter y → x ≡ y
letter-inj x y e = sym (basic_at-letter x) ∙ ap basic_at e ∙ basic_at-letter y

-- a type as a tree of numbers, and a list of types as one
abbrev mutual
  pub code : SingleType → Gv
  code (basic b) = gcons (gnum 0) (gnum (letter b))
  code variant = gnil
  code (array t) = gcons (gnum 1) (code t)
  code (dict k v) = gcons (gcons (gnum 0) (gnum (letter k))) (code v)
  code (struct ts) = gcons (gnum 2) (codes ts)

  pub codes : SingleTypes → Gv
  codes no_single_types = gnil
  codes (single_types t ts) = gcons (code t) (codes ts)

-- the number that a tree of one number is; of other trees 0
abbrev pub number_in : Gv → ℕ
number_in gnil = 0
number_in (gnum n) = n
number_in (gcons a b) = 0

-- which form a pair of numbers is the code of: its mark, the type in its second part, and the list there
abbrev pub form_of : Gv → ℕ → SingleType → SingleTypes → SingleType
form_of gnil n t ts = variant
form_of (gnum zero) n t ts = basic (basic_at n)
form_of (gnum (suc zero)) n t ts = array t
form_of (gnum (suc (suc m))) n t ts = struct ts
form_of (gcons a b) n t ts = dict (basic_at (number_in b)) t

-- a tree read as a type, and as a list of types
abbrev pub back : Gv → SingleType × SingleTypes
back gnil = (variant, no_single_types)
back (gnum n) = (variant, no_single_types)
back (gcons a b) = (form_of a (number_in b) (back b).0 (back b).1, single_types (back a).0 (back b).1)

-- The tree of a type is read back as that type, and the tree of a list of types as that list.
mutual
  pub back-code : (t : SingleType) → (back (code t)).0 ≡ t
  back-code (basic b) = ap basic (basic_at-letter b)
  back-code variant = refl
  back-code (array t) = ap array (back-code t)
  back-code (dict k v) = ap (λ b. dict b (back (code v)).0) (basic_at-letter k) ∙ ap (dict k) (back-code v)
  back-code (struct ts) = ap struct (back-codes ts)

  pub back-codes : (ts : SingleTypes) → (back (codes ts)).1 ≡ ts
  back-codes no_single_types = refl
  back-codes (single_types t ts) = ap (λ u. single_types u (back (codes ts)).1) (back-code t) ∙ ap (single_types t) (back-codes ts)

-- Two types with one tree are one type.
pub code-inj : (t u : SingleType) → code t ≡ code u → t ≡ u
code-inj t u e = sym (back-code t) ∙ ap (λ g. (back g).0) e ∙ back-code u

-- single complete types, told apart by their trees
abbrev pub single_type_code : Coded SingleType
single_type_code = record { code = code; inj = code-inj }

-- basic types, told apart by their letters
abbrev pub basic_code : Coded BasicType
basic_code = record { code = λ b. gnum (letter b); inj = λ x y e. letter-inj x y (ap number_in e) }
