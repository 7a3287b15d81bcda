-- Values as trees of numbers, by which a proof tells them apart.
use Rattle.std.specs.Prelude.{◌≡◌, ℕ, zero, suc, ◌==◌, if◌then◌else◌, List, [], ◌∷◌, refl, unwrap_or}
use Rattle.std.proofs.Common.{sym, ◌∙◌, ap}
use base.Stored.{Coded, Gv, gnil, gnum, gcons}
use Rattle.wire_signature.specs.declared.basic.BasicType.{BasicType}
use Rattle.wire_signature.specs.declared.basic.BasicType.TheVariants.{Byte}
use Rattle.wire_signature.specs.SingleType.{letter}
use Rattle.wire_signature.specs.SingleTypeCode as types
use Rattle.wire_tree.specs.Datum.{FixedType, byte, boolean, int16, uint16, int32, uint32, int64, uint64, double, unix_fd, StringLike, string, object_path, signature}
use Rattle.wire_tree.specs.Datum.{Datum, num, text, array, dict, struct, variant, Data, no_data, items, num_type, text_type}

-- the type of a number by the code of its letter; of other codes nothing is said
abbrev pub num_at : ℕ → FixedType
num_at c =
    if c == 121 then byte else if c == 98 then boolean else if c == 110 then int16
    else if c == 113 then uint16 else if c == 105 then int32 else if c == 117 then uint32
    else if c == 120 then int64 else if c == 116 then uint64 else if c == 100 then double else unix_fd

-- From the letter of its type a fixed type is found again.
pub num_at-letter : (n : FixedType) → num_at (letter (num_type n)) ≡ n
num_at-letter byte = refl
num_at-letter n = refl

-- the type of a text by its letter, which is found again from it
abbrev pub text_at : ℕ → StringLike
text_at c = if c == 115 then string else if c == 111 then object_path else signature

text_at-letter : (t : StringLike) → text_at (letter (text_type t)) ≡ t
text_at-letter string = refl
text_at-letter object_path = refl
text_at-letter signature = refl

basic_at-letter : (b : BasicType) → types.basic_at (letter b) ≡ b
basic_at-letter b = ap (λ o. unwrap_or o Byte) (types.basic_of-letter b)

-- the bytes of a text as a tree of numbers
abbrev pub bytes_code : List ℕ → Gv
bytes_code [] = gnil
bytes_code (b ∷ bs) = gcons (gnum b) (bytes_code bs)

-- the bytes that a tree of numbers holds
abbrev pub bytes_in : Gv → List ℕ
bytes_in gnil = []
bytes_in (gnum n) = []
bytes_in (gcons a b) = types.number_in a ∷ bytes_in b

bytes_in-code : (bs : List ℕ) → bytes_in (bytes_code bs) ≡ bs
bytes_in-code [] = refl
bytes_in-code (b ∷ bs) = ap (λ cs. b ∷ cs) (bytes_in-code bs)

-- a value as a tree of numbers, and a list of values as one
abbrev mutual
  pub code : Datum → Gv
  code (num n v) = gcons (gcons (gnum 0) (gnum (letter (num_type n)))) (gnum v)
  code (text t bytes) = gcons (gcons (gnum 1) (gnum (letter (text_type t)))) (bytes_code bytes)
  code (array t ds) = gcons (gcons (gnum 2) (types.code t)) (codes ds)
  code (dict k v es) = gcons (gcons (gcons (gnum 0) (gnum (letter k))) (types.code v)) (codes es)
  code (struct ds) = gcons (gnum 0) (codes ds)
  code (variant d) = gcons (gnum 1) (code d)

  pub codes : Data → Gv
  codes no_data = gnil
  codes (items d ds) = gcons (code d) (codes ds)

-- a tree of numbers read in each way
pub record Read : Type 0 where
  pub one : Datum
  pub list : Data

-- what stands for a value where a tree of numbers is none: a struct without fields, which no message holds
abbrev pub nothing : Datum
nothing = struct no_data

-- what is read from a tree of numbers that is neither a value nor a list with values in it
abbrev pub none : Read
none = record { one = nothing; list = no_data }

-- a value by its first part, which says what it is, and its second
abbrev pub typed_by : Gv → Gv → Gv → Read → Datum
typed_by gnil x b r = nothing
typed_by (gnum zero) x b r = num (num_at (types.number_in x)) (types.number_in b)
typed_by (gnum (suc zero)) x b r = text (text_at (types.number_in x)) (bytes_in b)
typed_by (gnum (suc (suc n))) x b r = array (types.back x).0 r.list
typed_by (gcons m k) x b r = dict (types.basic_at (types.number_in k)) (types.back x).0 r.list

-- a value by the first part of its tree, which says of what kind it is, and the second, both as it is and as it reads
abbrev pub form_of : Gv → Gv → Read → Datum
form_of gnil b r = nothing
form_of (gnum zero) b r = struct r.list
form_of (gnum (suc n)) b r = variant r.one
form_of (gcons m x) b r = typed_by m x b r

-- a tree of numbers read back, as a value and as a list of values
abbrev pub back : Gv → Read
back gnil = none
back (gnum n) = none
back (gcons a b) = record { one = form_of a b (back b); list = items (back a).one (back b).list }

-- The tree of a value is read back as that value, and the tree of a list of values as that list.
mutual
  pub back-code : (d : Datum) → (back (code d)).one ≡ d
  back-code (num n v) = ap (λ m. num m v) (num_at-letter n)
  back-code (text t bytes) = ap (λ s. text s (bytes_in (bytes_code bytes))) (text_at-letter t) ∙ ap (text t) (bytes_in-code bytes)
  back-code (array t ds) = ap (λ s. array s (back (codes ds)).list) (types.back-code t) ∙ ap (array t) (back-codes ds)
  back-code (dict k v es) =
      ap (λ b. dict b (types.back (types.code v)).0 (back (codes es)).list) (basic_at-letter k)
      ∙ ap (λ s. dict k s (back (codes es)).list) (types.back-code v) ∙ ap (dict k v) (back-codes es)
  back-code (struct ds) = ap struct (back-codes ds)
  back-code (variant d) = ap variant (back-code d)

  pub back-codes : (ds : Data) → (back (codes ds)).list ≡ ds
  back-codes no_data = refl
  back-codes (items d ds) = ap (λ e. items e (back (codes ds)).list) (back-code d) ∙ ap (items d) (back-codes ds)

-- Two values with one tree of numbers are one value.
pub code-inj : (d e : Datum) → code d ≡ code e → d ≡ e
code-inj d e p = sym (back-code d) ∙ ap (λ g. (back g).one) p ∙ back-code e

-- values, told apart by their trees of numbers
abbrev pub datum_code : Coded Datum
datum_code = record { code = code; inj = code-inj }
