-- The text of a type within the limits is read as that type.
use Rattle.std.proofs.Common.{◌≡◌, ℕ, zero, suc, ◌+◌, ◌-◌, ◌<◌, ◌≤◌, Bool, true, nat_lt, if◌then◌else◌, List, [], ◌∷◌, ◌++◌, length, Option, Some, None, refl, ◌∙◌, ap, arith, option_and_then, append_assoc, length-append}
use borrow.Author.Tests.{lt-ltb}
use Rattle.wire_signature.specs.declared.basic.BasicType.{BasicType}
use Rattle.wire_signature.specs.declared.basic.BasicType.TheVariants.{Byte}
use Rattle.wire_signature.specs.declared.walk.End.{End}
use Rattle.wire_signature.specs.declared.walk.End.TheVariants as ends
use Rattle.wire_signature.specs.SingleType.{SingleType, basic, variant, array, dict, struct, SingleTypes, no_single_types, single_types, single_types_of, list_of, letter, type_text, types_text, array_depth, array_depths, struct_depth, struct_depths, HasFields, AllHaveFields, AreFields}
use Rattle.wire_signature.specs.SingleTypeCode.{basic_of-letter}
use Rattle.wire_signature.specs.Parsing.{Found, skip_byte, behind, as_array, entry_at, array_or_dict, with_first, many_at, fields_at, type_step, type_at}
use Rattle.wire_signature.proofs.Steps.{many_at-end, many_at-more}

pub single_types_of-list_of : (ts : SingleTypes) → single_types_of (list_of ts) ≡ ts
single_types_of-list_of no_single_types = refl
single_types_of-list_of (single_types t ts) = ap (single_types t) (single_types_of-list_of ts)

pub list_of-single_types_of : (ts : List SingleType) → list_of (single_types_of ts) ≡ ts
list_of-single_types_of [] = refl
list_of-single_types_of (t ∷ ts) = ap (λ us. t ∷ us) (list_of-single_types_of ts)

-- a basic type's letter is no other mark
no_bracket : (b : BasicType) (rest : List ℕ) → (skip_byte 41 (letter b ∷ rest) ≡ None) × (skip_byte 123 (letter b ∷ rest) ≡ None)
no_bracket Byte rest = (refl, refl)
no_bracket b rest = (refl, refl)

-- no type begins with the bracket that opens a dict entry, nor with the one that closes a struct
no_entry : (t : SingleType) (rest : List ℕ) → skip_byte 123 (type_text t ++ rest) ≡ None
no_entry (basic b) rest = (no_bracket b rest).1
no_entry t rest = refl

no_end : (until : End) (t : SingleType) (rest : List ℕ) → behind until (type_text t ++ rest) ≡ None
no_end ends.Bracket (basic b) rest = (no_bracket b rest).0
no_end ends.Text (basic b) rest = refl
no_end until t rest = refl

some_text : (t : SingleType) → 0 < length (type_text t)
some_text (basic b) = omega arith
some_text t = omega arith

basic_again : (read : ℕ → ℕ → List ℕ → Found SingleType) (a s : ℕ) (b : BasicType) (rest : List ℕ) → type_step read a s (letter b ∷ rest) ≡ Some (basic b, rest)
basic_again read a s Byte rest = refl
basic_again read a s b rest = refl

if_true : {A : Type 0} (b : Bool) (x y : A) → b ≡ true → (if b then x else y) ≡ x
if_true b x y e = ap (λ b. if b then x else y) e

array_step : (read : ℕ → ℕ → List ℕ → Found SingleType) (a s : ℕ) (rest : List ℕ) → 0 < a
    → type_step read a s (97 ∷ rest) ≡ array_or_dict (read (a - 1) s) rest (skip_byte 123 rest)
array_step read a s rest h = if_true (nat_lt 0 a) _ _ (lt-ltb 0 a h)

struct_step : (read : ℕ → ℕ → List ℕ → Found SingleType) (a s : ℕ) (rest : List ℕ) → 0 < s
    → type_step read a s (40 ∷ rest) ≡ fields_at (read a (s - 1)) rest (skip_byte 41 rest)
struct_step read a s rest h = if_true (nat_lt 0 s) _ _ (lt-ltb 0 s h)

entry_again : (read : List ℕ → Found SingleType) (k : BasicType) (v : SingleType) (rest : List ℕ)
    → read (type_text v ++ (125 ∷ rest)) ≡ Some (v, 125 ∷ rest)
    → entry_at read (letter k ∷ ((type_text v ++ (125 ∷ [])) ++ rest)) ≡ Some (dict k v, rest)
entry_again read k v rest e =
    let value : Found SingleType → BasicType → Found SingleType = λ found key. option_and_then (λ x. option_and_then (λ end. Some (dict key x.0, end)) (skip_byte 125 x.1)) found in
    ap (λ (o : Option BasicType). option_and_then (value (read ((type_text v ++ (125 ∷ [])) ++ rest))) o) (basic_of-letter k)
    ∙ ap (λ r. value (read r) k) (append_assoc (type_text v) (125 ∷ []) rest) ∙ ap (λ found. value found k) e

-- a struct's fields are read up to its closing bracket
fields_again : (read : List ℕ → Found SingleType) (ts : SingleTypes) (rest : List ℕ) → skip_byte 41 (types_text ts ++ (41 ∷ rest)) ≡ None
    → many_at (length (types_text ts ++ (41 ∷ rest))) ends.Bracket read (types_text ts ++ (41 ∷ rest)) ≡ Some (list_of ts, rest)
    → fields_at read ((types_text ts ++ (41 ∷ [])) ++ rest) (skip_byte 41 ((types_text ts ++ (41 ∷ [])) ++ rest)) ≡ Some (struct ts, rest)
fields_again read ts rest h e =
    ap (λ r. fields_at read r (skip_byte 41 r)) (append_assoc (types_text ts) (41 ∷ []) rest)
    ∙ ap (fields_at read (types_text ts ++ (41 ∷ rest))) h
    ∙ ap (option_and_then (λ x. Some (struct (single_types_of x.0), x.1))) e
    ∙ ap (λ us. Some (struct us, rest)) (single_types_of-list_of ts)

no_close : (ts : SingleTypes) (rest : List ℕ) → AreFields ts → skip_byte 41 (types_text ts ++ (41 ∷ rest)) ≡ None
no_close no_single_types rest h = absurd h
no_close (single_types t ts) rest h = ap (skip_byte 41) (append_assoc (type_text t) (types_text ts) (41 ∷ rest)) ∙ no_end ends.Bracket t (types_text ts ++ (41 ∷ rest))

mutual
  unfolding type_at

  pub type_again : (room a s : ℕ) (t : SingleType) (rest : List ℕ) → a + s < room → array_depth t ≤ a → struct_depth t ≤ s → HasFields t
      → type_at room a s (type_text t ++ rest) ≡ Some (t, rest)
  type_again zero a s t rest r i j h = absurd (omega arith)
  type_again (suc room) a s (basic b) rest r i j h = basic_again (type_at room) a s b rest
  type_again (suc room) a s variant rest r i j h = refl
  type_again (suc room) a s (array t) rest r i j h =
      array_step (type_at room) a s (type_text t ++ rest) (omega arith)
      ∙ ap (array_or_dict (type_at room (a - 1) s) (type_text t ++ rest)) (no_entry t rest)
      ∙ ap as_array (type_again room (a - 1) s t rest (omega arith) (omega arith) j h)
  type_again (suc room) a s (dict k v) rest r i j h =
      array_step (type_at room) a s (123 ∷ letter k ∷ ((type_text v ++ (125 ∷ [])) ++ rest)) (omega arith)
      ∙ entry_again (type_at room (a - 1) s) k v rest (type_again room (a - 1) s v (125 ∷ rest) (omega arith) (omega arith) j h)
  type_again (suc room) a s (struct ts) rest r i j h =
      struct_step (type_at room) a s ((types_text ts ++ (41 ∷ [])) ++ rest) (omega arith)
      ∙ fields_again (type_at room a (s - 1)) ts rest (no_close ts rest h.0)
      (types_again (length (types_text ts ++ (41 ∷ rest))) room a (s - 1) ends.Bracket ts (41 ∷ rest) rest (omega arith) i (omega arith) h.1 (omega (arith, length-append (types_text ts) (41 ∷ rest))) refl)

  pub types_again : (n room a s : ℕ) (until : End) (ts : SingleTypes) (left rest : List ℕ) → a + s < room → array_depths ts ≤ a → struct_depths ts ≤ s → AllHaveFields ts
      → length (types_text ts) ≤ n → behind until left ≡ Some rest
      → many_at n until (type_at room a s) (types_text ts ++ left) ≡ Some (list_of ts, rest)
  types_again n room a s until no_single_types left rest r i j h l e = many_at-end n until (type_at room a s) left rest e
  types_again zero room a s until (single_types t ts) left rest r i j h l e = absurd (omega (arith, some_text t, length-append (type_text t) (types_text ts)))
  types_again (suc n) room a s until (single_types t ts) left rest r i j h l e =
      ap (many_at (suc n) until (type_at room a s)) (append_assoc (type_text t) (types_text ts) left)
      ∙ many_at-more n until (type_at room a s) (type_text t ++ (types_text ts ++ left)) (no_end until t (types_text ts ++ left))
      ∙ ap (option_and_then (λ x. with_first x.0 (many_at n until (type_at room a s) x.1))) (type_again room a s t (types_text ts ++ left) r (omega arith) (omega arith) h.0)
      ∙ ap (with_first t) (types_again n room a s until ts left rest r (omega arith) (omega arith) h.1 (omega (arith, some_text t, length-append (type_text t) (types_text ts))) e)
