-- Walking by the text of a type leads as far as reading by the type.
use Rattle.std.proofs.Common.{◌≡◌, ℕ, zero, suc, ◌-◌, ◌<◌, ◌≤◌, if◌then◌else◌, List, [], ◌∷◌, ◌++◌, length, drop, Option, Some, None, is_some, refl, sym, ◌∙◌, ap, arith, option_map, append_assoc, append-nil, length-append}
use Rattle.std.proofs.Math.Path.{fun_ext}
use Rattle.std.proofs.lemmas.List.{drop_at}
use Rattle.std.specs.Int.{w8}
use Rattle.wire_number.specs.declared.endian.Endian.{Endian}
use Rattle.wire_number.specs.Reading.{Cursor, Parse, made, behind, ◌>>=◌, align_at, counted_at}
use Rattle.wire_number.proofs.Steps.{some_is}
use Rattle.wire_signature.specs.declared.basic.BasicType.{BasicType}
use Rattle.wire_signature.specs.declared.basic.BasicType.TheVariants as basics
use Rattle.wire_signature.specs.SingleType.{SingleType, basic, variant as any, array as array_of, dict as dict_of, struct as struct_of, SingleTypes, no_single_types, single_types, letter, type_text, types_text, basic_of, alignment, array_depth, array_depths, struct_depth, struct_depths, HasFields, AllHaveFields, IsType, BeginsWithType, TypeText}
use Rattle.wire_signature.specs.SingleTypeCode.{basic_of-letter}
use Rattle.wire_signature.specs.Parsing.{type_in}
use Rattle.wire_signature.proofs.Exact.{begins_again, type_in-takes}
use Rattle.wire_tree.specs.Datum.{Datum, array, dict, struct, variant, data_of, entry_type}
use Rattle.wire_encoding.specs.Reading.{basic_at, none_at, many_at, more_at, elements_at, array_at, variant_at, fields_at, struct_at, value_at}
use Rattle.wire_encoding.specs.Walking.{skip_bracket, letter_boundary, text_boundary, text_behind, leaving, Walk, over_array, fields_step, over_fields, over_struct, over_variant, letter_walk, walk_at}
use Rattle.wire_encoding.proofs.Loops.{with_first}

-- ---- steps of the walk

pub walk_nothing : (room : ℕ) (order : Endian) (c : Cursor) → walk_at room order [] c ≡ None
unfolding walk_at
walk_nothing zero order c = refl
walk_nothing (suc room) order c = refl

pub walk_basic : (room : ℕ) (order : Endian) (text : List ℕ) (l : ℕ) (rest : List ℕ) (c : Cursor) (b : BasicType) (found : Option Cursor)
    → text ≡ l ∷ rest → Some b ≡ basic_of l → behind (basic_at b order c) ≡ found → walk_at room order text c ≡ leaving rest found
unfolding walk_at
walk_basic zero order text l rest c b found s e f = rw (s, ← e, f) refl
walk_basic (suc room) order text l rest c b found s e f = rw (s, ← e, f) refl

pub walk_shut : (order : Endian) (l : ℕ) (rest : List ℕ) (c : Cursor) → basic_of l ≡ None → walk_at 0 order (l ∷ rest) c ≡ None
unfolding walk_at
walk_shut order l rest c e = rw e refl

pub walk_opened : (room : ℕ) (order : Endian) (l : ℕ) (rest : List ℕ) (c : Cursor) → 0 < room → basic_of l ≡ None
    → walk_at room order (l ∷ rest) c ≡ letter_walk (walk_at (room - 1) order) order l rest None c
unfolding walk_at
walk_opened zero order l rest c h e = absurd (omega arith)
walk_opened (suc room) order l rest c h e = let k : suc room - 1 ≡ room = omega arith in rw (k, e) refl

pub ruleset walking = (walk_nothing, walk_shut, walk_opened)

pub over_end : (n : ℕ) (over : Walk) (text rest : List ℕ) (c : Cursor) → 0 < n → skip_bracket text ≡ Some rest → over_fields n over text c ≡ Some (rest, c)
unfolding over_fields
over_end zero over text rest c h e = absurd (omega arith)
over_end (suc n) over text rest c h e = ap (fields_step (over_fields n over) over text c) e

pub over_more : (n m : ℕ) (over : Walk) (text : List ℕ) (c : Cursor) (found : Parse (List ℕ)) → n ≡ suc m → skip_bracket text ≡ None → over text c ≡ found
    → over_fields n over text c ≡ (found >>= λ x. over_fields m over x.0 x.1)
unfolding over_fields
over_more n m over text c found q e f = rw (q, e, f) refl

pub over_out : (n : ℕ) (over : Walk) (text : List ℕ) (c : Cursor) → n ≡ 0 → over_fields n over text c ≡ None
unfolding over_fields
over_out n over text c q = rw q refl

pub ruleset fielding = (over_end, over_out)

-- ---- what a walk owes to reading

behind-made : {A B : Type 0} (f : A → B) (found : Parse A) → behind (made f found) ≡ behind found
behind-made f None = refl
behind-made f (Some x) = refl

-- where a walk finds nothing, nothing was read; where it finds something, it is what was read
pub left_none : {A : Type 0} (rest : List ℕ) (found : Parse A) → leaving rest (behind found) ≡ None → found ≡ None
left_none rest None e = refl
left_none rest (Some x) e = absurd (cc)

pub left_some : {A : Type 0} (rest : List ℕ) (found : Parse A) (y : List ℕ × Cursor) → leaving rest (behind found) ≡ Some y → (a : A) × (found ≡ Some (a, y.1))
left_some rest None y e = absurd (cc)
left_some rest (Some x) y e = let same : (rest, x.1) ≡ y = some_is _ _ e in (x.0, ap (λ y. Some (x.0, y.1)) same)

-- a type within the limits on nesting, and types (D-Bus Specification, "Valid Signatures")
record IsShallow (t : SingleType) : Type 0 where
  pub arrays : array_depth t ≤ 32
  pub structs : struct_depth t ≤ 32
  pub fields : HasFields t

abbrev AreShallow : SingleTypes → Type 0
AreShallow no_single_types = Unit {0}
AreShallow (single_types t ts) = IsShallow t × AreShallow ts

all_shallow : (ts : SingleTypes) → array_depths ts ≤ 32 → struct_depths ts ≤ 32 → AllHaveFields ts → AreShallow ts
all_shallow no_single_types a s f = tt
all_shallow (single_types t ts) a s f = (record { arrays = omega arith; structs = omega arith; fields = f.0 }, all_shallow ts (omega arith) (omega arith) f.1)

-- A walk leads by the text of each type as far as reading does.
abbrev Follows : Walk → (SingleType → Cursor → Parse Datum) → Type 0
Follows over read = (t : SingleType) (rest : List ℕ) (c : Cursor) → IsShallow t → over (type_text t ++ rest) c ≡ leaving rest (behind (read t c))

-- ---- arrays

boundary_is : (t : SingleType) (rest : List ℕ) → text_boundary (type_text t ++ rest) ≡ alignment t
boundary_is (basic b) rest = ap (letter_boundary (letter b)) (basic_of-letter b)
boundary_is t rest = refl

-- the text behind a type is what stands behind its text
rest_of_type : (t : SingleType) (rest : List ℕ) → IsShallow t → text_behind (type_text t ++ rest) ≡ Some rest
rest_of_type t rest h =
    let k : BeginsWithType (type_text t ++ rest) (length (type_text t)) =
    record { first = t; rest = rest; text = refl; long = refl; arrays = h.arrays; structs = h.structs; fields = h.fields } in
    ap (option_map (λ n. drop n (type_text t ++ rest))) (begins_again (type_text t ++ rest) (length (type_text t)) k)
    ∙ ap Some (drop_at (type_text t) rest (length (type_text t)) refl)

-- where a walk leads as far as reading does, it finds as many elements
pub many_leaving : {A : Type 0} (n : ℕ) (rest : List ℕ) (read : Cursor → Parse A) (c : Cursor)
    → is_some (many_at n (λ c. leaving rest (behind (read c))) c) ≡ is_some (many_at n read c)
unfolding many_at
many_leaving {A} zero rest read c = none c.rest where
  none : (bs : List ℕ) → is_some (none_at {A = List ℕ} bs) ≡ is_some (none_at {A = A} bs)
  none [] = refl
  none (b ∷ bs) = refl
many_leaving {A} (suc n) rest read c = more (many_leaving n rest read) c.rest (read c) refl where
  more : ((c : Cursor) → is_some (many_at n (λ c. leaving rest (behind (read c))) c) ≡ is_some (many_at n read c))
      → (bs : List ℕ) (found : Parse A) → read c ≡ found
      → is_some (more_at (many_at n (λ c. leaving rest (behind (read c)))) (λ c. leaving rest (behind (read c))) c bs) ≡ is_some (more_at (many_at n read) read c bs)
  more same [] found e = refl
  more same (b ∷ bs) None e = rw e refl
  more same (b ∷ bs) (Some x) e =
      rw e (with_first rest (many_at n (λ c. leaving rest (behind (read c))) x.1) ∙ same x.1 ∙ sym (with_first x.0 (many_at n read x.1)))

-- the end of an array, where its elements are there
array_end : {A B : Type 0} (hold : List A → B) (rest : List ℕ) (found : Option (List A)) (after : Cursor)
    → (if is_some found then Some (rest, after) else None) ≡ leaving rest (behind (made hold (found >>= λ xs. Some (xs, after))))
array_end hold rest None after = refl
array_end hold rest (Some xs) after = refl

array_same : (hold : List Datum → Datum) (over : Walk) (read : Cursor → Parse Datum) (order : Endian) (element rest : List ℕ) (boundary : ℕ) (c : Cursor)
    → text_behind (97 ∷ element) ≡ Some rest → text_boundary element ≡ boundary → ((c : Cursor) → over element c ≡ leaving rest (behind (read c)))
    → over_array over order (97 ∷ element) element c ≡ leaving rest (behind (made hold (array_at boundary read order c)))
unfolding array_at
array_same hold over read order element rest boundary c e b same = rw (e, b) (by (elements_at order boundary c)) where
  by : (found : Option (Cursor × Cursor)) → (found >>= λ x. if is_some (many_at (length x.0.rest) (over element) x.0) then Some (rest, x.1) else None)
      ≡ leaving rest (behind (made hold (found >>= λ x. many_at (length x.0.rest) read x.0 >>= λ xs. Some (xs, x.1))))
  by None = refl
  by (Some x) =
      ap (λ b. if b then Some (rest, x.1) else None)
      (ap (λ walk. is_some (many_at (length x.0.rest) walk x.0)) (fun_ext same) ∙ many_leaving (length x.0.rest) rest read x.0)
      ∙ array_end hold rest (many_at (length x.0.rest) read x.0) x.1

-- ---- fields

-- the bracket that closes a struct or a dict entry
abbrev IsBracket : ℕ → Type 0
IsBracket close = (rest : List ℕ) → skip_bracket (close ∷ rest) ≡ Some rest

no_bracket : (t : SingleType) (rest : List ℕ) → skip_bracket (type_text t ++ rest) ≡ None
no_bracket (basic basics.Byte) rest = refl
no_bracket (basic b) rest = refl
no_bracket t rest = refl

pub types_length : (t : SingleType) → 0 < length (type_text t)
types_length (basic b) = omega arith
types_length t = omega arith

fields_same : (over : Walk) (read : SingleType → Cursor → Parse Datum) → Follows over read
    → (n : ℕ) (ts : SingleTypes) (close : ℕ) (rest : List ℕ) (c : Cursor) → AreShallow ts → IsBracket close → length (types_text ts) < n
    → over_fields n over (types_text ts ++ (close ∷ rest)) c ≡ leaving rest (behind (fields_at read ts c))
unfolding fields_at
fields_same over read same zero ts close rest c h b l = absurd (omega arith)
fields_same over read same (suc n) no_single_types close rest c h b l = over_end (suc n) over (close ∷ rest) rest c (omega arith) (b rest)
fields_same over read same (suc n) (single_types t ts) close rest c h b l =
    let others : List ℕ = types_text ts ++ (close ∷ rest) in
    ap (λ text. over_fields (suc n) over text c) (append_assoc (type_text t) (types_text ts) (close ∷ rest))
    ∙ over_more (suc n) n over (type_text t ++ others) c _ refl (no_bracket t others) (same t others c h.0)
    ∙ by (λ c. fields_same over read same n ts close rest c h.1 b (omega (arith, l, length-append (type_text t) (types_text ts), types_length t))) (read t c) where
      by : ((c : Cursor) → over_fields n over (types_text ts ++ (close ∷ rest)) c ≡ leaving rest (behind (fields_at read ts c)))
          → (found : Parse Datum) → (leaving (types_text ts ++ (close ∷ rest)) (behind found) >>= λ x. over_fields n over x.0 x.1)
          ≡ leaving rest (behind (found >>= λ x. made (λ ds. x.0 ∷ ds) (fields_at read ts x.1)))
      by others None = refl
      by others (Some x) = others x.1 ∙ ap (leaving rest) (sym (behind-made (λ ds. x.0 ∷ ds) (fields_at read ts x.1)))

struct_same : (over : Walk) (read : SingleType → Cursor → Parse Datum) → Follows over read
    → (ts : SingleTypes) (close : ℕ) (rest : List ℕ) (c : Cursor) → AreShallow ts → IsBracket close
    → over_struct over (types_text ts ++ (close ∷ rest)) c ≡ leaving rest (behind (made (λ ds. struct (data_of ds)) (struct_at read ts c)))
unfolding struct_at
struct_same over read same ts close rest c h b = by (align_at 8 c) where
  by : (found : Option Cursor) → (found >>= over_fields (length (types_text ts ++ (close ∷ rest))) over (types_text ts ++ (close ∷ rest)))
      ≡ leaving rest (behind (made (λ ds. struct (data_of ds)) (found >>= fields_at read ts)))
  by None = refl
  by (Some c) =
      fields_same over read same _ ts close rest c h b (omega (arith, length-append (types_text ts) (close ∷ rest)))
      ∙ ap (leaving rest) (sym (behind-made (λ ds. struct (data_of ds)) (fields_at read ts c)))

-- ---- variants

variant_same : (over : Walk) (read : SingleType → Cursor → Parse Datum) → Follows over read
    → (order : Endian) (rest : List ℕ) (c : Cursor) → over_variant over order rest c ≡ leaving rest (behind (variant_at read order c))
unfolding variant_at
variant_same over read same order rest c = by (counted_at w8 order c) where
  by : (found : Parse (List ℕ)) → (found >>= λ s. if is_some (type_in s.0) then over s.0 s.1 >>= (λ x. Some (rest, x.1)) else None)
      ≡ leaving rest (behind (found >>= λ s. type_in s.0 >>= λ t. made variant (read t s.1)))
  by None = refl
  by (Some s) = kind (type_in s.0) refl where
    end : (found : Parse Datum) → (leaving [] (behind found) >>= λ x. Some (rest, x.1)) ≡ leaving rest (behind (made variant found))
    end None = refl
    end (Some x) = refl

    kind : (k : Option SingleType) → type_in s.0 ≡ k → (if is_some k then over s.0 s.1 >>= (λ x. Some (rest, x.1)) else None)
        ≡ leaving rest (behind (k >>= λ t. made variant (read t s.1)))
    kind None e = refl
    kind (Some t) e =
        let x : TypeText t s.0 = type_in-takes s.0 t e in
        let h : IsShallow t = record { arrays = x.valid.arrays; structs = x.valid.structs; fields = x.valid.fields } in
        ap (λ text. over text s.1 >>= λ x. Some (rest, x.1)) (x.text ∙ sym (append-nil (type_text t)))
        ∙ ap (λ found. found >>= λ x. Some (rest, x.1)) (same t [] s.1 h) ∙ end (read t s.1)

-- ---- all values

mutual
  unfolding walk_at value_at

  type_same : (room : ℕ) (order : Endian) → Follows (walk_at room order) (value_at room order)
  type_same zero order (basic b) rest c h = rw (basic_of-letter b) refl
  type_same zero order t rest c h = refl
  type_same (suc room) order (basic b) rest c h = rw (basic_of-letter b) refl
  type_same (suc room) order any rest c h = variant_same (walk_at room order) (value_at room order) (type_same room order) order rest c
  type_same (suc room) order (array_of t) rest c h =
      array_same (λ ds. array t (data_of ds)) (walk_at room order) (value_at room order t) order (type_text t ++ rest) rest (alignment t) c
      (rest_of_type (array_of t) rest h) (boundary_is t rest)
      (λ c. type_same room order t rest c (record { arrays = omega (arith, h.arrays); structs = h.structs; fields = h.fields }))
  type_same (suc room) order (dict_of k v) rest c h =
      array_same (λ ds. dict k v (data_of ds)) (walk_at room order) (value_at room order (entry_type k v)) order
      (123 ∷ letter k ∷ ((type_text v ++ 125 ∷ []) ++ rest)) rest 8 c (rest_of_type (dict_of k v) rest h) refl
      (λ c. entry_same room order k v rest c (record { arrays = omega (arith, h.arrays); structs = omega (arith, h.structs); fields = h.fields }))
  type_same (suc room) order (struct_of ts) rest c h =
      rw (append_assoc (types_text ts) (41 ∷ []) rest)
      (struct_same (walk_at room order) (value_at room order) (type_same room order) ts 41 rest c
      (all_shallow ts (omega (arith, h.arrays)) (omega (arith, h.structs)) h.fields.1) (λ r. refl))

  -- the same over a dict entry, which stands in an array alone (D-Bus Specification, "Container types")
  entry_same : (room : ℕ) (order : Endian) (k : BasicType) (v : SingleType) (rest : List ℕ) (c : Cursor) → IsShallow v
      → walk_at room order (123 ∷ letter k ∷ ((type_text v ++ 125 ∷ []) ++ rest)) c ≡ leaving rest (behind (value_at room order (entry_type k v) c))
  entry_same zero order k v rest c h = refl
  entry_same (suc room) order k v rest c h =
      rw (append_assoc (type_text v) (125 ∷ []) rest, sym (append-nil (type_text v)))
      (struct_same (walk_at room order) (value_at room order) (type_same room order) (single_types (basic k) (single_types v no_single_types)) 125 rest c
      (record { arrays = omega arith; structs = omega arith; fields = tt }, (h, tt)) (λ r. refl))

-- A walk by the text of a type leads over its value, as far as reading does.
pub walks : (room : ℕ) (order : Endian) (t : SingleType) (rest : List ℕ) (c : Cursor) → IsType t
    → walk_at room order (type_text t ++ rest) c ≡ leaving rest (behind (value_at room order t c))
walks room order t rest c h = type_same room order t rest c (record { arrays = h.arrays; structs = h.structs; fields = h.fields })
