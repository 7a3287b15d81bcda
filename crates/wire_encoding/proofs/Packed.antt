-- Numbers that lie packed: one behind the other from a multiple of their width on, so without padding between them.
use Rattle.std.proofs.Common.{◌≡◌, ℕ, zero, suc, ◌+◌, ◌-◌, ◌*◌, ◌/◌, ◌%◌, ◌<◌, ◌≤◌, Bool, true, false, ◌==◌, nat_le, nat_lt, if◌then◌else◌, List, [], ◌∷◌, ◌++◌, length, take, drop, map, Option, Some, None, is_some, refl, sym, ◌∙◌, ap, arith}
use Rattle.std.specs.Int.{byte_len, w32}
use Rattle.std.proofs.Math.Nat.{mod_self, add-mod_right, suc-mul}
use Rattle.std.proofs.lemmas.Nat.{div-add-mod'}
use Rattle.std.proofs.Math.Path.{fun_ext}
use Rattle.std.specs.List.{list_all}
use Rattle.wire_number.proofs.Multiples.{padded-is-multiple}
use Rattle.std.proofs.lemmas.Bool.{eqb-true, eqb-false, le-leb, lt-ltb, leb-true, leb-false, ltb-true, ltb-false}
use Rattle.std.proofs.lemmas.Bool.Decides.{nat_tests}
use Rattle.std.proofs.lemmas.List.{length-drop, drop-drop, take-append-drop}
use Rattle.wire_number.specs.declared.endian.Endian.{Endian}
use Rattle.wire_number.specs.declared.endian.Endian.TheVariants.{Little, Big}
use Rattle.wire_number.specs.Number.{number, number_at as number_in, pad}
use Rattle.wire_number.specs.Reading.{Cursor, made, ◌>>=◌, zeros, bytes_at, align_at, number_at}
use Rattle.wire_number.proofs.Steps.{at, AreBytes, bytes-append, limit, bind_some, guard_some, some_is, bound_some, guarded, align_again, number_takes}
use Rattle.wire_tree.specs.Datum.{FixedType, byte, boolean, num, num_type, width, bound}
use Rattle.wire_signature.specs.declared.basic.BasicType.{BasicType}
use Rattle.wire_signature.specs.declared.basic.BasicType.TheVariants as basics
use Rattle.wire_signature.specs.SingleType.{basic, basic_alignment, basic_of}
use Rattle.wire_encoding.specs.Encoding.{width_of}
use Rattle.wire_encoding.specs.Reading.{num_at, num_value_at, basic_at, many_at, elements_at, value_at}
use Rattle.wire_encoding.proofs.ReadAgain.{basic_room, num_basic}
use Rattle.wire_encoding.specs.Walking.{is_fixed, fixed_first, letter_boundary, text_boundary, walk_at}
use Rattle.wire_encoding.proofs.Walks.{walk_basic, many_leaving}
use Rattle.wire_encoding.proofs.Loops.{many_done, many_left, many_next, many_none, some_next}
use Rattle.wire_encoding.proofs.FoundValues.{num_width}

-- a number is as long as its boundary
pub width_is : (n : FixedType) → (byte_len (width_of n) ≡ width n) × (basic_alignment (num_type n) ≡ width n) × (1 ≤ width n)
width_is byte = (refl, refl, omega arith)
width_is n = (refl, refl, omega arith)

-- the number that stands first
abbrev pub first_number : FixedType → Endian → List ℕ → ℕ
first_number n order bytes = number (width_of n) order (take (width n) bytes)

-- so many numbers that stand one behind the other
abbrev pub numbers_in : FixedType → Endian → ℕ → List ℕ → List ℕ
numbers_in n order zero bytes = []
numbers_in n order (suc count) bytes = first_number n order bytes ∷ numbers_in n order count (drop (width n) bytes)

-- on a boundary no padding stands
pub no_padding : (boundary p : ℕ) (rest : List ℕ) → p % boundary ≡ 0 → align_at boundary (at p rest) ≡ Some (at p rest)
no_padding boundary p rest h =
    let none : pad p boundary ≡ 0 = rw h (ap (λ k. k % boundary) (omega arith) ∙ mod_self boundary) in
    let found = rw none at (align_again boundary p rest) in found ∙ ap (λ q. Some (at q rest)) (omega arith)

on_boundary : (n : FixedType) (c : Cursor) → c.place % width n ≡ 0 → align_at (basic_alignment (num_type n)) c ≡ Some c
on_boundary n c h = ap (λ k. align_at k c) (width_is n).1 ∙ no_padding (width n) c.place c.rest h

-- the number that stands first, where its bytes are there
number_there : (n : FixedType) (order : Endian) (c : Cursor) → width n ≤ length c.rest
    → number_at (width_of n) order c ≡ Some (first_number n order c.rest, at (c.place + width n) (drop (width n) c.rest))
unfolding number_at
number_there n order c long =
    ap (made (number (width_of n) order))
    (ap (λ k. bytes_at k c) (width_is n).0 ∙ guarded (nat_le (width n) (length c.rest)) _ (le-leb (width n) (length c.rest) long))

-- a number on its boundary, where its bytes are there
number_here : (n : FixedType) (order : Endian) (c : Cursor) → c.place % width n ≡ 0 → width n ≤ length c.rest
    → num_at n order c ≡ (if nat_lt (first_number n order c.rest) (bound n) then Some (first_number n order c.rest, at (c.place + width n) (drop (width n) c.rest)) else None)
unfolding num_at
number_here n order c h long = bound_some _ _ _ (on_boundary n c h) ∙ bound_some _ _ _ (number_there n order c long)

pub number_next : (n : FixedType) (order : Endian) (c : Cursor) → c.place % width n ≡ 0 → width n ≤ length c.rest → first_number n order c.rest < bound n
    → num_value_at n order c ≡ Some (num n (first_number n order c.rest), at (c.place + width n) (drop (width n) c.rest))
number_next n order c h long low =
    ap (made (num n)) (number_here n order c h long ∙ guarded (nat_lt (first_number n order c.rest) (bound n)) _ (lt-ltb _ _ low))

pub number_out : (n : FixedType) (order : Endian) (c : Cursor) → c.place % width n ≡ 0 → width n ≤ length c.rest → bound n ≤ first_number n order c.rest
    → num_value_at n order c ≡ None
number_out n order c h long high =
    let out : nat_lt (first_number n order c.rest) (bound n) ≡ false = grind (arith, nat_tests) in
    ap (made (num n)) (number_here n order c h long ∙ ap (λ b. if b then Some (first_number n order c.rest, at (c.place + width n) (drop (width n) c.rest)) else None) out)

-- too few bytes for a number
pub number_short : (n : FixedType) (order : Endian) (c : Cursor) → c.place % width n ≡ 0 → length c.rest < width n → num_value_at n order c ≡ None
unfolding num_at number_at
number_short n order c h short =
    let few : nat_le (width n) (length c.rest) ≡ false = grind (arith, nat_tests) in
    let missing : bytes_at (byte_len (width_of n)) c ≡ None =
    ap (λ k. bytes_at k c) (width_is n).0 ∙ ap (λ b. if b then Some (take (width n) c.rest, at (c.place + width n) (drop (width n) c.rest)) else None) few in
    ap (made (num n)) (bound_some _ _ _ (on_boundary n c h) ∙ ap (λ found. made (number (width_of n) order) found >>= λ x. if nat_lt x.0 (bound n) then Some x else None) missing)

-- ---- numbers that fill the bytes

-- Every number of the type's width is one of the type, as of all but booleans.
abbrev pub IsFull : FixedType → Type 0
IsFull n = limit (width_of n) ≤ bound n

low_first : (n : FixedType) (order : Endian) (c : Cursor) → IsFull n → AreBytes c.rest → width n ≤ length c.rest → first_number n order c.rest < bound n
low_first n order c full low long =
    let k = number_takes (width_of n) order c _ (num_width n).0 (number_there n order c long) low in
    let b : first_number n order c.rest < limit (width_of n) = k.below in omega arith

low_behind : (n : ℕ) (bytes : List ℕ) → AreBytes bytes → AreBytes (drop n bytes)
low_behind n bytes low = (bytes-append (take n bytes) (drop n bytes) (rw take-append-drop low)).1

-- Where the bytes are so many numbers, these are found.
pub packed : (n : FixedType) (order : Endian) (count m : ℕ) (c : Cursor) → IsFull n → AreBytes c.rest → c.place % width n ≡ 0 → length c.rest ≡ count * width n
    → length c.rest ≤ m → many_at m (num_value_at n order) c ≡ Some (map (num n) (numbers_in n order count c.rest))
packed n order zero m c full low h long most = many_done m (num_value_at n order) c (omega arith)
packed n order (suc count) zero c full low h long most = absurd (omega (arith, suc-mul count (width n), (width_is n).2))
packed n order (suc count) (suc m) c full low h long most =
    let some : 1 ≤ width n = (width_is n).2 in
    let more : length c.rest ≡ count * width n + width n = long ∙ suc-mul count (width n) in
    let next = number_next n order c h (omega arith) (low_first n order c full low (omega arith)) in
    many_next m (suc m) (num_value_at n order) c _ refl (omega arith) next
    ∙ bound_some _ _ _
    (packed n order count m (at (c.place + width n) (drop (width n) c.rest)) full (low_behind (width n) c.rest low) (add-mod_right c.place (width n) ∙ h)
    (omega (arith, length-drop (width n) c.rest)) (omega (arith, length-drop (width n) c.rest)))

some_rest : (k : ℕ) → (k ≡ 0 → ⊥) → 0 < k
some_rest zero h = absurd (h refl)
some_rest (suc k) h = omega arith

some_left : (n : FixedType) (k : ℕ) → 0 < k % width n → 0 < k
some_left byte k h = omega arith
some_left n k h = omega arith

left_behind : (n : FixedType) (bytes : List ℕ) → 0 < length bytes % width n → width n ≤ length bytes → 0 < length (drop (width n) bytes) % width n
left_behind byte bytes h long = omega arith
left_behind n bytes h long = omega (arith, length-drop (width n) bytes)

bound_none : {A B : Type 0} (found : Option A) (f : A → Option B) → found ≡ None → (found >>= f) ≡ None
bound_none found f e = ap (λ found. found >>= f) e

-- Where bytes are left over, nothing is.
pub left_over : (n : FixedType) (order : Endian) (m : ℕ) (c : Cursor) → c.place % width n ≡ 0 → 0 < length c.rest % width n → many_at m (num_value_at n order) c ≡ None
left_over n order zero c h over = many_left zero (num_value_at n order) c refl (some_left n (length c.rest) over)
left_over n order (suc m) c h over = by (λ c h over. left_over n order m c h over) (nat_le (width n) (length c.rest)) refl where
  some : 0 < length c.rest
  some = some_left n (length c.rest) over

  long_by : ((c : Cursor) → c.place % width n ≡ 0 → 0 < length c.rest % width n → many_at m (num_value_at n order) c ≡ None)
      → width n ≤ length c.rest → (b : Bool) → nat_lt (first_number n order c.rest) (bound n) ≡ b → many_at (suc m) (num_value_at n order) c ≡ None
  long_by others long false f = many_none m (suc m) (num_value_at n order) c refl some (number_out n order c h long (ltb-false _ _ f))
  long_by others long true f =
      many_next m (suc m) (num_value_at n order) c _ refl some (number_next n order c h long (ltb-true _ _ f))
      ∙ bound_none _ _
      (others (at (c.place + width n) (drop (width n) c.rest)) (add-mod_right c.place (width n) ∙ h) (left_behind n c.rest over long))

  by : ((c : Cursor) → c.place % width n ≡ 0 → 0 < length c.rest % width n → many_at m (num_value_at n order) c ≡ None)
      → (b : Bool) → nat_le (width n) (length c.rest) ≡ b → many_at (suc m) (num_value_at n order) c ≡ None
  by others false e = many_none m (suc m) (num_value_at n order) c refl some (number_short n order c h (leb-false _ _ e))
  by others true e = long_by others (leb-true _ _ e) (nat_lt (first_number n order c.rest) (bound n)) refl

-- Numbers that fill the bytes are found exactly where these are a multiple of their width, and which they are.
pub packed_found : (n : FixedType) (order : Endian) (c : Cursor) → IsFull n → AreBytes c.rest → c.place % width n ≡ 0
    → many_at (length c.rest) (num_value_at n order) c
    ≡ (if length c.rest % width n == 0 then Some (map (num n) (numbers_in n order (length c.rest / width n) c.rest)) else None)
packed_found n order c full low h = by (length c.rest % width n == 0) refl where
  by : (b : Bool) → (length c.rest % width n == 0) ≡ b
      → many_at (length c.rest) (num_value_at n order) c ≡ (if b then Some (map (num n) (numbers_in n order (length c.rest / width n) c.rest)) else None)
  by true e =
      let whole : length c.rest % width n ≡ 0 = eqb-true (length c.rest % width n) 0 e in
      packed n order (length c.rest / width n) (length c.rest) c full low h (omega (arith, div-add-mod' (length c.rest) (width n))) (omega arith)
  by false e = left_over n order (length c.rest) c h (some_rest (length c.rest % width n) (eqb-false (length c.rest % width n) 0 e))

some_if : {A : Type 0} (b : Bool) (x : A) → is_some (if b then Some x else None) ≡ b
some_if true x = refl
some_if false x = refl

packed_test : (n : FixedType) (order : Endian) (c : Cursor) → IsFull n → AreBytes c.rest → c.place % width n ≡ 0
    → (length c.rest % width n == 0) ≡ is_some (many_at (length c.rest) (num_value_at n order) c)
packed_test n order c full low h = sym (ap is_some (packed_found n order c full low h) ∙ some_if (length c.rest % width n == 0) _)

-- the same by the basic type
pub fixed_test : (b : BasicType) (order : Endian) (place : ℕ) (bytes : List ℕ) → is_fixed b ≡ true → (b ≡ basics.Boolean → ⊥) → AreBytes bytes
    → place % basic_alignment b ≡ 0 → (length bytes % basic_alignment b == 0) ≡ is_some (many_at (length bytes) (basic_at b order) (at place bytes))
fixed_test basics.String order place bytes fixed not low h = absurd (cc)
fixed_test basics.ObjectPath order place bytes fixed not low h = absurd (cc)
fixed_test basics.Signature order place bytes fixed not low h = absurd (cc)
fixed_test basics.Boolean order place bytes fixed not low h = absurd (not refl)
fixed_test b order place bytes fixed not low h = packed_test _ order (at place bytes) (omega arith) low h

-- the same by the type: of a basic one whatever the room
pub many_basic : (m room : ℕ) (order : Endian) (b : BasicType) (c : Cursor) → many_at m (value_at room order (basic b)) c ≡ many_at m (basic_at b order) c
many_basic m room order b c = ap (λ read. many_at m read c) (fun_ext (λ c. basic_room room order b c))

pub many_numbers : (m room : ℕ) (order : Endian) (n : FixedType) (c : Cursor) → many_at m (value_at room order (basic (num_type n))) c ≡ many_at m (num_value_at n order) c
many_numbers m room order n c = many_basic m room order (num_type n) c ∙ ap (λ read. many_at m read c) (fun_ext (λ c. num_basic n order c))

-- one number more
pub numbers_more : (n : FixedType) (order : Endian) (i : ℕ) (bytes : List ℕ)
    → numbers_in n order (suc i) bytes ≡ numbers_in n order i bytes ++ first_number n order (drop (i * width n) bytes) ∷ []
numbers_more n order zero bytes = let none : 0 ≡ zero * width n = omega arith in ap (λ k. first_number n order (drop k bytes) ∷ []) none
numbers_more n order (suc i) bytes =
    let place : width n + i * width n ≡ suc i * width n = omega (arith, suc-mul i (width n)) in
    let behind : drop (i * width n) (drop (width n) bytes) ≡ drop (suc i * width n) bytes =
    drop-drop (i * width n) (width n) bytes ∙ ap (λ k. drop k bytes) place in
    ap (λ ns. first_number n order bytes ∷ ns)
    (numbers_more n order i (drop (width n) bytes) ∙ ap (λ bs. numbers_in n order i (drop (width n) bytes) ++ first_number n order bs ∷ []) behind)

first_byte : (order : Endian) (b : ℕ) (bytes : List ℕ) → first_number byte order (b ∷ bytes) ≡ b
first_byte Little b bytes = grind arith
first_byte Big b bytes = grind arith

-- a byte is a number by itself
pub bytes_in : (order : Endian) (bytes : List ℕ) → numbers_in byte order (length bytes) bytes ≡ bytes
bytes_in order [] = refl
bytes_in order (b ∷ bytes) = cc (first_byte order b bytes, bytes_in order bytes)

-- ---- booleans, one after the other

-- whether bytes are booleans, and whether those from the boolean of an index on are
abbrev pub are_booleans : Endian → List ℕ → ℕ → Bool
are_booleans order bytes place = is_some (many_at (length bytes) (num_value_at boolean order) (at place bytes))

abbrev pub booleans_from : Endian → List ℕ → ℕ → ℕ → Bool
booleans_from order bytes place i = is_some (many_at (length bytes - i) (num_value_at boolean order) (at (place + 4 * i) (drop (4 * i) bytes)))

pub boolean_first : (order : Endian) (bytes : List ℕ) (place i : ℕ) → i ≡ 0 → are_booleans order bytes place ≡ booleans_from order bytes place i
boolean_first order bytes place i e =
    let count : length bytes ≡ length bytes - i = omega arith in
    let start : place ≡ place + 4 * i = omega arith in
    let none : 0 ≡ 4 * i = omega arith in
    ap (λ m. is_some (many_at m (num_value_at boolean order) (at place bytes))) count
    ∙ ap (λ p. is_some (many_at (length bytes - i) (num_value_at boolean order) (at p bytes))) start
    ∙ ap (λ k. is_some (many_at (length bytes - i) (num_value_at boolean order) (at (place + 4 * i) (drop k bytes)))) none

pub boolean_next : (order : Endian) (bytes : List ℕ) (place i : ℕ) → place % 4 ≡ 0 → i < length bytes / 4 → number_in w32 order (4 * i) bytes < 2
    → booleans_from order bytes place i ≡ booleans_from order bytes place (i + 1)
boolean_next order bytes place i h within low =
    let c : Cursor = at (place + 4 * i) (drop (4 * i) bytes) in
    let long : 4 ≤ length c.rest = omega (arith, length-drop (4 * i) bytes) in
    let start : place + 4 * i + 4 ≡ place + 4 * (i + 1) = omega arith in
    let behind : drop 4 (drop (4 * i) bytes) ≡ drop (4 * (i + 1)) bytes = drop-drop 4 (4 * i) bytes ∙ ap (λ k. drop k bytes) (omega arith) in
    some_next (length bytes - (i + 1)) (length bytes - i) (num_value_at boolean order) c _ (omega arith) (omega arith) (number_next boolean order c (omega arith) long low)
    ∙ ap (λ (c : Cursor). is_some (many_at (length bytes - (i + 1)) (num_value_at boolean order) c)) (cc)

pub boolean_not : (order : Endian) (bytes : List ℕ) (place i : ℕ) → place % 4 ≡ 0 → i < length bytes / 4 → 1 < number_in w32 order (4 * i) bytes
    → booleans_from order bytes place i ≡ false
boolean_not order bytes place i h within high =
    let c : Cursor = at (place + 4 * i) (drop (4 * i) bytes) in
    let long : 4 ≤ length c.rest = omega (arith, length-drop (4 * i) bytes) in
    ap is_some (many_none (length bytes - (i + 1)) (length bytes - i) (num_value_at boolean order) c (omega arith) (omega arith) (number_out boolean order c (omega arith) long high))

pub booleans_end : (order : Endian) (bytes : List ℕ) (place i : ℕ) → length bytes % 4 ≡ 0 → length bytes / 4 ≤ i → booleans_from order bytes place i ≡ true
booleans_end order bytes place i whole out =
    ap is_some (many_done (length bytes - i) (num_value_at boolean order) (at (place + 4 * i) (drop (4 * i) bytes)) (omega (arith, length-drop (4 * i) bytes)))

pub booleans_left : (order : Endian) (bytes : List ℕ) (place : ℕ) → place % 4 ≡ 0 → (length bytes % 4 ≡ 0 → ⊥) → are_booleans order bytes place ≡ false
booleans_left order bytes place h over = ap is_some (left_over boolean order (length bytes) (at place bytes) h (some_rest (length bytes % 4) over))

-- ---- the elements of an array

align_place : (boundary : ℕ) (c after : Cursor) → align_at boundary c ≡ Some after → after.place ≡ c.place + pad c.place boundary
unfolding align_at
align_place boundary c after e =
    let n : ℕ = pad c.place boundary in
    let x = bind_some (bytes_at n c) zeros after e in
    let g = guard_some (list_all (λ b. b == 0) x.0.0) (Some x.0.1) after x.2 in
    let k = guard_some (nat_le n (length c.rest)) (Some (take n c.rest, at (c.place + n) (drop n c.rest))) x.0 x.1 in
    let there : x.0.1 ≡ after = some_is x.0.1 after g.1 in
    let start : (take n c.rest, at (c.place + n) (drop n c.rest)) ≡ x.0 = some_is (take n c.rest, at (c.place + n) (drop n c.rest)) x.0 k.1 in
    sym (ap (λ (c : Cursor). c.place) there) ∙ sym (ap (λ (x : List ℕ × Cursor). x.1.place) start)

-- they begin on their boundary
pub elements_start : (order : Endian) (boundary : ℕ) (c : Cursor) (x : Cursor × Cursor) → elements_at order boundary c ≡ Some x → 1 ≤ boundary
    → x.0.place % boundary ≡ 0
unfolding elements_at
elements_start order boundary c y e some =
    let p = bind_some (align_at 4 c) _ y e in
    let n = bind_some (number_at w32 order p.0) _ y p.2 in
    let f = bind_some (if nat_le n.0.0 67108864 then align_at boundary n.0.1 else None) _ y n.2 in
    let x = bind_some (bytes_at n.0.0 f.0) (λ x. Some (at f.0.place x.0, x.1)) y f.2 in
    let g = guard_some (nat_le n.0.0 67108864) (align_at boundary n.0.1) f.0 f.1 in
    let there : (at f.0.place x.0.0, x.0.1) ≡ y = some_is (at f.0.place x.0.0, x.0.1) y x.2 in
    sym (ap (λ (y : Cursor × Cursor). y.0.place % boundary) there)
    ∙ ap (λ p. p % boundary) (align_place boundary n.0.1 f.0 g.1) ∙ padded-is-multiple n.0.1.place boundary (omega arith)

-- ---- by the text of the elements' type

-- a text that begins with a fixed type
record BeginsFixed (text : List ℕ) (b : BasicType) : Type 0 where
  pub letter : ℕ
  pub rest : List ℕ
  pub text_is : text ≡ letter ∷ rest
  pub type_is : Some b ≡ basic_of letter

begins_fixed : (text : List ℕ) (b : BasicType) → Some b ≡ fixed_first text → BeginsFixed text b
begins_fixed [] b e = absurd (cc)
begins_fixed (l ∷ rest) b e =
    let x = bind_some (basic_of l) (λ b. if is_fixed b then Some b else None) b (sym e) in
    let g = guard_some (is_fixed x.0) (Some x.0) b x.2 in
    let same : x.0 ≡ b = some_is x.0 b g.1 in
    record { letter = l; rest = rest; text_is = refl; type_is = sym (x.1 ∙ ap Some same) }

-- elements of a fixed type on their boundary are found by a walk exactly where they are read
pub fixed_items : (room : ℕ) (order : Endian) (text : List ℕ) (b : BasicType) (c : Cursor) (fits : Bool) → Some b ≡ fixed_first text → c.place % text_boundary text ≡ 0
    → ((place : ℕ) → place % basic_alignment b ≡ 0 → fits ≡ is_some (many_at (length c.rest) (basic_at b order) (at place c.rest)))
    → fits ≡ is_some (many_at (length c.rest) (walk_at room order text) c)
fixed_items room order text b c fits e h test =
    let k = begins_fixed text b e in
    let boundary : text_boundary text ≡ basic_alignment b = ap text_boundary k.text_is ∙ ap (letter_boundary k.letter) (sym k.type_is) in
    test c.place (ap (λ n. c.place % n) (sym boundary) ∙ h)
    ∙ sym (ap (λ walk. is_some (many_at (length c.rest) walk c)) (fun_ext (λ c. walk_basic room order text k.letter k.rest c b _ k.text_is k.type_is refl))
    ∙ many_leaving (length c.rest) k.rest (basic_at b order) c)
