-- Reading numbers that lie packed.
use Rattle.std.proofs.Common.{◌≡◌, ℕ, zero, suc, ◌+◌, ◌-◌, ◌*◌, ◌/◌, ◌%◌, ◌<◌, ◌≤◌, false, nat_le, nat_lt, if◌then◌else◌, List, [], ◌∷◌, ◌++◌, length, take, drop, map, Option, Some, None, option_map, refl, sym, ◌∙◌, ap, subst, arith}
use Rattle.std.proofs.lemmas.Bool.{leb-true, lt-leb}
use Rattle.std.proofs.Math.Path.{fun_ext}
use Rattle.std.proofs.lemmas.List.{length-drop, map-append}
use Rattle.std.specs.Int.{byte_len}
use Rattle.wire_number.specs.declared.endian.Endian.{Endian}
use Rattle.wire_number.specs.Number.{number}
use Rattle.wire_number.specs.Reading.{Cursor, Parse, ◌>>=◌, made, bytes_at, align_at, number_at}
use Rattle.wire_number.proofs.Steps.{at, AreBytes, bind_some, map_some, some_is, guard_some, bound_some}
use Rattle.wire_signature.specs.SingleType.{SingleType, basic, alignment}
use Rattle.wire_tree.specs.Datum.{FixedType, byte, uint16, uint32, uint64, Datum, num, array, data_of, bound, num_type, width}
use Rattle.wire_tree.specs.Packed.{fixed_type, type16, type32, type64}
use Rattle.wire_tree.specs.declared.numbers.Fixed.{Fixed}
use Rattle.wire_tree.specs.declared.numbers.Fixed16.{Fixed16}
use Rattle.wire_tree.specs.declared.numbers.Fixed16.TheVariants as of16
use Rattle.wire_tree.specs.declared.numbers.Fixed32.{Fixed32}
use Rattle.wire_tree.specs.declared.numbers.Fixed32.TheVariants as of32
use Rattle.wire_tree.specs.declared.numbers.Fixed64.{Fixed64}
use Rattle.wire_tree.specs.declared.numbers.Fixed64.TheVariants as of64
use Rattle.wire_encoding.specs.Encoding.{width_of}
use Rattle.wire_encoding.specs.Reading.{num_at, num_value_at, none_at, more_at, many_at, elements_at, array_at, value_at}
use Rattle.wire_encoding.proofs.Loops.{joined, many_none, refuses_as}
use Rattle.wire_encoding.proofs.Packed.{width_is, no_padding, packed, bytes_in, many_numbers, elements_start}
use Rattle.wire_encoding.proofs.ReadAgain.{basic_room, num_basic}
use Rattle.wire_encoding.proofs.Shift.{boundary_some}
use Rattle.wire_codec.specs.Packed.{plain_at}
use Rattle.wire_number.specs.declared.reader.Reader.{Reader}
use Rattle.wire_number.specs.ReaderView.{Finds, cursor_of}
use Rattle.wire_signature.specs.declared.error.VariantError.{VariantError}
use Rattle.wire_encoding.specs.ReaderView.{Refuses}

-- ---- one number

-- types of one width are read alike, but for booleans

pub same_16 : (t : Fixed16) (order : Endian) (c : Cursor) → plain_at (type16 t) order c ≡ plain_at uint16 order c
unfolding plain_at
same_16 of16.Int16 order c = refl
same_16 of16.Uint16 order c = refl

pub same_32 : (t : Fixed32) (order : Endian) (c : Cursor) → plain_at (type32 t) order c ≡ plain_at uint32 order c
unfolding plain_at
same_32 of32.Int32 order c = refl
same_32 of32.Uint32 order c = refl
same_32 of32.UnixFd order c = refl

pub same_64 : (t : Fixed64) (order : Endian) (c : Cursor) → plain_at (type64 t) order c ≡ plain_at uint64 order c
unfolding plain_at
same_64 of64.Int64 order c = refl
same_64 of64.Uint64 order c = refl
same_64 of64.Double order c = refl

pub padded_16 : (t : Fixed16) (order : Endian) (c : Cursor) → num_at (type16 t) order c ≡ num_at uint16 order c
unfolding num_at
padded_16 of16.Int16 order c = refl
padded_16 of16.Uint16 order c = refl

pub padded_32 : (t : Fixed32) (order : Endian) (c : Cursor) → num_at (type32 t) order c ≡ num_at uint32 order c
unfolding num_at
padded_32 of32.Int32 order c = refl
padded_32 of32.Uint32 order c = refl
padded_32 of32.UnixFd order c = refl

pub padded_64 : (t : Fixed64) (order : Endian) (c : Cursor) → num_at (type64 t) order c ≡ num_at uint64 order c
unfolding num_at
padded_64 of64.Int64 order c = refl
padded_64 of64.Uint64 order c = refl
padded_64 of64.Double order c = refl

pub bound_16 : (t : Fixed16) → bound (type16 t) ≡ 65536
bound_16 of16.Int16 = refl
bound_16 of16.Uint16 = refl

pub bound_32 : (t : Fixed32) → bound (type32 t) ≡ 4294967296
bound_32 of32.Int32 = refl
bound_32 of32.Uint32 = refl
bound_32 of32.UnixFd = refl

pub bound_64 : (t : Fixed64) → bound (type64 t) ≡ 18446744073709551616
bound_64 of64.Int64 = refl
bound_64 of64.Uint64 = refl
bound_64 of64.Double = refl

pub ruleset alike = (same_16, same_32, same_64, padded_16, padded_32, padded_64, bound_16, bound_32, bound_64)

-- so many bytes were read, and so many are left
pub record Took (n : ℕ) (c after : Cursor) : Type 0 where
  pub place : after.place ≡ c.place + n
  pub left : length after.rest + n ≡ length c.rest

bytes_took : (n : ℕ) (c : Cursor) (x : List ℕ × Cursor) → bytes_at n c ≡ Some x → Took n c x.1
bytes_took n c x e =
    let g = guard_some (nat_le n (length c.rest)) (Some (take n c.rest, record { place = c.place + n; rest = drop n c.rest })) x e in
    let enough : n ≤ length c.rest = leb-true n (length c.rest) g.0 in
    subst (λ (x : List ℕ × Cursor). Took n c x.1) (some_is _ x g.1) (record { place = refl; left = omega (arith, length-drop n c.rest) })

pub plain_took : (n : FixedType) (order : Endian) (c : Cursor) (x : ℕ × Cursor) → plain_at n order c ≡ Some x → Took (width n) c x.1
unfolding plain_at number_at
plain_took n order c x e =
    let y = bind_some (number_at (width_of n) order c) (λ x. if nat_lt x.0 (bound n) then Some x else None) x e in
    let z = map_some (λ x. (number (width_of n) order x.0, x.1)) (bytes_at (byte_len (width_of n)) c) y.0 y.1 in
    let same = some_is y.0 x (guard_some (nat_lt y.0.0 (bound n)) (Some y.0) x y.2).1 in
    subst (λ (x : ℕ × Cursor). Took (width n) c x.1) (z.2 ∙ same) (subst (λ (m : ℕ). Took m c z.0.1) (width_is n).0 (bytes_took (byte_len (width_of n)) c z.0 z.1))

pub plain_short : (n : FixedType) (order : Endian) (c : Cursor) → length c.rest < width n → plain_at n order c ≡ None
unfolding plain_at number_at
plain_short n order c h =
    let few : nat_le (byte_len (width_of n)) (length c.rest) ≡ false = lt-leb (byte_len (width_of n)) (length c.rest) (rw (width_is n).0 h) in
    rw few refl

-- ---- the loop that reads them, `i` of which are read of `all` bytes

pub next_left : (n : FixedType) (i after left all : ℕ) → after + width n ≡ left → left + i * width n ≡ all → after + (i + 1) * width n ≡ all
next_left byte i after left all e h = omega (arith, e, h)
next_left n i after left all e h = omega (arith, e, h)

pub one_ahead : (n : FixedType) (i count left all : ℕ) → i < count → count ≡ all / width n → left + i * width n ≡ all → (0 < left) × (i < all)
one_ahead byte i count left all l e h = (omega (arith, l, e, h), omega (arith, l, e, h))
one_ahead n i count left all l e h = (omega (arith, l, e, h), omega (arith, l, e, h))

pub none_ahead : (n : FixedType) (i count left all : ℕ) → i ≡ count → count ≡ all / width n → left + i * width n ≡ all → 0 < left → (left < width n) × (i < all)
none_ahead byte i count left all l e h some = (omega (arith, l, e, h), omega (arith, l, e, h, some))
none_ahead n i count left all l e h some = (omega (arith, l, e, h), omega (arith, l, e, h, some))

pub all_fit : (n : FixedType) (count all : ℕ) → count ≡ all / width n → count * width n ≤ all
all_fit byte count all e = omega (arith, e)
all_fit n count all e = omega (arith, e)

-- where no number stands before bytes that are left, none are found at all
pub none_joined : (n : FixedType) (order : Endian) (m : ℕ) (c : Cursor) (front : List ℕ) (whole : Option (List ℕ)) → whole ≡ joined front (many_at m (plain_at n order) c)
    → 0 < m → 0 < length c.rest → plain_at n order c ≡ None → whole ≡ None
none_joined n order m c front whole found some more none =
    found ∙ ap (joined front) (many_none (m - 1) m (plain_at n order) c (omega arith) more none)

-- the bits of one more are those of it
pub round_more : {A : Type 0} (bits : A → ℕ) (of_bits : ℕ → A) (xs : List A) (x : A) → map of_bits (map bits xs) ≡ xs → of_bits (bits x) ≡ x
    → map of_bits (map bits (xs ++ x ∷ [])) ≡ xs ++ x ∷ []
round_more bits of_bits xs x others one =
    rw (map-append, map-append) (ap (λ ys. ys ++ of_bits (bits x) ∷ []) others ∙ ap (λ y. xs ++ y ∷ []) one)

-- ---- numbers on their boundary, each made into something by `give`

num_plain : (n : FixedType) (order : Endian) (c : Cursor) → c.place % width n ≡ 0 → num_at n order c ≡ plain_at n order c
unfolding num_at plain_at
num_plain n order c h =
    ap (λ k. align_at k c >>= plain_at n order) (width_is n).1 ∙ bound_some _ (plain_at n order) _ (no_padding (width n) c.place c.rest h)

module _ {A : Type 0} (n : FixedType) (order : Endian) (give : ℕ → A) (read : Cursor → Parse A)
    (same : (c : Cursor) → c.place % width n ≡ 0 → read c ≡ made give (plain_at n order c)) where
  joined_value : (x : ℕ) (found : Option (List ℕ)) → (option_map (map give) found >>= λ ys. Some (give x ∷ ys)) ≡ option_map (map give) (found >>= λ xs. Some (x ∷ xs))
  joined_value x None = refl
  joined_value x (Some xs) = refl

  next_value : (found : Parse ℕ) (others : Cursor → Option (List A)) (numbers : Cursor → Option (List ℕ))
      → ((x : ℕ × Cursor) → found ≡ Some x → others x.1 ≡ option_map (map give) (numbers x.1))
      → (made give found >>= λ x. others x.1 >>= λ ys. Some (x.0 ∷ ys)) ≡ option_map (map give) (found >>= λ x. numbers x.1 >>= λ xs. Some (x.0 ∷ xs))
  next_value None others numbers h = refl
  next_value (Some x) others numbers h = ap (λ found. found >>= λ ys. Some (give x.0 ∷ ys)) (h x refl) ∙ joined_value x.0 (numbers x.1)

  next_place : (k : FixedType) (c after : Cursor) → Took (width k) c after → c.place % width k ≡ 0 → after.place % width k ≡ 0
  next_place byte c after t h = omega arith
  next_place k c after t h = omega (arith, t.place, h)

  more_plain : (others : Cursor → Option (List A)) (numbers : Cursor → Option (List ℕ)) (c : Cursor) (rest : List ℕ) → c.place % width n ≡ 0
      → ((x : ℕ × Cursor) → plain_at n order c ≡ Some x → others x.1 ≡ option_map (map give) (numbers x.1))
      → more_at others read c rest ≡ option_map (map give) (more_at numbers (plain_at n order) c rest)
  more_plain others numbers c [] e h = refl
  more_plain others numbers c (b ∷ bs) e h =
      ap (λ found. found >>= λ x. others x.1 >>= λ ys. Some (x.0 ∷ ys)) (same c e) ∙ next_value (plain_at n order c) others numbers h

  none_plain : (rest : List ℕ) → none_at rest ≡ option_map (map give) (none_at rest)
  none_plain [] = refl
  none_plain (b ∷ bs) = refl

  pub many_plain : (m : ℕ) (c : Cursor) → c.place % width n ≡ 0 → many_at m read c ≡ option_map (map give) (many_at m (plain_at n order) c)
  unfolding many_at
  many_plain zero c h = none_plain c.rest
  many_plain (suc m) c h =
      more_plain (many_at m read) (many_at m (plain_at n order)) c c.rest h
      (λ x e. many_plain m x.1 (next_place n c x.1 (plain_took n order c x e) h))

-- ---- values of a fixed type, each made into something by `give`: for crates above

made_twice : {A B C : Type 0} (f : B → C) (g : A → B) (found : Parse A) → made f (made g found) ≡ made (λ x. f (g x)) found
made_twice f g None = refl
made_twice f g (Some x) = refl

-- the value that is found is the number that is
pub value_number : {A : Type 0} (give : Datum → A) (n : FixedType) (room : ℕ) (order : Endian) (c : Cursor)
    → made give (value_at room order (basic (num_type n)) c) ≡ made (λ x. give (num n x)) (num_at n order c)
value_number give n room order c =
    ap (made give) (basic_room room order (num_type n) c ∙ num_basic n order c) ∙ made_twice give (num n) (num_at n order c)

-- The elements that are found are the numbers that are.
pub elements_plain : {A : Type 0} (give : Datum → A) (n : FixedType) (room : ℕ) (order : Endian) (m : ℕ) (c : Cursor) → c.place % width n ≡ 0
    → many_at m (λ c. made give (value_at room order (basic (num_type n)) c)) c ≡ option_map (map (λ x. give (num n x))) (many_at m (plain_at n order) c)
elements_plain give n room order m c h =
    many_plain n order (λ x. give (num n x)) (λ c. made give (value_at room order (basic (num_type n)) c)) (λ c h. value_number give n room order c ∙ ap (made (λ x. give (num n x))) (num_plain n order c h)) m c h

pub elements_found : {A : Type 0} (give : Datum → A) (n : FixedType) (room : ℕ) (order : Endian) (m : ℕ) (c : Cursor) (xs : List ℕ) → c.place % width n ≡ 0
    → many_at m (plain_at n order) c ≡ Some xs → many_at m (λ c. made give (value_at room order (basic (num_type n)) c)) c ≡ Some (map (λ x. give (num n x)) xs)
elements_found give n room order m c xs h e = elements_plain give n room order m c h ∙ ap (option_map (map (λ x. give (num n x)))) e

-- a refusal of them is one of the elements
pub elements_refused : {A : Type 0} (give : Datum → A) (x : VariantError) (n : FixedType) (room : ℕ) (order : Endian) (m : ℕ) (c : Cursor) → c.place % width n ≡ 0
    → Refuses x (many_at m (plain_at n order) c) → Refuses x (many_at m (λ c. made give (value_at room order (basic (num_type n)) c)) c)
elements_refused give x n room order m c h r =
    refuses_as x (many_at m (plain_at n order) c) _ (λ none. elements_plain give n room order m c h ∙ ap (option_map (map (λ x. give (num n x)))) none) r

-- ---- all numbers of an array

-- bytes are numbers by themselves
pub bytes_packed : (order : Endian) (p : ℕ) (xs : List ℕ) → AreBytes xs → many_at (length xs) (num_value_at byte order) (at p xs) ≡ Some (map (num byte) xs)
bytes_packed order p xs h =
    packed byte order (length xs) (length xs) (at p xs) (omega arith) h (omega arith) (omega arith) (omega arith) ∙ ap (λ xs. Some (map (num byte) xs)) (bytes_in order xs)

-- numbers of the type `n`, where those of `k` lie alike
numbers_plain : (n k : FixedType) (order : Endian) (m : ℕ) (c : Cursor) → ((c : Cursor) → plain_at n order c ≡ plain_at k order c) → c.place % width n ≡ 0
    → many_at m (num_value_at n order) c ≡ option_map (map (num n)) (many_at m (plain_at k order) c)
numbers_plain n k order m c alike h =
    many_plain n order (num n) (num_value_at n order) (λ c h. ap (made (num n)) (num_plain n order c h)) m c h
    ∙ ap (λ read. option_map (map (num n)) (many_at m read c)) (fun_ext alike)

-- ---- by a fixed type, and by an array's type

place_of : (f : Fixed) (n : FixedType) (p : ℕ) → fixed_type f ≡ n → p % width (fixed_type f) ≡ 0 → p % width n ≡ 0
place_of f n p is h = subst (λ (k : FixedType). p % width k ≡ 0) is h

pub found_as : (f : Fixed) (n k : FixedType) (order : Endian) (m : ℕ) (c : Cursor) (xs : List ℕ) → fixed_type f ≡ n → ((c : Cursor) → plain_at n order c ≡ plain_at k order c)
    → c.place % width (fixed_type f) ≡ 0 → many_at m (plain_at k order) c ≡ Some xs → many_at m (num_value_at (fixed_type f) order) c ≡ Some (map (num n) xs)
found_as f n k order m c xs is alike h e =
    subst (λ (k : FixedType). many_at m (num_value_at k order) c ≡ Some (map (num n) xs)) (sym is)
    (numbers_plain n k order m c alike (place_of f n c.place is h) ∙ ap (option_map (map (num n))) e)

pub refused_as : (x : VariantError) (f : Fixed) (n k : FixedType) (order : Endian) (m : ℕ) (c : Cursor) → fixed_type f ≡ n → ((c : Cursor) → plain_at n order c ≡ plain_at k order c)
    → c.place % width (fixed_type f) ≡ 0 → Refuses x (many_at m (plain_at k order) c) → Refuses x (many_at m (num_value_at (fixed_type f) order) c)
refused_as x f n k order m c is alike h r =
    refuses_as x (many_at m (plain_at k order) c) _
    (λ none. subst (λ (k : FixedType). many_at m (num_value_at k order) c ≡ None) (sym is)
    (numbers_plain n k order m c alike (place_of f n c.place is h) ∙ ap (option_map (map (num n))) none)) r

-- the readers of an array's elements and of what stands behind them
pub begun : (order : Endian) (boundary : ℕ) (t : SingleType) (c : Cursor) (found : Option (Reader × Reader)) (x : Reader × Reader) → boundary ≡ alignment t → found ≡ Some x
    → Finds (λ x. (cursor_of x.0, cursor_of x.1)) found (elements_at order boundary c) → elements_at order (alignment t) c ≡ Some (cursor_of x.0, cursor_of x.1)
begun order boundary t c found x same e h =
    ap (λ k. elements_at order k c) (sym same)
    ∙ subst (λ (f : Option (Reader × Reader)). Finds (λ x. (cursor_of x.0, cursor_of x.1)) f (elements_at order boundary c)) e h

-- numbers that are an array's elements begin on their boundary
pub numbers_begin : (t : SingleType) (n : FixedType) (order : Endian) (c : Cursor) (x : Cursor × Cursor) → t ≡ basic (num_type n) → elements_at order (alignment t) c ≡ Some x
    → x.0.place % width n ≡ 0
numbers_begin t n order c x is e =
    subst (λ (k : ℕ). x.0.place % k ≡ 0) (ap alignment is ∙ (width_is n).1) (elements_start order (alignment t) c x e (boundary_some t))

-- the elements of such an array are its numbers
elements_are : (t : SingleType) (n : FixedType) (m room : ℕ) (order : Endian) (c : Cursor) → t ≡ basic (num_type n)
    → many_at m (value_at room order t) c ≡ many_at m (num_value_at n order) c
elements_are t n m room order c is = ap (λ t. many_at m (value_at room order t) c) is ∙ many_numbers m room order n c

pub array_found : (t : SingleType) (n k : FixedType) (room : ℕ) (order : Endian) (c : Cursor) (x : Cursor × Cursor) (ds : List Datum) → t ≡ basic (num_type n) → k ≡ n
    → elements_at order (alignment t) c ≡ Some x → many_at (length x.0.rest) (num_value_at n order) x.0 ≡ Some ds
    → made (λ ds. array t (data_of ds)) (array_at (alignment t) (value_at room order t) order c) ≡ Some (array (basic (num_type k)) (data_of ds), x.1)
unfolding array_at
array_found t n k room order c x ds is same e h =
    ap (made (λ ds. array t (data_of ds))) (bound_some _ _ _ e ∙ bound_some _ _ _ (elements_are t n (length x.0.rest) room order x.0 is ∙ h))
    ∙ ap (λ u. Some (array u (data_of ds), x.1)) (is ∙ ap (λ m. basic (num_type m)) (sym same))

bound_none : {A B : Type 0} (o : Option A) (f : A → Option B) → o ≡ None → (o >>= f) ≡ None
bound_none o f e = ap (λ o. o >>= f) e

pub array_refused : (r : VariantError) (t : SingleType) (n : FixedType) (room : ℕ) (order : Endian) (c : Cursor) (x : Cursor × Cursor) → t ≡ basic (num_type n)
    → elements_at order (alignment t) c ≡ Some x → Refuses r (many_at (length x.0.rest) (num_value_at n order) x.0)
    → Refuses r (made (λ ds. array t (data_of ds)) (array_at (alignment t) (value_at room order t) order c))
unfolding array_at
array_refused r t n room order c x is e h =
    refuses_as r (many_at (length x.0.rest) (num_value_at n order) x.0) _
    (λ none. ap (made (λ ds. array t (data_of ds))) (bound_some _ _ _ e ∙ bound_none _ _ (elements_are t n (length x.0.rest) room order x.0 is ∙ none))) h
