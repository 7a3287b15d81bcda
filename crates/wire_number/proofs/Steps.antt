-- Steps of reading: what is read stands there, and what stands there is read.
use Rattle.std.proofs.Common.{◌≡◌, ◌↔◌, ℕ, zero, suc, ◌+◌, ◌<◌, ◌≤◌, ◌^◌, Bool, true, ◌&&◌, ◌==◌, nat_le, if◌then◌else◌, List, [], ◌∷◌, ◌++◌, length, take, drop, get_or, replicate, Option, Some, None, refl, sym, ◌∙◌, ap, subst, arith, option_map, append_assoc, length-append}
use Rattle.std.specs.List.{All, list_all}
use Rattle.std.specs.Int.{Width, w8, w16, w32, w64, w128, byte_len}
use Rattle.std.proofs.lemmas.Bool.{and_parts, leb-true}
use Rattle.std.proofs.lemmas.Bool.Decides.{nat_tests}
use Rattle.std.proofs.Math.Nat.{mod-eq_of_lt}
use Rattle.std.proofs.lemmas.List.{take-append-drop, length-take-le, length-replicate, take_at, drop_at}
use Rattle.std.proofs.lemmas.Nat.{le_bytes_2, be_bytes_2, le_bytes_4, be_bytes_4, le_bytes_8, be_bytes_8, from_le_bytes-to_le_bytes_2, from_be_bytes-to_be_bytes_2, from_le_bytes-to_le_bytes_4, from_be_bytes-to_be_bytes_4, from_le_bytes-to_le_bytes_8, from_be_bytes-to_be_bytes_8}
use Rattle.wire_number.specs.declared.endian.Endian.{Endian}
use Rattle.wire_number.specs.Number.{number, number_text, pad, padding, counted_text}
use Rattle.wire_number.specs.Reading.{Cursor, Stands, ◌>>=◌, bytes_at, zeros, align_at, number_at, counted_at}

abbrev pub at : ℕ → List ℕ → Cursor
at place rest = record { place = place; rest = rest }

-- each is a byte
abbrev pub AreBytes : List ℕ → Type 0
AreBytes [] = Unit {0}
AreBytes (b ∷ bs) = (b < 256) × AreBytes bs

pub bytes-append : (xs ys : List ℕ) → AreBytes (xs ++ ys) → AreBytes xs × AreBytes ys
bytes-append [] ys h = (tt, h)
bytes-append (x ∷ xs) ys h = let k = bytes-append xs ys h.1 in ((h.0, k.0), k.1)

pub byte_in : (xs : List ℕ) → AreBytes xs → (i : ℕ) → get_or xs i 0 < 256
byte_in [] h i = omega arith
byte_in (x ∷ xs) h zero = h.0
byte_in (x ∷ xs) h (suc i) = byte_in xs h.1 i

pub bytes_from : (xs : List ℕ) → ((i : ℕ) → get_or xs i 0 < 256) → AreBytes xs
bytes_from [] h = tt
bytes_from (x ∷ xs) h = (h 0, bytes_from xs (λ i. h (suc i)))

-- ---- options

pub bind_some : {A B : Type 0} (o : Option A) (f : A → Option B) (y : B) → (o >>= f) ≡ Some y → (x : A) × (o ≡ Some x) × (f x ≡ Some y)
bind_some None f y e = absurd (cc)
bind_some (Some x) f y e = (x, refl, e)

pub map_some : {A B : Type 0} (f : A → B) (o : Option A) (y : B) → option_map f o ≡ Some y → (x : A) × (o ≡ Some x) × (f x ≡ y)
map_some f None y e = absurd (cc)
map_some f (Some x) y e = (x, refl, cc)

pub some_is : {A : Type 0} (x y : A) → Some x ≡ Some y → x ≡ y
some_is x y e = cc

pub guard_some : {A : Type 0} (b : Bool) (x : Option A) (y : A) → (if b then x else None) ≡ Some y → (b ≡ true) × (x ≡ Some y)
guard_some b x y e = grind arith

pub guarded : {A : Type 0} (b : Bool) (x : Option A) → b ≡ true → (if b then x else None) ≡ x
guarded b x e = ap (λ b. if b then x else None) e

pub both_true : (a b : Bool) → (a && b) ≡ true → (a ≡ true) × (b ≡ true)
both_true a b e = and_parts a b e

pub bound_some : {A B : Type 0} (o : Option A) (f : A → Option B) (x : A) → o ≡ Some x → (o >>= f) ≡ f x
bound_some o f x e = ap (λ o. o >>= f) e

-- ---- what was read stands there

pub record Reads (c : Cursor) (text : List ℕ) (after : Cursor) : Type 0 where
  pub text_is : c.rest ≡ text ++ after.rest
  pub place_is : after.place ≡ c.place + length text
  pub bytes : AreBytes after.rest

pub reads_then : (c m after : Cursor) (front back : List ℕ) → Reads c front m → Reads m back after → Reads c (front ++ back) after
reads_then c m after front back h k =
    record { text_is = cc (append_assoc front back after.rest); place_is = omega (arith, length-append front back); bytes = k.bytes }

-- so many bytes
pub record Takes (n : ℕ) (c : Cursor) (text : List ℕ) (after : Cursor) : Type 0 where
  pub reads : Reads c text after
  pub long : length text ≡ n
  pub low : AreBytes text

pub bytes_take : (n : ℕ) (c : Cursor) (y : List ℕ × Cursor) → bytes_at n c ≡ Some y → AreBytes c.rest → Takes n c y.0 y.1
bytes_take n c y e low =
    let g = guard_some (nat_le n (length c.rest)) (Some (take n c.rest, at (c.place + n) (drop n c.rest))) y e in
    let long : length (take n c.rest) ≡ n = length-take-le n c.rest (leb-true n (length c.rest) g.0) in
    let parts = bytes-append (take n c.rest) (drop n c.rest) (rw take-append-drop low) in
    rw (← some_is _ y g.1) (record {
      reads = record { text_is = sym (take-append-drop n c.rest); place_is = ap (λ k. c.place + k) (sym long); bytes = parts.1 };
      long = long;
      low = parts.0;
    })

pub bytes_again : (n p : ℕ) (text rest : List ℕ) → length text ≡ n → bytes_at n (at p (text ++ rest)) ≡ Some (text, at (p + n) rest)
bytes_again n p text rest e = grind (arith, nat_tests, length-append text rest, take_at text rest n, drop_at text rest n)

-- ---- padding

all_zero : (xs : List ℕ) → list_all (λ b. b == 0) xs ≡ true → xs ≡ replicate (length xs) 0
all_zero [] e = refl
all_zero (x ∷ xs) e = grind (arith, nat_tests, all_zero xs)

zeros_all : (n : ℕ) → list_all (λ b. b == 0) (replicate n 0) ≡ true
zeros_all zero = refl
zeros_all (suc n) = zeros_all n

pub zeros_take : (n : ℕ) (c after : Cursor) → (bytes_at n c >>= zeros) ≡ Some after → AreBytes c.rest → Reads c (replicate n 0) after
zeros_take n c after e low =
    let x = bind_some (bytes_at n c) zeros after e in
    let g = guard_some (list_all (λ b. b == 0) x.0.0) (Some x.0.1) after x.2 in
    let k : Takes n c x.0.0 x.0.1 = bytes_take n c x.0 x.1 low in
    let same : x.0.0 ≡ replicate n 0 = cc (all_zero x.0.0 g.0, k.long) in
    subst (λ (m : Cursor). Reads c (replicate n 0) m) (some_is x.0.1 after g.1) (subst (λ (t : List ℕ). Reads c t x.0.1) same k.reads)

pub zeros_again : (n p : ℕ) (rest : List ℕ) → (bytes_at n (at p (replicate n 0 ++ rest)) >>= zeros) ≡ Some (at (p + n) rest)
zeros_again n p rest = rw (bytes_again n p (replicate n 0) rest (length-replicate n 0), zeros_all n)

pub length_padding : (p boundary : ℕ) → length (padding p boundary) ≡ pad p boundary
length_padding p boundary = length-replicate (pad p boundary) 0

-- padding and what stands behind it
pub length-padded : (p boundary : ℕ) (body : List ℕ) → length (padding p boundary ++ body) ≡ pad p boundary + length body
length-padded p boundary body = length-append (padding p boundary) body ∙ ap (λ k. k + length body) (length_padding p boundary)

pub align_takes : (boundary : ℕ) (c after : Cursor) → align_at boundary c ≡ Some after → AreBytes c.rest → Reads c (padding c.place boundary) after
unfolding align_at
align_takes boundary c after e low = zeros_take (pad c.place boundary) c after e low

pub align_again : (boundary p : ℕ) (rest : List ℕ) → align_at boundary (at p (padding p boundary ++ rest)) ≡ Some (at (p + pad p boundary) rest)
unfolding align_at
align_again boundary p rest = zeros_again (pad p boundary) p rest

-- ---- numbers

-- the widths that numbers of D-Bus have
abbrev pub IsShort : Width → Type 0
IsShort w128 = ⊥
IsShort w = Unit {0}

pub text_of_number : (w : Width) (order : Endian) (bs : List ℕ) → IsShort w → length bs ≡ byte_len w → AreBytes bs → number_text w order (number w order bs) ≡ bs
text_of_number w8 order (b ∷ []) s e h = grind (arith, mod-eq_of_lt h.0)
text_of_number w8 order (b ∷ c ∷ bs) s e h = absurd (omega arith)
text_of_number w8 order [] s e h = absurd (omega arith)
text_of_number w16 order bs s e h = grind (arith, le_bytes_2 bs _ e (byte_in bs h) refl, be_bytes_2 bs _ e (byte_in bs h) refl)
text_of_number w32 order bs s e h = grind (arith, le_bytes_4 bs _ e (byte_in bs h) refl, be_bytes_4 bs _ e (byte_in bs h) refl)
text_of_number w64 order bs s e h = grind (arith, le_bytes_8 bs _ e (byte_in bs h) refl, be_bytes_8 bs _ e (byte_in bs h) refl)
text_of_number w128 order bs s e h = absurd s

-- one more than the greatest number of a width
abbrev pub limit : Width → ℕ
limit w8 = 256
limit w16 = 65536
limit w32 = 4294967296
limit w64 = 18446744073709551616
limit w128 = 0

pub number_of_text : (w : Width) (order : Endian) (n : ℕ) → n < limit w → number w order (number_text w order n) ≡ n
number_of_text w8 order n h = grind (arith, mod-eq_of_lt h)
number_of_text w16 order n h = grind (arith, from_le_bytes-to_le_bytes_2 n h, from_be_bytes-to_be_bytes_2 n h)
number_of_text w32 order n h = grind (arith, from_le_bytes-to_le_bytes_4 n h, from_be_bytes-to_be_bytes_4 n h)
number_of_text w64 order n h = grind (arith, from_le_bytes-to_le_bytes_8 n h, from_be_bytes-to_be_bytes_8 n h)
number_of_text w128 order n h = absurd (omega arith)

pub length-number_text : (w : Width) (order : Endian) (n : ℕ) → length (number_text w order n) ≡ byte_len w
length-number_text w8 order n = grind arith
length-number_text w order n = grind arith

number_below : (w : Width) (order : Endian) (bs : List ℕ) → IsShort w → AreBytes bs → number w order bs < limit w
number_below w128 order bs s h = absurd s
number_below w order bs s h = grind (arith, byte_in bs h)

-- a number of the width that stands there
pub record IsNumber (w : Width) (order : Endian) (c : Cursor) (y : ℕ × Cursor) : Type 0 where
  pub reads : Reads c (number_text w order y.0) y.1
  pub below : y.0 < limit w

pub number_takes : (w : Width) (order : Endian) (c : Cursor) (y : ℕ × Cursor) → IsShort w → number_at w order c ≡ Some y → AreBytes c.rest
    → IsNumber w order c y
unfolding number_at
number_takes w order c y s e low =
    let x = map_some (λ x. (number w order x.0, x.1)) (bytes_at (byte_len w) c) y e in
    let k : Takes (byte_len w) c x.0.0 x.0.1 = bytes_take (byte_len w) c x.0 x.1 low in
    subst (λ (y : ℕ × Cursor). IsNumber w order c y) x.2 (record { reads = rw (text_of_number w order x.0.0 s k.long k.low) k.reads; below = number_below w order x.0.0 s k.low })

pub number_again : (w : Width) (order : Endian) (n p : ℕ) (rest : List ℕ) → n < limit w
    → number_at w order (at p (number_text w order n ++ rest)) ≡ Some (n, at (p + byte_len w) rest)
unfolding number_at
number_again w order n p rest h =
    rw (bytes_again (byte_len w) p (number_text w order n) rest (length-number_text w order n), number_of_text w order n h)

-- ---- texts

-- a text that stands there, behind its length and the padding before that
pub record IsCounted (w : Width) (order : Endian) (c : Cursor) (y : List ℕ × Cursor) : Type 0 where
  pub reads : Reads c (padding c.place (byte_len w) ++ counted_text w order y.0) y.1
  pub below : length y.0 < limit w

pub counted_takes : (w : Width) (order : Endian) (c : Cursor) (y : List ℕ × Cursor) → IsShort w → counted_at w order c ≡ Some y → AreBytes c.rest → IsCounted w order c y
unfolding counted_at
counted_takes w order c y s e low =
    let p = bind_some (align_at (byte_len w) c) _ y e in
    let n = bind_some (number_at w order p.0) _ y p.2 in
    let x = bind_some (bytes_at n.0.0 n.0.1) _ y n.2 in
    let z = bind_some (bytes_at 1 x.0.1 >>= zeros) (λ end. Some (x.0.0, end)) y x.2 in
    let front : Reads c (padding c.place (byte_len w)) p.0 = align_takes (byte_len w) c p.0 p.1 low in
    let k : IsNumber w order p.0 n.0 = number_takes w order p.0 n.0 s n.1 front.bytes in
    let b : Takes n.0.0 n.0.1 x.0.0 x.0.1 = bytes_take n.0.0 n.0.1 x.0 x.1 k.reads.bytes in
    let end : Reads x.0.1 (0 ∷ []) z.0 = zeros_take 1 x.0.1 z.0 z.1 b.reads.bytes in
    let digits : Reads p.0 (number_text w order (length x.0.0)) n.0.1 = rw b.long k.reads in
    let body : Reads p.0 (counted_text w order x.0.0) z.0 = reads_then p.0 n.0.1 z.0 _ _ digits (reads_then n.0.1 x.0.1 z.0 _ _ b.reads end) in
    subst (λ (y : List ℕ × Cursor). IsCounted w order c y) (some_is (x.0.0, z.0) y z.2)
    (record { reads = reads_then c p.0 z.0 _ _ front body; below = omega (arith, k.below, b.long) })

pub counted_again : (w : Width) (order : Endian) (bs : List ℕ) (p : ℕ) (rest : List ℕ) → length bs < limit w
    → counted_at w order (at p ((padding p (byte_len w) ++ counted_text w order bs) ++ rest))
    ≡ Some (bs, at (p + length (padding p (byte_len w) ++ counted_text w order bs)) rest)
unfolding counted_at
counted_again w order bs p rest h =
    let a : ℕ = byte_len w in
    let digits : List ℕ = number_text w order (length bs) in
    let long : p + pad p a + byte_len w + length bs + 1 ≡ p + length (padding p a ++ counted_text w order bs) =
    omega (arith, length-padded p a (counted_text w order bs), length-append digits (bs ++ 0 ∷ []), length-append bs (0 ∷ []), length-number_text w order (length bs)) in
    let regrouped : (padding p a ++ counted_text w order bs) ++ rest ≡ padding p a ++ (digits ++ (bs ++ (0 ∷ rest))) = simp append_assoc in
    let again = bytes_again (length bs) (p + pad p a + byte_len w) bs (0 ∷ rest) refl in
    rw (regrouped, align_again, number_again, again, zeros_again 1 (p + pad p a + byte_len w + length bs) rest, long)

-- ---- what stands there is what is read

all_bytes : (xs : List ℕ) → All (λ b. b < 256) xs → AreBytes xs
all_bytes [] h = tt
all_bytes (x ∷ xs) h = (h 0 x (omega arith), all_bytes xs (λ k d l. h (suc k) d (omega arith)))

-- the widths of at most eight bytes, and the numbers that they have
is_short : (w : Width) → byte_len w ≤ 8 → IsShort w × (limit w ≡ 256 ^ byte_len w)
is_short w128 h = absurd (omega arith)
is_short w h = (tt, refl)

again : {B : Type 0} (read : Cursor → Option B) (give : Cursor → B) (text : List ℕ) (n : ℕ) (c after : Cursor) → length text ≡ n
    → Stands text c after → read (at c.place (text ++ after.rest)) ≡ Some (give (at (c.place + n) after.rest)) → read c ≡ Some (give after)
again read give text n c after long h e =
    ap (λ r. read (at c.place r)) h.0 ∙ e ∙ ap (λ p. Some (give (at p after.rest))) (sym (h.1 ∙ ap (λ m. c.place + m) long))

pub padding_stands : (boundary : ℕ) (c after : Cursor) → All (λ b. b < 256) c.rest → (align_at boundary c ≡ Some after) ↔ Stands (padding c.place boundary) c after
padding_stands boundary c after low = (
  λ e. let r = align_takes boundary c after e (all_bytes c.rest low) in (r.text_is, r.place_is),
  λ h. again (align_at boundary) (λ m. m) (padding c.place boundary) (pad c.place boundary) c after (length_padding c.place boundary) h (align_again boundary c.place after.rest),
)

pub number_stands : (w : Width) (order : Endian) (n : ℕ) (c after : Cursor) → byte_len w ≤ 8 → All (λ b. b < 256) c.rest
    → (number_at w order c ≡ Some (n, after)) ↔ (Stands (number_text w order n) c after × (n < 256 ^ byte_len w))
number_stands w order n c after s low =
    let k = is_short w s in (
      λ e. let r = number_takes w order c (n, after) k.0 e (all_bytes c.rest low) in ((r.reads.text_is, r.reads.place_is), subst (λ m. n < m) k.1 r.below),
      λ h. again (number_at w order) (λ m. (n, m)) (number_text w order n) (byte_len w) c after (length-number_text w order n) h.0
          (number_again w order n c.place after.rest (subst (λ m. n < m) (sym k.1) h.1)),
    )

pub text_stands : (w : Width) (order : Endian) (bytes : List ℕ) (c after : Cursor) → byte_len w ≤ 8 → All (λ b. b < 256) c.rest
    → (counted_at w order c ≡ Some (bytes, after)) ↔ (Stands (padding c.place (byte_len w) ++ counted_text w order bytes) c after × (length bytes < 256 ^ byte_len w))
text_stands w order bytes c after s low =
    let k = is_short w s in (
      λ e. let r = counted_takes w order c (bytes, after) k.0 e (all_bytes c.rest low) in ((r.reads.text_is, r.reads.place_is), subst (λ m. length bytes < m) k.1 r.below),
      λ h. again (counted_at w order) (λ m. (bytes, m)) _ _ c after refl h.0 (counted_again w order bytes c.place after.rest (subst (λ m. length bytes < m) (sym k.1) h.1)),
    )
