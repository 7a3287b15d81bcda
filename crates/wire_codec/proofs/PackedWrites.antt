-- Writing numbers that lie packed.
use Rattle.std.proofs.Common.{◌≡◌, ℕ, zero, suc, ◌+◌, ◌*◌, ◌%◌, ◌<◌, List, [], ◌∷◌, ◌++◌, length, get_or, map, take, drop, replicate, Result, refl, sym, ◌∙◌, ap, arith, append_assoc, append-nil, add-one, length-append}
use Rattle.std.proofs.lemmas.List.{length-map, length-take-le, take_at, drop_at, drop-drop}
use Rattle.wire_number.specs.declared.endian.Endian.{Endian}
use Rattle.wire_number.specs.Number.{number_text, pad, padding}
use Rattle.wire_number.proofs.Steps.{AreBytes, length-number_text}
use Rattle.wire_signature.specs.SingleType.{basic_alignment}
use Rattle.wire_tree.specs.Datum.{FixedType, byte, num, data_of, num_type, width}
use Rattle.wire_encoding.specs.Encoding.{width_of, encoding, encodings, ArraysFit, AllFit}
use Rattle.wire_codec.specs.Packed.{numbers_text}
use Rattle.wire_codec.specs.Encoder.{EncoderView, place_of}
use Rattle.wire_codec.specs.Writing.{WritesText, WritesAll}
use Rattle.wire_codec.specs.declared.error.EncodeError.{EncodeError}
use Rattle.wire_codec.proofs.Appends.{byte_text}
use Rattle.wire_codec.proofs.Writes.{same_text}
use Rattle.wire_encoding.proofs.Packed.{width_is}

-- ---- the text of numbers

pub bytes_text : (order : Endian) (bs : List ℕ) → AreBytes bs → numbers_text byte order bs ≡ bs
bytes_text order [] h = refl
bytes_text order (b ∷ bs) h = ap (λ text. text ++ numbers_text byte order bs) (byte_text order b h.0) ∙ ap (λ r. b ∷ r) (bytes_text order bs h.1)

-- how long they are
pub text_long : (n : FixedType) (order : Endian) (xs : List ℕ) → length (numbers_text n order xs) ≡ length xs * width n
text_long byte order [] = refl
text_long n order [] = omega arith
text_long byte order (x ∷ xs) =
    omega (arith, text_long byte order xs, length-append (number_text (width_of byte) order x) (numbers_text byte order xs), length-number_text (width_of byte) order x)
text_long n order (x ∷ xs) =
    omega (arith, text_long n order xs, length-append (number_text (width_of n) order x) (numbers_text n order xs), length-number_text (width_of n) order x)

-- the same of values by their bits
pub numbers_long : {A : Type 0} (f : A → ℕ) (n : FixedType) (order : Endian) (xs : List A) → length (numbers_text n order (map f xs)) ≡ length xs * width n
numbers_long f n order xs = text_long n order (map f xs) ∙ ap (λ k. k * width n) (length-map xs f)

-- the place behind one number more
pub width_more : (n : FixedType) (i place wide : ℕ) → place ≡ i * width n → wide ≡ width n → place + wide ≡ (i + 1) * width n
width_more byte i place wide e f = omega (arith, e, f)
width_more n i place wide e f = omega (arith, e, f)

-- the text of one number more
text_more : {A : Type 0} (n : FixedType) (order : Endian) (f : A → ℕ) (xs : List A) (i : ℕ) (x : A) → i < length xs → x ≡ get_or xs i x
    → numbers_text n order (map f (take (suc i) xs)) ≡ numbers_text n order (map f (take i xs)) ++ number_text (width_of n) order (f x)
text_more n order f [] i x h e = absurd (omega arith)
text_more n order f (y ∷ ys) zero x h e = ap (λ z. number_text (width_of n) order (f z) ++ []) (sym e) ∙ append-nil _
text_more n order f (y ∷ ys) (suc i) x h e =
    ap (λ r. number_text (width_of n) order (f y) ++ r) (text_more n order f ys i x (omega arith) e)
    ∙ sym (append_assoc (number_text (width_of n) order (f y)) (numbers_text n order (map f (take i ys))) (number_text (width_of n) order (f x)))

-- One number more stands in its place, and what stood behind it still does.
pub one_filled : {A : Type 0} (n : FixedType) (order : Endian) (f : A → ℕ) (xs : List A) (i : ℕ) (x : A) (place wide : ℕ) (old now new : List ℕ)
    → i < length xs → x ≡ get_or xs i x → place ≡ i * width n → wide ≡ width n → now ≡ numbers_text n order (map f (take i xs)) ++ drop place old
    → new ≡ take place now ++ (number_text (width_of n) order (f x) ++ drop (place + width n) now)
    → new ≡ numbers_text n order (map f (take (i + 1) xs)) ++ drop (place + wide) old
one_filled n order f xs i x place wide old now new h e there same is put =
    let front : List ℕ = numbers_text n order (map f (take i xs)) in
    let text : List ℕ = number_text (width_of n) order (f x) in
    let more : numbers_text n order (map f (take (i + 1) xs)) ≡ front ++ text = rw add-one (text_more n order f xs i x h e) in
    let long : length front ≡ place = numbers_long f n order (take i xs) ∙ ap (λ k. k * width n) (length-take-le i xs (omega arith)) ∙ sym there in
    let first : take place now ≡ front = ap (take place) is ∙ take_at front (drop place old) place long in
    let last : drop (place + width n) now ≡ drop (place + wide) old =
    sym (drop-drop (width n) place now) ∙ ap (drop (width n)) (ap (drop place) is ∙ drop_at front (drop place old) place long) ∙ drop-drop (width n) place old
    ∙ ap (λ k. drop (place + k) old) (sym same) in
    put ∙ ap (λ r. r ++ (text ++ drop (place + width n) now)) first ∙ ap (λ r. front ++ (text ++ r)) last
    ∙ sym (append_assoc front text (drop (place + wide) old)) ∙ ap (λ r. r ++ drop (place + wide) old) (sym more)

-- ---- the elements of an array

-- each number fits, wherever it stands
numbers_fit : (order : Endian) (n : FixedType) (xs : List ℕ) (p : ℕ) → AllFit order p (data_of (map (num n) xs))
unfolding ArraysFit AllFit
numbers_fit order n [] p = tt
numbers_fit order n (x ∷ xs) p = (tt, numbers_fit order n xs (p + length (encoding order p (num n x))))

no_pad : (n : FixedType) (p : ℕ) → p % width n ≡ 0 → pad p (basic_alignment (num_type n)) ≡ 0
no_pad byte p h = omega arith
no_pad n p h = omega (arith, h)

next_place : (n : FixedType) (p k : ℕ) → k ≡ width n → p % width n ≡ 0 → (p + k) % width n ≡ 0
next_place byte p k e h = omega (arith, e)
next_place n p k e h = omega (arith, e, h)

-- Numbers that begin on their boundary have no padding between them.
encodings_packed : (n : FixedType) (order : Endian) (xs : List ℕ) (p : ℕ) → p % width n ≡ 0 → encodings order p (data_of (map (num n) xs)) ≡ numbers_text n order xs
unfolding encoding encodings
encodings_packed n order [] p h = refl
encodings_packed n order (x ∷ xs) p h =
    let text : List ℕ = number_text (width_of n) order x in
    let one : padding p (basic_alignment (num_type n)) ++ text ≡ text = ap (λ k. replicate k 0 ++ text) (no_pad n p h) in
    ap (λ t. t ++ encodings order (p + length t) (data_of (map (num n) xs))) one
    ∙ ap (λ r. text ++ r)
    (encodings_packed n order xs (p + length text) (next_place n p (length text) (length-number_text (width_of n) order x ∙ (width_is n).0) h))

-- For crates above too: numbers that were put on their boundary are the elements of their array.
pub numbers_written : {A : Type 0} (r : Result A EncodeError) (n : FixedType) (xs : List ℕ) (boundary : ℕ) (old new : EncoderView)
    → boundary ≡ width n → place_of old % boundary ≡ 0 → WritesText r (numbers_text n old.order xs) old new → WritesAll r (data_of (map (num n) xs)) old new
numbers_written r n xs boundary old new same h w =
    same_text r (numbers_text n old.order xs) _ _ _ old new (sym (encodings_packed n old.order xs (place_of old) (ap (λ k. place_of old % k) (sym same) ∙ h))) (λ k. numbers_fit old.order n xs (place_of old)) (λ k. tt) w
