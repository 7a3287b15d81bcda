-- Numbers as arguments.
use Rattle.std.proofs.Common.{◌≡◌, ℕ, ◌*◌, ◌%◌, ◌<◌, List, [], ◌∷◌, length, map, Some, None, Result, Ok, Err, IfOk, refl, sym, ◌∙◌, ap, subst}
use Rattle.wire_signature.specs.declared.basic.BasicType.{BasicType}
use Rattle.wire_signature.specs.declared.error.VariantError.{VariantError}
use Rattle.wire_signature.specs.SingleType.{basic, alignment}
use Rattle.wire_number.specs.declared.endian.Endian.{Endian}
use Rattle.wire_number.specs.Reading.{Cursor, Parse, made}
use Rattle.wire_number.proofs.Steps.{some_is}
use Rattle.wire_tree.specs.Datum.{FixedType, Datum, num, text, array, dict, struct, variant, no_data, data_of, list_of, num_type, type_of, bound, width, WellTyped}
use Rattle.wire_tree.specs.Packed.{number_in}
use Rattle.wire_tree.proofs.Packed.{arrays-one-type}
use Rattle.wire_tree.proofs.Lists.{list_of-data_of}
use Rattle.wire_encoding.specs.Reading.{num_at, many_at, value_at}
use Rattle.wire_encoding.specs.ReaderView.{Gives}
use Rattle.wire_encoding.proofs.ReadAgain.{basic_room, num_basic}
use Rattle.wire_encoding.proofs.Packed.{width_is}
use Rattle.wire_codec.specs.Packed.{plain_at}
use Rattle.wire_codec.proofs.PackedReads.{elements_found, elements_refused}
use Rattle.wire_argument.specs.Kinds.{bits_in}

-- a fixed type by its basic type
pub type_one : (m n : FixedType) → num_type m ≡ num_type n → m ≡ n
type_one m n e = (arrays-one-type m n [] [] (ap (λ b. array (basic b) no_data) e)).0

-- a number of the type
pub number_is : (d : Datum) (b : BasicType) (v : ℕ) (n : FixedType) → Some (b, v) ≡ number_in d → b ≡ num_type n → d ≡ num n v
number_is (num m w) b v n e k =
    let one = some_is (b, v) (num_type m, w) e in ap (λ t. num t w) (type_one m n (sym (ap (λ x. x.0) one) ∙ k)) ∙ ap (λ x. num n x.1) (sym one)
number_is (text t bytes) b v n e k = absurd (cc)
number_is (array t ds) b v n e k = absurd (cc)
number_is (dict t u ds) b v n e k = absurd (cc)
number_is (struct ds) b v n e k = absurd (cc)
number_is (variant d) b v n e k = absurd (cc)

pub number_within : (d : Datum) (v : ℕ) (n : FixedType) → d ≡ num n v → WellTyped d → v < bound n
number_within d v n e h = subst WellTyped e h

-- a number of another type
pub other_number : (d : Datum) (b : BasicType) (v : ℕ) (n : FixedType) → Some (b, v) ≡ number_in d → (b ≡ num_type n → ⊥) → type_of d ≡ basic (num_type n) → ⊥
other_number (num m w) b v n e k h = let kinds : b ≡ num_type m = ap (λ x. x.0) (some_is (b, v) (num_type m, w) e) in let same : num_type m ≡ num_type n = cc in k (kinds ∙ same)
other_number (text t bytes) b v n e k h = absurd (cc)
other_number (array t ds) b v n e k h = absurd (cc)
other_number (dict t u ds) b v n e k h = absurd (cc)
other_number (struct ds) b v n e k h = absurd (cc)
other_number (variant d) b v n e k h = absurd (cc)

-- the bits of values
pub bits_back : {A : Type 0} (f : ℕ → A) (n : FixedType) (xs : List ℕ) → map (λ d. f (bits_in d)) (map (num n) xs) ≡ map f xs
bits_back f n [] = refl
bits_back f n (x ∷ xs) = ap (λ ys. f x ∷ ys) (bits_back f n xs)

pub bits_listed : {A : Type 0} (f : ℕ → A) (n : FixedType) (xs : List ℕ) → map (λ d. f (bits_in d)) (list_of (data_of (map (num n) xs))) ≡ map f xs
bits_listed f n xs = ap (map (λ d. f (bits_in d))) (list_of-data_of (map (num n) xs)) ∙ bits_back f n xs

pub data_bits : {A : Type 0} (f : A → ℕ) (n : FixedType) (xs : List A) → map (num n) (map f xs) ≡ map (λ x. num n (f x)) xs
data_bits f n [] = refl
data_bits f n (x ∷ xs) = ap (λ ys. num n (f x) ∷ ys) (data_bits f n xs)

-- ---- reading

made_twice : {A B C : Type 0} (g : B → C) (f : A → B) (found : Parse A) → made g (made f found) ≡ made (λ x. g (f x)) found
made_twice g f None = refl
made_twice g f (Some x) = refl

pub number_read : {A : Type 0} (f : ℕ → A) (n : FixedType) (room : ℕ) (order : Endian) (c : Cursor)
    → made (λ d. f (bits_in d)) (value_at room order (basic (num_type n)) c) ≡ made f (num_at n order c)
number_read f n room order c =
    ap (made (λ d. f (bits_in d))) (basic_room room order (num_type n) c ∙ num_basic n order c) ∙ made_twice (λ d. f (bits_in d)) (num n) (num_at n order c)

-- a place on the boundary of a number's type
on_width : (n : FixedType) (p : ℕ) → p % alignment (basic (num_type n)) ≡ 0 → p % width n ≡ 0
on_width n p h = ap (λ k. p % k) (sym (width_is n).1) ∙ h

-- The elements that were read are those of the array.
pub numbers_given : {X A : Type 0} (items : X → List A) (bits : A → ℕ) (of_bits : ℕ → A) (r : Result X VariantError) (n : FixedType) (room : ℕ) (order : Endian) (m : ℕ) (c : Cursor)
    → c.place % alignment (basic (num_type n)) ≡ 0 → Gives (λ v. map bits (items v)) r (many_at m (plain_at n order) c) → IfOk r (λ v. map of_bits (map bits (items v)) ≡ items v)
    → Gives items r (many_at m (λ c. made (λ d. of_bits (bits_in d)) (value_at room order (basic (num_type n)) c)) c)
numbers_given items bits of_bits (Ok v) n room order m c h g k =
    elements_found (λ d. of_bits (bits_in d)) n room order m c (map bits (items v)) (on_width n c.place h) g ∙ ap Some k
numbers_given items bits of_bits (Err e) n room order m c h g k = elements_refused (λ d. of_bits (bits_in d)) e n room order m c (on_width n c.place h) g
