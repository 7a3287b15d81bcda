-- Bytes in hexadecimal: what is written is read again, and what is read was written so.
use Rattle.std.proofs.{Common.{ℕ, ◌≡◌, ◌+◌, ◌*◌, ◌/◌, ◌%◌, ◌<◌, List, [], ◌∷◌, ◌++◌, length, Option, Some, None, refl, sym, ap, ◌∙◌, arith, append_assoc, subst}, lemmas.Bool.Decides.nat_tests, lemmas.List.Elements.{All-head, All-tail, All-cons, All-from_recursion}}
use Rattle.std.specs.{List.All, Io.KnownBytes.prepend_known}
use Rattle.peer_words.specs.Hex.{hex_value, hex_byte, onto, hex_pairs, bytes_of, hex_digit, hex_two, hex_word}

prepend_push : (xs : List ℕ) (b : ℕ) (o : Option (List ℕ)) → prepend_known (xs ++ b ∷ []) o ≡ prepend_known xs (onto (Some b) o)
prepend_push xs b None = refl
prepend_push xs b (Some ys) = ap Some (append_assoc xs (b ∷ []) ys)

-- one byte more was taken
pub taken_more : (spelled : List ℕ → Option (List ℕ)) (word rest more bytes grown : List ℕ) (b : ℕ) → prepend_known bytes (spelled rest) ≡ spelled word
    → spelled rest ≡ onto (Some b) (spelled more) → grown ≡ bytes ++ b ∷ [] → prepend_known grown (spelled more) ≡ spelled word
taken_more spelled word rest more bytes grown b p q e =
    ap (λ l. prepend_known l (spelled more)) e ∙ prepend_push bytes b (spelled more) ∙ ap (prepend_known bytes) (sym q) ∙ p

-- ---- what is written is read

digit_again : (k : ℕ) → k < 16 → hex_value (hex_digit k) ≡ Some k
digit_again k h = grind (arith, nat_tests)

pub byte_again : (b : ℕ) → b < 256 → hex_byte (hex_value (hex_digit (b / 16))) (hex_value (hex_digit (b % 16))) ≡ Some b
byte_again b h =
    let high = digit_again (b / 16) (omega arith) in
    let low = digit_again (b % 16) (omega arith) in
    rw (high, low) (ap Some (omega arith))

pairs_again : (bytes : List ℕ) → All (λ b. b < 256) bytes → hex_pairs (hex_word bytes) ≡ Some bytes
pairs_again [] h = refl
pairs_again (b ∷ bytes) h = rw (byte_again b (All-head (λ b. b < 256) b bytes h), pairs_again bytes (All-tail (λ b. b < 256) b bytes h)) refl

pub bytes_again : (bytes : List ℕ) → 0 < length bytes → All (λ b. b < 256) bytes → bytes_of (hex_word bytes) ≡ Some bytes
bytes_again [] few h = absurd (omega arith)
bytes_again (b ∷ bytes) few h = pairs_again (b ∷ bytes) h

-- ---- what is read was written

digit_by : (a k : ℕ) → hex_value a ≡ Some k → (k < 16) × (a ≡ hex_digit k)
digit_by a k h = grind (arith, nat_tests)

byte_by : (u v : Option ℕ) (b : ℕ) → hex_byte u v ≡ Some b → (high : ℕ) × (low : ℕ) × (u ≡ Some high) × (v ≡ Some low) × (b ≡ 16 * high + low)
byte_by None v b h = absurd (cc)
byte_by (Some high) None b h = absurd (cc)
byte_by (Some high) (Some low) b h = (high, low, refl, refl, cc)

two_is : (a c b : ℕ) → hex_byte (hex_value a) (hex_value c) ≡ Some b → (b < 256) × (a ∷ c ∷ [] ≡ hex_two b)
two_is a c b h =
    let k = byte_by (hex_value a) (hex_value c) b h in
    let high = digit_by a k.0 k.2 in
    let low = digit_by c k.1 k.3 in
    let up : k.0 ≡ b / 16 = omega (arith, k.4, high.0, low.0) in
    let down : k.1 ≡ b % 16 = omega (arith, k.4, high.0, low.0) in (
      omega (arith, k.4, high.0, low.0),
      ap (λ x. x ∷ c ∷ []) (high.1 ∙ ap hex_digit up) ∙ ap (λ x. hex_digit (b / 16) ∷ x ∷ []) (low.1 ∙ ap hex_digit down),
    )

onto_by : (o : Option ℕ) (r : Option (List ℕ)) (bytes : List ℕ) → onto o r ≡ Some bytes → (b : ℕ) × (bs : List ℕ) × (o ≡ Some b) × (r ≡ Some bs) × (bytes ≡ b ∷ bs)
onto_by None r bytes h = absurd (cc)
onto_by (Some b) None bytes h = absurd (cc)
onto_by (Some b) (Some bs) bytes h = (b, bs, refl, refl, cc)

-- digits, and what they spell
pub record Digits (word bytes : List ℕ) : Type 0 where
  pub written : word ≡ hex_word bytes
  pub low : All (λ b. b < 256) bytes

no_digits : (bytes : List ℕ) → Some [] ≡ Some bytes → Digits [] bytes
no_digits [] h = record { written = refl; low = All-from_recursion (λ b. b < 256) [] tt }
no_digits (b ∷ bytes) h = absurd (cc)

more_digits : (a c b : ℕ) (rest bs bytes : List ℕ) → (b < 256) → a ∷ c ∷ [] ≡ hex_two b → bytes ≡ b ∷ bs → Digits rest bs → Digits (a ∷ c ∷ rest) bytes
more_digits a c b rest bs bytes small two is d = record {
  written = ap (λ l. l ++ rest) two ∙ ap (λ l. hex_two b ++ l) d.written ∙ ap hex_word (sym is);
  low = subst (All (λ b. b < 256)) (sym is) (All-cons (λ b. b < 256) b bs small d.low);
}

pairs_by : (word bytes : List ℕ) → hex_pairs word ≡ Some bytes → Digits word bytes
pairs_by [] bytes h = no_digits bytes h
pairs_by (a ∷ []) bytes h = absurd (cc)
pairs_by (a ∷ c ∷ rest) bytes h =
    let k = onto_by (hex_byte (hex_value a) (hex_value c)) (hex_pairs rest) bytes h in
    let two = two_is a c k.0 k.2 in
    more_digits a c k.0 rest k.1 bytes two.0 two.1 k.4 (pairs_by rest k.1 k.3)

some_first : (b : ℕ) (rest bytes : List ℕ) → hex_pairs (b ∷ rest) ≡ Some bytes → 0 < length bytes
some_first b [] bytes h = absurd (cc)
some_first b (c ∷ rest) bytes h =
    let k = onto_by (hex_byte (hex_value b) (hex_value c)) (hex_pairs rest) bytes h in
    omega (arith, ap length k.4)

pub digits_are : (word bytes : List ℕ) → bytes_of word ≡ Some bytes → Digits word bytes × (0 < length bytes)
digits_are [] bytes h = absurd (cc)
digits_are (b ∷ rest) bytes h = (pairs_by (b ∷ rest) bytes h, some_first b rest bytes h)
