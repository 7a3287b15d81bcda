-- A transcript's lines are read again.
use Rattle.std.proofs.Common.{ℕ, ◌≡◌, ◌<◌, Bool, true, false, ◌&&◌, not, nat_eq, nat_le, List, [], ◌∷◌, ◌++◌, length, refl, ap, ◌∙◌, arith, append_assoc, append-nil}
use Rattle.std.specs.List.{list_all, slice_split, All}
use Rattle.std.specs.Char.{is_ascii_digit}
use Rattle.std.proofs.lemmas.Bool.Decides.{nat_tests}
use Rattle.std.proofs.lemmas.List.Elements.{All-head, All-tail, All-weaker}
use Rattle.std.proofs.lemmas.List.Sums.{AllPass-from_list_all}
use Rattle.std.proofs.lemmas.List.Folds.{list_all-append}
use Rattle.std.proofs.lemmas.List.Splits.{slice_split_at, slice_split_none}
use Rattle.peer_script.specs.Word.{same, words_of}
use Rattle.peer_script.specs.Script.{before_answer, parts}
use Rattle.peer_script.specs.Transcript.{spaced}

-- ---- bytes of words and of lines

abbrev pub word_byte : ℕ → Bool
word_byte b = nat_le 33 b && nat_le b 126

abbrev pub line_byte : ℕ → Bool
line_byte b = nat_le 32 b && nat_le b 126

pub both : (a b : Bool) → a ≡ true → b ≡ true → (a && b) ≡ true
both a b e f = rw (e, f) refl

pub first : (a b : Bool) → (a && b) ≡ true → a ≡ true
first true b h = refl
first false b h = cc

pub second : (a b : Bool) → (a && b) ≡ true → b ≡ true
second true b h = h
second false b h = cc

pub weaker : (p q : ℕ → Bool) → ((b : ℕ) → p b ≡ true → q b ≡ true) → (xs : List ℕ) → list_all p xs ≡ true → list_all q xs ≡ true
weaker p q f [] h = refl
weaker p q f (x ∷ xs) h = both (q x) (list_all q xs) (f x (first (p x) (list_all p xs) h)) (weaker p q f xs (second (p x) (list_all p xs) h))

pub joined : (p : ℕ → Bool) (xs ys : List ℕ) → list_all p xs ≡ true → list_all p ys ≡ true → list_all p (xs ++ ys) ≡ true
joined p xs ys e f = list_all-append p xs ys ∙ both _ _ e f

pub word_line : (xs : List ℕ) → list_all word_byte xs ≡ true → list_all line_byte xs ≡ true
word_line xs h = weaker word_byte line_byte (λ b e. grind (arith, nat_tests)) xs h

pub digits_word : (xs : List ℕ) → list_all is_ascii_digit xs ≡ true → list_all word_byte xs ≡ true
digits_word xs h = weaker is_ascii_digit word_byte (λ b e. grind (arith, nat_tests)) xs h

-- ---- parts

split_here : (c : ℕ) (p : ℕ → Bool) → ((b : ℕ) → p b ≡ true → nat_eq b c ≡ false) → (xs ys : List ℕ) → list_all p xs ≡ true
    → slice_split (λ b. nat_eq b c) (xs ++ c ∷ ys) ≡ xs ∷ slice_split (λ b. nat_eq b c) ys
split_here c p f xs ys h =
    slice_split_at (λ b. nat_eq b c) xs c ys (All-weaker (λ b. p b ≡ true) (λ b. nat_eq b c ≡ false) f xs (AllPass-from_list_all p xs h)) (grind (arith, nat_tests))

split_whole : (c : ℕ) (p : ℕ → Bool) → ((b : ℕ) → p b ≡ true → nat_eq b c ≡ false) → (xs : List ℕ) → list_all p xs ≡ true
    → slice_split (λ b. nat_eq b c) xs ≡ xs ∷ []
split_whole c p f xs h =
    slice_split_none (λ b. nat_eq b c) xs (All-weaker (λ b. p b ≡ true) (λ b. nat_eq b c ≡ false) f xs (AllPass-from_list_all p xs h))

no_space : (b : ℕ) → word_byte b ≡ true → nat_eq b 32 ≡ false
no_space b h = grind (arith, nat_tests)

no_newline : (b : ℕ) → line_byte b ≡ true → nat_eq b 10 ≡ false
no_newline b h = grind (arith, nat_tests)

pub line_part : (line rest : List ℕ) → list_all line_byte line ≡ true → parts (line ++ 10 ∷ rest) ≡ line ∷ parts rest
line_part line rest h = split_here 10 line_byte no_newline line rest h

word_part : (word rest : List ℕ) → list_all word_byte word ≡ true → words_of (word ++ 32 ∷ rest) ≡ word ∷ words_of rest
word_part word rest h = split_here 32 word_byte no_space word rest h

last_part : (word : List ℕ) → list_all word_byte word ≡ true → words_of word ≡ word ∷ []
last_part word h = split_whole 32 word_byte no_space word h

-- ---- words with spaces before them

-- a word of a line, which isn't `=`
pub record IsWord (word : List ℕ) : Type 0 where
  pub bytes : list_all word_byte word ≡ true
  pub some : 0 < length word
  pub other : same word (61 ∷ []) ≡ false

is_not : (b : Bool) → not b ≡ true → b ≡ false
is_not true h = cc
is_not false h = refl

some_bytes : (w : List ℕ) → nat_le 1 (length w) ≡ true → 0 < length w
some_bytes [] h = cc
some_bytes (b ∷ w) h = omega arith

abbrev pub is_name : List ℕ → Bool
is_name w = list_all word_byte w && (nat_le 1 (length w) && not (same w (61 ∷ [])))

-- a name that stands in a text is a word
pub named : (w : List ℕ) → is_name w ≡ true → IsWord w
named w h =
    let rest = second (list_all word_byte w) _ h in
    record { bytes = first (list_all word_byte w) _ h; some = some_bytes w (first (nat_le 1 (length w)) _ rest); other = is_not _ (second (nat_le 1 (length w)) _ rest) }

pub words_again : (word : List ℕ) (words : List (List ℕ)) (rest : List ℕ) → IsWord word → All IsWord words
    → words_of (word ++ (spaced words ++ 32 ∷ rest)) ≡ word ∷ (words ++ words_of rest)
words_again word [] rest w ws = word_part word rest w.bytes
words_again word (next ∷ words) rest w ws =
    ap (λ l. words_of (word ++ 32 ∷ l)) (append_assoc next (spaced words) (32 ∷ rest)) ∙ word_part word _ w.bytes
    ∙ ap (λ l. word ∷ l) (words_again next words rest (All-head IsWord next words ws) (All-tail IsWord next words ws))

pub words_alone : (word : List ℕ) (words : List (List ℕ)) → IsWord word → All IsWord words → words_of (word ++ spaced words) ≡ word ∷ words
words_alone word [] w ws = ap words_of (append-nil word) ∙ last_part word w.bytes
words_alone word (next ∷ words) w ws =
    word_part word _ w.bytes ∙ ap (λ l. word ∷ l) (words_alone next words (All-head IsWord next words ws) (All-tail IsWord next words ws))

-- ---- what stands before the answer

byte_before : (b : ℕ) (rest : List ℕ) → nat_eq b 32 ≡ false → before_answer (b ∷ rest) ≡ b ∷ before_answer rest
byte_before b [] h = refl
byte_before b (c ∷ []) h = refl
byte_before b (c ∷ d ∷ rest) h = rw h refl

word_before : (word rest : List ℕ) → list_all word_byte word ≡ true → before_answer (word ++ rest) ≡ word ++ before_answer rest
word_before [] rest h = refl
word_before (b ∷ word) rest h =
    byte_before b (word ++ rest) (no_space b (first (word_byte b) (list_all word_byte word) h))
    ∙ ap (λ l. b ∷ l) (word_before word rest (second (word_byte b) (list_all word_byte word) h))

no_answer : (b c : ℕ) (rest : List ℕ) → (nat_eq b 61 && nat_eq c 32) ≡ false → before_answer (32 ∷ b ∷ c ∷ rest) ≡ 32 ∷ before_answer (b ∷ c ∷ rest)
no_answer b c rest h = rw h refl

lone_by : (u v : Bool) → (u && true) ≡ false → (u && v) ≡ false
lone_by true v h = cc
lone_by false v h = refl

and_false : (u v : Bool) → v ≡ false → (u && v) ≡ false
and_false true v h = h
and_false false v h = refl

lone : (b c : ℕ) → same (b ∷ []) (61 ∷ []) ≡ false → (nat_eq b 61 && nat_eq c 32) ≡ false
lone b c h = lone_by (nat_eq b 61) (nat_eq c 32) h

space_before : (word rest : List ℕ) → IsWord word → before_answer (32 ∷ (word ++ rest)) ≡ 32 ∷ before_answer (word ++ rest)
space_before [] rest w = absurd (omega (arith, w.some))
space_before (b ∷ []) [] w = refl
space_before (b ∷ []) (c ∷ rest) w = no_answer b c rest (lone b c w.other)
space_before (b ∷ c ∷ word) rest w = no_answer b c (word ++ rest)
    (and_false (nat_eq b 61) (nat_eq c 32) (no_space c (first (word_byte c) (list_all word_byte word) (second (word_byte b) (word_byte c && list_all word_byte word) w.bytes))))

pub before_again : (word : List ℕ) (words : List (List ℕ)) (answer : List ℕ) → IsWord word → All IsWord words
    → before_answer (word ++ (spaced words ++ 32 ∷ 61 ∷ 32 ∷ answer)) ≡ word ++ spaced words
before_again word [] answer w ws = word_before word (32 ∷ 61 ∷ 32 ∷ answer) w.bytes ∙ refl
before_again word (next ∷ words) answer w ws =
    word_before word _ w.bytes
    ∙ ap (λ l. word ++ before_answer (32 ∷ l)) (append_assoc next (spaced words) (32 ∷ 61 ∷ 32 ∷ answer))
    ∙ ap (λ l. word ++ l) (space_before next _ (All-head IsWord next words ws))
    ∙ ap (λ l. word ++ 32 ∷ l) (before_again next words answer (All-head IsWord next words ws) (All-tail IsWord next words ws))
