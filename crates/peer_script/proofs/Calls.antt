-- The words of a call are read again: absent names, and the letters of flags.
use Rattle.std.proofs.Common.{ℕ, ◌≡◌, ◌<◌, Bool, true, false, ◌||◌, if◌then◌else◌, List, [], ◌∷◌, ◌++◌, length, Option, Some, None, refl, sym, ap, ◌∙◌, arith}
use Rattle.std.specs.List.{list_all}
use Rattle.peer_words.specs.declared.words.CallFlags.{CallFlags}
use Rattle.peer_script.specs.{Word.{same, text_of, text_word, optional_word, flag_letter, flag_letters, or_dash, flags_word}, Script.{is_absent, present, optional_of, flags_of}, Again.IsOptional}
use Rattle.peer_script.proofs.{Digits.same_is, Spelling.{text_again}, Again.word_byte}

-- ---- what may be absent

dash_text : text_of (45 ∷ []) ≡ Some (45 ∷ [])
unfolding text_of
dash_text = refl

absent_by : (text word : List ℕ) (v : Bool) → text_of word ≡ Some text → is_absent text ≡ false → same word (45 ∷ []) ≡ v → v ≡ false
absent_by text word true g o h =
    let t : Some text ≡ Some (45 ∷ []) = sym g ∙ (ap text_of (same_is word (45 ∷ []) h) ∙ dash_text) in
    let is : text ≡ 45 ∷ [] = cc in
    absurd (cc (ap (λ x. same x (45 ∷ [])) is, o))
absent_by text word false g o h = refl

pub optional_again : (o : Option (List ℕ)) → IsOptional o → optional_of (optional_word o) ≡ Some o
optional_again None h = refl
optional_again (Some text) h =
    let again = text_again text h.some.some h.some.bytes in
    let there : is_absent (text_word text) ≡ false = absent_by text (text_word text) (is_absent (text_word text)) again h.other refl in
    ap (λ b. if b then Some None else present (text_of (text_word text))) there ∙ ap present again

-- ---- flags

pub record ReadFlags (f : CallFlags) : Type 0 where
  pub again : flags_of (flags_word f) ≡ Some f
  pub bytes : list_all word_byte (flags_word f) ≡ true
  pub other : same (flags_word f) (61 ∷ []) ≡ false

flags_read : (n a i b d : Bool) → ReadFlags (record { no_reply_expected = n; no_auto_start = a; allow_interactive_auth = i; big = b; descriptor = d })
flags_read false false false false false = record { again = refl; bytes = refl; other = refl }
flags_read false false false false true = record { again = refl; bytes = refl; other = refl }
flags_read false false false true false = record { again = refl; bytes = refl; other = refl }
flags_read false false false true true = record { again = refl; bytes = refl; other = refl }
flags_read false false true false false = record { again = refl; bytes = refl; other = refl }
flags_read false false true false true = record { again = refl; bytes = refl; other = refl }
flags_read false false true true false = record { again = refl; bytes = refl; other = refl }
flags_read false false true true true = record { again = refl; bytes = refl; other = refl }
flags_read false true false false false = record { again = refl; bytes = refl; other = refl }
flags_read false true false false true = record { again = refl; bytes = refl; other = refl }
flags_read false true false true false = record { again = refl; bytes = refl; other = refl }
flags_read false true false true true = record { again = refl; bytes = refl; other = refl }
flags_read false true true false false = record { again = refl; bytes = refl; other = refl }
flags_read false true true false true = record { again = refl; bytes = refl; other = refl }
flags_read false true true true false = record { again = refl; bytes = refl; other = refl }
flags_read false true true true true = record { again = refl; bytes = refl; other = refl }
flags_read true false false false false = record { again = refl; bytes = refl; other = refl }
flags_read true false false false true = record { again = refl; bytes = refl; other = refl }
flags_read true false false true false = record { again = refl; bytes = refl; other = refl }
flags_read true false false true true = record { again = refl; bytes = refl; other = refl }
flags_read true false true false false = record { again = refl; bytes = refl; other = refl }
flags_read true false true false true = record { again = refl; bytes = refl; other = refl }
flags_read true false true true false = record { again = refl; bytes = refl; other = refl }
flags_read true false true true true = record { again = refl; bytes = refl; other = refl }
flags_read true true false false false = record { again = refl; bytes = refl; other = refl }
flags_read true true false false true = record { again = refl; bytes = refl; other = refl }
flags_read true true false true false = record { again = refl; bytes = refl; other = refl }
flags_read true true false true true = record { again = refl; bytes = refl; other = refl }
flags_read true true true false false = record { again = refl; bytes = refl; other = refl }
flags_read true true true false true = record { again = refl; bytes = refl; other = refl }
flags_read true true true true false = record { again = refl; bytes = refl; other = refl }
flags_read true true true true true = record { again = refl; bytes = refl; other = refl }

pub flags_again : (f : CallFlags) → ReadFlags f
flags_again f = flags_read f.no_reply_expected f.no_auto_start f.allow_interactive_auth f.big f.descriptor

pub dash_some : (letters : List ℕ) → 0 < length (or_dash letters)
dash_some [] = omega arith
dash_some (b ∷ bs) = omega arith

no_letters_by : (n a i b d : Bool) → (n || a || i || b || d) ≡ false → or_dash (flag_letter 110 n ++ flag_letter 97 a ++ flag_letter 105 i ++ flag_letter 98 b ++ flag_letter 100 d) ≡ 45 ∷ []
no_letters_by true a i b d h = absurd (cc)
no_letters_by false true i b d h = absurd (cc)
no_letters_by false false true b d h = absurd (cc)
no_letters_by false false false true d h = absurd (cc)
no_letters_by false false false false true h = absurd (cc)
no_letters_by false false false false false h = refl

letters_by : (n a i b d : Bool) → (n || a || i || b || d) ≡ true
    → or_dash (flag_letter 110 n ++ flag_letter 97 a ++ flag_letter 105 i ++ flag_letter 98 b ++ flag_letter 100 d) ≡ flag_letter 110 n ++ flag_letter 97 a ++ flag_letter 105 i ++ flag_letter 98 b ++ flag_letter 100 d
letters_by true a i b d h = refl
letters_by false true i b d h = refl
letters_by false false true b d h = refl
letters_by false false false true d h = refl
letters_by false false false false true h = refl
letters_by false false false false false h = absurd (cc)

-- where no flag is set, their word is `-`
pub no_letters : (f : CallFlags) → (f.no_reply_expected || f.no_auto_start || f.allow_interactive_auth || f.big || f.descriptor) ≡ false → flags_word f ≡ 45 ∷ []
no_letters f h = no_letters_by f.no_reply_expected f.no_auto_start f.allow_interactive_auth f.big f.descriptor h

pub some_letters : (f : CallFlags) → (f.no_reply_expected || f.no_auto_start || f.allow_interactive_auth || f.big || f.descriptor) ≡ true → flags_word f ≡ flag_letters f
some_letters f h = letters_by f.no_reply_expected f.no_auto_start f.allow_interactive_auth f.big f.descriptor h
