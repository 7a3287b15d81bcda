-- What was kept of arguments, and that it answers each test as the arguments do.
use Rattle.std.proofs.Common.{◌≡◌, refl, sym, ap, ◌∙◌, ℕ, zero, suc, ◌+◌, ◌<◌, ◌≤◌, Bool, true, false, ◌&&◌, ◌==◌, if◌then◌else◌, List, [], ◌∷◌, ◌++◌, length, set, Option, Some, None, is_none, is_some, unwrap_or, slice_get, arith}
use Rattle.std.specs.List.{list_all}
use Rattle.std.proofs.lemmas.Bool.Decides.{nat_tests}
use Rattle.std.proofs.lemmas.List.{get_or-set_same, get_or-set_other}
use Rattle.wire_tree.specs.Datum.{Datum, string, object_path, signature, num, text, array, dict, struct, variant}
use Rattle.rule_match.specs.declared.arguments.Argument.{Argument}
use Rattle.rule_match.specs.declared.found.FoundText.{FoundText}
use Rattle.rule_match.specs.ArgumentTests.{is_string, is_path, is_name_in, has_at}
use Rattle.rule_match.specs.Found.{value_of, text_in, text_at, kept_at, passes}
use Rattle.rule_match.specs.Wanted.{Wanted, is_nothing}
use Rattle.rule_match.specs.Accepting.{is_none_or, accepts_arguments}

-- ---- what is kept of one more argument

pub set_kept : (found : List FoundText) (i k : ℕ) (t : FoundText) → i < length found
    → kept_at (set found i t) k ≡ (if i == k then value_of t else kept_at found k)
set_kept found i k t h = grind (arith, nat_tests, get_or-set_same, get_or-set_other)

text_more : (ds : List Datum) (d : Datum) (k : ℕ) → text_at (ds ++ d ∷ []) k ≡ (if length ds == k then text_in d else text_at ds k)
text_more [] d zero = refl
text_more [] d (suc k) = let other : (0 == suc k) ≡ false = grind (arith, nat_tests) in rw other refl
text_more (x ∷ ds) d zero = let other : (suc (length ds) == 0) ≡ false = grind (arith, nat_tests) in rw other refl
text_more (x ∷ ds) d (suc k) = let same : (suc (length ds) == suc k) ≡ (length ds == k) = grind (arith, nat_tests) in rw same (text_more ds d k)

-- an argument more is passed, and its text is kept
pub texts_more : (ds : List Datum) (d : Datum) (i : ℕ) (found after : List FoundText) (t : Option Datum)
    → ((k : ℕ) → k < 64 → k < i → kept_at found k ≡ text_at ds k) → i ≡ length ds → t ≡ text_in d
    → ((k : ℕ) → k < 64 → kept_at after k ≡ (if i == k then t else kept_at found k)) → (k : ℕ) → k < 64 → k < i + 1 → kept_at after k ≡ text_at (ds ++ d ∷ []) k
texts_more ds d i found after t are count same kept k low below =
    kept k low ∙ of_test (i == k) refl ∙ ap (λ o. if i == k then o else text_at ds k) same ∙ ap (λ n. if n == k then text_in d else text_at ds k) count
    ∙ sym (text_more ds d k) where
      of_test : (b : Bool) → (i == k) ≡ b → (if i == k then t else kept_at found k) ≡ (if i == k then t else text_at ds k)
      of_test true e = ap (λ b. if b then t else kept_at found k) e ∙ sym (ap (λ b. if b then t else text_at ds k) e)
      of_test false e = let smaller : k < i = grind (arith, nat_tests, e, below) in ap (λ o. if i == k then t else o) (are k low smaller)

-- the text of an argument that is passed is the same whatever stands behind it
pub text_within : (ds rest : List Datum) (k : ℕ) → k < length ds → text_at (ds ++ rest) k ≡ text_at ds k
text_within [] rest k h = absurd (omega (arith, h))
text_within (d ∷ ds) rest zero h = refl
text_within (d ∷ ds) rest (suc k) h = text_within ds rest k (omega (arith, h))

-- there is none behind the last
pub text_beyond : (ds : List Datum) (k : ℕ) → length ds ≤ k → text_at ds k ≡ None
text_beyond [] k h = refl
text_beyond (d ∷ ds) zero h = absurd (omega (arith, h))
text_beyond (d ∷ ds) (suc k) h = text_beyond ds k (omega (arith, h))

-- ---- tests

-- values of other types than strings and object paths fail the test
abbrev IsOfTexts : (Datum → Bool) → Type 0
IsOfTexts test = (d : Datum) → passes test (text_in d) ≡ test d

of_strings : (wanted : List ℕ) → IsOfTexts (is_string wanted)
of_strings wanted (num n v) = refl
of_strings wanted (text string bytes) = refl
of_strings wanted (text object_path bytes) = refl
of_strings wanted (text signature bytes) = refl
of_strings wanted (array t ds) = refl
of_strings wanted (dict k v es) = refl
of_strings wanted (struct ds) = refl
of_strings wanted (variant d) = refl

of_paths : (wanted : List ℕ) → IsOfTexts (is_path wanted)
of_paths wanted (num n v) = refl
of_paths wanted (text string bytes) = refl
of_paths wanted (text object_path bytes) = refl
of_paths wanted (text signature bytes) = refl
of_paths wanted (array t ds) = refl
of_paths wanted (dict k v es) = refl
of_paths wanted (struct ds) = refl
of_paths wanted (variant d) = refl

of_names : (namespace : List ℕ) → IsOfTexts (is_name_in namespace)
of_names namespace (num n v) = refl
of_names namespace (text string bytes) = refl
of_names namespace (text object_path bytes) = refl
of_names namespace (text signature bytes) = refl
of_names namespace (array t ds) = refl
of_names namespace (dict k v es) = refl
of_names namespace (struct ds) = refl
of_names namespace (variant d) = refl

text_passes : (test : Datum → Bool) → IsOfTexts test → (ds : List Datum) (k : ℕ) → passes test (text_at ds k) ≡ has_at test k ds
text_passes test h [] k = refl
text_passes test h (d ∷ ds) zero = h d
text_passes test h (d ∷ ds) (suc k) = text_passes test h ds k

module _ (ds : List Datum) (k : ℕ) (text : Option Datum) (is : text ≡ text_at ds k) where
  pub string_passes : (wanted : List ℕ) → passes (is_string wanted) text ≡ has_at (is_string wanted) k ds
  string_passes wanted = ap (passes (is_string wanted)) is ∙ text_passes (is_string wanted) (of_strings wanted) ds k

  pub path_passes : (wanted : List ℕ) → passes (is_path wanted) text ≡ has_at (is_path wanted) k ds
  path_passes wanted = ap (passes (is_path wanted)) is ∙ text_passes (is_path wanted) (of_paths wanted) ds k

  pub name_passes : (namespace : List ℕ) → passes (is_name_in namespace) text ≡ has_at (is_name_in namespace) k ds
  name_passes namespace = ap (passes (is_name_in namespace)) is ∙ text_passes (is_name_in namespace) (of_names namespace) ds k

-- ---- what a rule wants

nothing_asked : (args paths : List Argument) (n : Option (List ℕ)) (p q : Argument → Bool) (test : List ℕ → Bool)
    → (is_none (slice_get args 0) && (is_none (slice_get paths 0) && is_none n)) ≡ true → (list_all p args && (list_all q paths && is_none_or test n)) ≡ true
nothing_asked [] [] None p q test h = refl
nothing_asked [] [] (Some n) p q test h = absurd (cc)
nothing_asked [] (a ∷ paths) n p q test h = absurd (cc)
nothing_asked (a ∷ args) paths n p q test h = absurd (cc)

some_asked : (args paths : List Argument) (n : Option (List ℕ)) (p q : Argument → Bool) (test : List ℕ → Bool)
    → ((a : Argument) → p a ≡ false) → ((a : Argument) → q a ≡ false) → ((name : List ℕ) → test name ≡ false)
    → (is_none (slice_get args 0) && (is_none (slice_get paths 0) && is_none n)) ≡ false → (list_all p args && (list_all q paths && is_none_or test n)) ≡ false
some_asked [] [] None p q test np nq nt h = absurd (cc)
some_asked [] [] (Some n) p q test np nq nt h = nt n
some_asked [] (a ∷ paths) n p q test np nq nt h = ap (λ b. (b && list_all q paths) && is_none_or test n) (nq a)
some_asked (a ∷ args) paths n p q test np nq nt h = ap (λ b. (b && list_all p args) && (list_all q paths && is_none_or test n)) (np a)

-- a rule that wants something of arguments takes no message without any
pub no_arguments : (w : Wanted) → is_nothing w ≡ false → accepts_arguments w [] ≡ false
unfolding accepts_arguments
no_arguments w h = some_asked w.args w.arg_paths w.arg0ns _ _ _ (λ a. refl) (λ a. refl) (λ name. refl) h

module _ (w : Wanted) (wants : is_nothing w ≡ false) (o : Option (List Datum)) where
  -- nor one whose arguments can't be read
  pub unreadable : o ≡ None → false ≡ accepts_arguments w (unwrap_or o [])
  unreadable e = sym (ap (λ o. accepts_arguments w (unwrap_or o [])) e ∙ no_arguments w wants)

  pub fitting : (fits readable : Bool) → ((ds : List Datum) → o ≡ Some ds → fits ≡ accepts_arguments w ds) → fits ≡ true → readable ≡ is_some o
      → readable ≡ accepts_arguments w (unwrap_or o [])
  fitting fits readable has e is = is ∙ by o refl where
    by : (p : Option (List Datum)) → o ≡ p → is_some p ≡ accepts_arguments w (unwrap_or p [])
    by None none = sym (no_arguments w wants)
    by (Some ds) some = sym e ∙ has ds some

  pub not_fitting : (fits : Bool) → ((ds : List Datum) → o ≡ Some ds → fits ≡ accepts_arguments w ds) → fits ≡ false → fits ≡ accepts_arguments w (unwrap_or o [])
  not_fitting fits has e = by o refl where
    by : (p : Option (List Datum)) → o ≡ p → fits ≡ accepts_arguments w (unwrap_or p [])
    by None none = e ∙ sym (no_arguments w wants)
    by (Some ds) some = has ds some

-- a rule that wants nothing of arguments takes any
pub nothing_wanted : (w : Wanted) (ds : List Datum) → is_nothing w ≡ true → accepts_arguments w ds ≡ true
unfolding accepts_arguments
nothing_wanted w ds h = nothing_asked w.args w.arg_paths w.arg0ns _ _ _ h
