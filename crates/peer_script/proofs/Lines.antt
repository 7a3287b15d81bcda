-- Lines, and what stands before the first ` = `.
use Rattle.std.proofs.Common.{ℕ, zero, suc, ◌≡◌, ◌+◌, ◌-◌, ◌<◌, ◌≤◌, inl, inr, Bool, true, false, cond, not, nat_eq, List, [], ◌∷◌, ◌++◌, length, take, drop, get_or, slice_index, slice_index_or, Option, Some, None, IfSome, refl, sym, ap, ◌∙◌, subst, arith, take-append-drop, length-append, length-take, length-drop}
use Rattle.std.specs.List.{All, count_by}
use Rattle.std.specs.Io.KnownBytes.{Consumes}
use Rattle.std.proofs.KnownBytes.{Consumes-trans}
use Rattle.std.proofs.lemmas.Bool.Decides.{nat_tests}
use Rattle.std.proofs.lemmas.List.Sums.{count_by-le-length, sum_by-append}
use Rattle.std.proofs.lemmas.List.{take_rest, take_all, get_or-take, get_or_default}
use Rattle.std.proofs.lemmas.List.Splits.{slice_split_at, slice_split_none}
use Rattle.std.proofs.Math.Seq.{drop-cons}
use Rattle.std.proofs.Math.Numerals.{add-one}
use Rattle.peer_script.specs.{Script.{before_answer, is_open, line_count, parts}, Reading.{IsWithin, PassesLimit}}

before_short : (xs : List ℕ) → length xs ≤ 2 → before_answer xs ≡ xs
before_short [] h = refl
before_short (a ∷ []) h = refl
before_short (a ∷ b ∷ []) h = refl
before_short (a ∷ b ∷ c ∷ xs) h = absurd (omega arith)

pub before_end : (at : ℕ) (xs : List ℕ) → length xs ≤ at + 2 → before_answer xs ≡ take at xs ++ before_answer (drop at xs) → xs ≡ before_answer xs
before_end at xs h e =
    sym (e ∙ ap (λ l. take at xs ++ l) (before_short (drop at xs) (omega (arith, length-drop at xs))) ∙ take-append-drop at xs)

-- the byte at a place, between what stands before and behind it
at_place : (at : ℕ) (xs : List ℕ) → at < length xs → xs ≡ take at xs ++ get_or xs at 0 ∷ drop (at + 1) xs
at_place at xs h = sym (take-append-drop at xs) ∙ ap (λ l. take at xs ++ l) (drop-cons xs at 0 h ∙ ap (λ n. get_or xs at 0 ∷ drop n xs) (sym (add-one at)))

pub parts_at : (at : ℕ) (xs : List ℕ) → at < length xs → All (λ b. nat_eq b 10 ≡ false) (take at xs) → get_or xs at 0 ≡ 10
    → parts xs ≡ take at xs ∷ parts (take (length xs - (at + 1)) (drop (at + 1) xs))
parts_at at xs h none e =
    ap parts (at_place at xs h ∙ ap (λ b. take at xs ++ b ∷ drop (at + 1) xs) e)
    ∙ slice_split_at (λ b. nat_eq b 10) (take at xs) 10 (drop (at + 1) xs) none refl
    ∙ ap (λ l. take at xs ∷ parts l) (sym (take_rest xs (at + 1)))

pub no_end : (at : ℕ) (xs : List ℕ) → length xs ≤ at → All (λ b. nat_eq b 10 ≡ false) (take at xs) → parts xs ≡ xs ∷ []
no_end at xs h none = slice_split_none (λ b. nat_eq b 10) xs (subst (All (λ b. nat_eq b 10 ≡ false)) (take_all at xs h) none)

is_no : (b : Bool) → (b ≡ true → ⊥) → b ≡ false
is_no true h = absurd (h refl)
is_no false h = refl

pub none_before : (at : ℕ) (xs : List ℕ) → at ≤ length xs → ((k : ℕ) → 0 ≤ k → k < at → nat_eq (slice_index xs k) 10 ≡ true → ⊥) → All (λ b. nat_eq b 10 ≡ false) (take at xs)
none_before at xs h other i d lt =
    let less : i < at = omega (arith, lt, length-take at xs) in
    let same : get_or (take at xs) i d ≡ slice_index xs i = get_or-take at xs i d less ∙ get_or_default xs i d 0 (omega arith) in
    is_no _ (λ e. other i (omega arith) less (ap (λ b. nat_eq b 10) (sym same) ∙ e))

pub is_end : (b : ℕ) → nat_eq b 10 ≡ true → b ≡ 10
is_end b h = grind (arith, nat_tests)

-- ---- counting lines

pub not_open : (xs : List ℕ) → length xs < 1 → is_open xs ≡ false
not_open [] h = refl
not_open (b ∷ xs) h = absurd (omega arith)

pub open_last : (xs : List ℕ) (k : ℕ) → k + 1 ≡ length xs → is_open xs ≡ not (nat_eq (slice_index_or xs k 0) 10)
open_last [] k h = absurd (omega arith)
open_last (b ∷ []) zero h = refl
open_last (b ∷ []) (suc k) h = absurd (omega arith)
open_last (b ∷ c ∷ xs) zero h = absurd (omega arith)
open_last (b ∷ c ∷ xs) (suc k) h = open_last (c ∷ xs) k (omega arith)

none_and : (k : ℕ) → 0 + k ≡ k
none_and k = omega arith

ends_more : (b : ℕ) (xs : List ℕ) → count_by (λ c. nat_eq c 10) (b ∷ xs) ≡ cond (nat_eq b 10) 1 0 + count_by (λ c. nat_eq c 10) xs
ends_more b xs = sum_by-append (λ c. cond (nat_eq c 10) 1 0) (b ∷ []) xs ∙ ap (λ n. n + count_by (λ c. nat_eq c 10) xs) (none_and (cond (nat_eq b 10) 1 0))

one_by : (v : Bool) → cond v 1 0 + cond (not v) 1 0 ≡ 1
one_by true = refl
one_by false = refl

one_line : (b : ℕ) → line_count (b ∷ []) ≡ 1
unfolding line_count
one_line b = omega (arith, ends_more b [], one_by (nat_eq b 10))

a_line : (b : ℕ) (xs : List ℕ) → 0 < line_count (b ∷ xs)
unfolding line_count
a_line b [] = omega (arith, one_line b)
a_line b (c ∷ xs) = omega (arith, ends_more b (c ∷ xs), a_line c xs)

lines_grow : (xs ys : List ℕ) → line_count xs ≤ line_count (xs ++ ys)
unfolding line_count
lines_grow [] ys = omega arith
lines_grow (b ∷ []) [] = omega arith
lines_grow (b ∷ []) (c ∷ ys) = omega (arith, one_line b, a_line b (c ∷ ys))
lines_grow (b ∷ c ∷ xs) ys = omega (arith, ends_more b (c ∷ xs), ends_more b (c ∷ (xs ++ ys)), lines_grow (c ∷ xs) ys)

pub within_nothing : (xs : List ℕ) → xs ≡ [] → IsWithin xs
unfolding line_count
within_nothing [] e = record { small = omega arith; few = omega arith }
within_nothing (b ∷ xs) e = absurd (cc)

pub nothing_ends : (xs : List ℕ) → xs ≡ [] → 0 ≡ count_by (λ b. nat_eq b 10) xs
nothing_ends xs e = ap (count_by (λ b. nat_eq b 10)) (sym e)

pub ends_so_far : (ended more : ℕ) (xs ys zs : List ℕ) → ended ≡ count_by (λ b. nat_eq b 10) xs → more ≡ count_by (λ b. nat_eq b 10) ys → zs ≡ xs ++ ys → ended + more ≡ count_by (λ b. nat_eq b 10) zs
ends_so_far ended more xs ys zs e f is = ap (λ n. n + more) e ∙ ap (λ n. count_by (λ b. nat_eq b 10) xs + n) f ∙ sym (sum_by-append (λ b. cond (nat_eq b 10) 1 0) xs ys) ∙ ap (count_by (λ b. nat_eq b 10)) (sym is)

pub is_within : (xs : List ℕ) (ended : ℕ) → ended ≡ count_by (λ b. nat_eq b 10) xs → length xs ≤ 1073741824 → ended + cond (is_open xs) 1 0 ≤ 1000000 → IsWithin xs
unfolding line_count
is_within xs ended e small few = record { small = small; few = omega (arith, e, few) }

pub too_many : (xs : List ℕ) (ended : ℕ) → ended ≡ count_by (λ b. nat_eq b 10) xs → 1000000 < ended + cond (is_open xs) 1 0 → PassesLimit xs
unfolding line_count
too_many xs ended e many = inr (omega (arith, e, many))

pub ruleset limits = (is_within, too_many, count_by-le-length)

passes_more : (xs ys : List ℕ) → PassesLimit xs → PassesLimit (xs ++ ys)
passes_more xs ys (inl long) = inl (omega (arith, length-append xs ys))
passes_more xs ys (inr many) = inr (omega (arith, lines_grow xs ys))

pub consumed_more : (a b c : Option (List ℕ)) (xs ys zs : List ℕ) → zs ≡ xs ++ ys → Consumes a b xs → Consumes b c ys → Consumes a c zs
consumed_more a b c xs ys zs e p q = subst (Consumes a c) (sym e) (Consumes-trans a b c xs ys p q)

-- what was read passes a limit, so the input does
pub input_passes : (left left' : Option (List ℕ)) (xs : List ℕ) → Consumes left left' xs → PassesLimit xs → IfSome left PassesLimit
input_passes None left' xs h p = tt
input_passes (Some bytes) None xs h p = absurd h
input_passes (Some bytes) (Some rest) xs h p = subst PassesLimit (sym h) (passes_more xs rest p)
