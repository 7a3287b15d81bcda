-- Texts compared by elements, and as argument paths.
use Rattle.std.proofs.Common.{◌≡◌, refl, sym, ◌∙◌, ap, ℕ, ◌-◌, Bool, true, ◌==◌, nat_eq, ◌||◌, ◌⊎◌, inl, inr, List, [], ◌∷◌, ◌++◌, take, drop, length, codes, IsTrue, ◌↔◌, append-nil, arith}
use Rattle.std.specs.List.{ends_with}
use Rattle.std.proofs.lemmas.List.{take-append-drop}
use Rattle.std.proofs.Math.Seq.{drop-append_seam, take-append_seam}
use Rattle.std.proofs.lemmas.Bool.{eqb-true}
use Rattle.std.proofs.lemmas.Bool.Decides.{Decides-eqb}
use Rattle.std.proofs.lemmas.Slice.Eq.{bytes_eq-Decides, starts_is, ends_is}
use Rattle.rule_match.specs.Below.{IsAtOrBelow}
use Rattle.rule_match.specs.PathMatch.{IsSlashPrefix, IsPathMatch}
use Rattle.rule_match.specs.ArgumentTests.{same, begins_with_or_ends, is_at_or_below, is_slash_prefix, is_path_match}
use Rattle.rule_match.proofs.Both.{first_true, second_true, both_true, either_true, or_first, or_second}

pub same_is : (xs ys : List ℕ) → same xs ys ≡ true → xs ≡ ys
same_is xs ys h = (bytes_eq-Decides xs ys).0 h

pub is_same : (xs ys : List ℕ) → xs ≡ ys → same xs ys ≡ true
is_same xs ys e = (bytes_eq-Decides xs ys).1 e

-- what stands behind the prefix
ends_or_goes_on : (separator : ℕ) (prefix text rest : List ℕ) → text ≡ prefix ++ rest → begins_with_or_ends separator rest ≡ true → IsAtOrBelow separator prefix text
ends_or_goes_on separator prefix text [] e h = inl (e ∙ append-nil prefix)
ends_or_goes_on separator prefix text (b ∷ rest) e h =
    let same : b ≡ separator = eqb-true b separator h in
    inr (rest, e ∙ ap (λ x. prefix ++ x ∷ rest) same)

pub below_from_test : (separator : ℕ) (prefix text : List ℕ) → is_at_or_below separator prefix text ≡ true → IsAtOrBelow separator prefix text
below_from_test separator prefix text h =
    let front : take (length prefix) text ≡ prefix = same_is _ _ (first_true _ _ h) in
    ends_or_goes_on separator prefix text (drop (length prefix) text)
    (sym (take-append-drop (length prefix) text) ∙ ap (λ x. x ++ drop (length prefix) text) front)
    (second_true (same (take (length prefix) text) prefix) _ h)

behind : (separator : ℕ) (prefix rest : List ℕ) → begins_with_or_ends separator rest ≡ true → is_at_or_below separator prefix (prefix ++ rest) ≡ true
behind separator prefix rest h =
    both_true _ _ (is_same _ _ (take-append_seam prefix rest)) (ap (begins_with_or_ends separator) (drop-append_seam prefix rest) ∙ h)

same_number : (n : ℕ) → (n == n) ≡ true
same_number n = grind arith

pub test_from_below : (separator : ℕ) (prefix text : List ℕ) → IsAtOrBelow separator prefix text → is_at_or_below separator prefix text ≡ true
test_from_below separator prefix text (inl e) =
    ap (is_at_or_below separator prefix) (e ∙ sym (append-nil prefix)) ∙ behind separator prefix [] refl
test_from_below separator prefix text (inr x) =
    ap (is_at_or_below separator prefix) x.1 ∙ behind separator prefix (separator ∷ x.0) (same_number separator)

pub below_told : (separator : ℕ) (prefix text : List ℕ) (b : Bool) → b ≡ is_at_or_below separator prefix text → IsTrue b ↔ IsAtOrBelow separator prefix text
below_told separator prefix text b e =
    (λ h. below_from_test separator prefix text (sym e ∙ h), λ k. e ∙ test_from_below separator prefix text k)

-- ---- as argument paths

prefix_from_test : (prefix text : List ℕ) → is_slash_prefix prefix text ≡ true → IsSlashPrefix prefix text
prefix_from_test prefix text h = record {
  front = take (length prefix - 1) prefix;
  rest = drop (length prefix) text;
  ends = (ends_is Decides-eqb prefix (codes "/") _ refl).0 (first_true _ _ h);
  begins = (starts_is Decides-eqb text prefix _ refl).0 (second_true (ends_with nat_eq prefix (codes "/")) _ h);
}

test_from_prefix : (prefix text : List ℕ) → IsSlashPrefix prefix text → is_slash_prefix prefix text ≡ true
test_from_prefix prefix text k =
    both_true _ _ ((ends_is Decides-eqb prefix (codes "/") _ refl).1 k.front k.ends) ((starts_is Decides-eqb text prefix _ refl).1 k.rest k.begins)

pub match_from_test : (wanted found : List ℕ) → is_path_match wanted found ≡ true → IsPathMatch wanted found
match_from_test wanted found h =
    elim (either_true (same found wanted) (is_slash_prefix wanted found || is_slash_prefix found wanted) h) [
      | inl e ↦ inl (same_is found wanted e)
      | inr k ↦ inr (by_slash (either_true (is_slash_prefix wanted found) (is_slash_prefix found wanted) k))
    ]
  where
    by_slash : (is_slash_prefix wanted found ≡ true) ⊎ (is_slash_prefix found wanted ≡ true) → IsSlashPrefix wanted found ⊎ IsSlashPrefix found wanted
    by_slash (inl k) = inl (prefix_from_test wanted found k)
    by_slash (inr k) = inr (prefix_from_test found wanted k)

pub test_from_match : (wanted found : List ℕ) → IsPathMatch wanted found → is_path_match wanted found ≡ true
test_from_match wanted found (inl e) = or_first (same found wanted) _ (is_same found wanted e)
test_from_match wanted found (inr (inl k)) =
    or_second (same found wanted) _ (or_first (is_slash_prefix wanted found) (is_slash_prefix found wanted) (test_from_prefix wanted found k))
test_from_match wanted found (inr (inr k)) =
    or_second (same found wanted) _ (or_second (is_slash_prefix wanted found) (is_slash_prefix found wanted) (test_from_prefix found wanted k))
