-- The last element of a path.
use Rattle.std.proofs.Common.{◌≡◌, ◌≢◌, ◌∙◌, ap, ℕ, ◌+◌, ◌-◌, ◌==◌, not, List, length, drop, get_or, true, false, arith, length-drop, get_or-drop}
use Rattle.std.specs.List.{suffix_len}
use Rattle.std.specs.Str.{NoCharPasses}
use Rattle.std.specs.Str.Pattern.{HasCharAt}
use Rattle.std.proofs.lemmas.Bool.Decides.{nat_tests}
use Rattle.std.proofs.lemmas.List.Sums.{suffix_len_is}
use Rattle.std.proofs.lemmas.Str.Pattern.{NoCharPasses-char, drop_at_char}
use Rattle.object_text.specs.Nodes.{last_element}

passes : (b : ℕ) → b ≢ 47 → not (b == 47) ≡ true
passes b h = grind (arith, nat_tests)

stops : (b : ℕ) → b ≡ 47 → not (b == 47) ≡ false
stops b h = grind (arith, nat_tests)

-- a text without `/` is its own last element
pub without_slash : (path : List ℕ) → NoCharPasses (λ d. d == 47) path → path ≡ last_element path
without_slash path h =
    let none = suffix_len_is (λ b. not (b == 47)) path 0 0 (omega arith) (λ k a b. passes (get_or path k 0) (NoCharPasses-char 47 path k h (omega arith) b)) (λ lt. grind arith) in
    let e : 0 ≡ length path - suffix_len (λ b. not (b == 47)) path = omega (arith, none) in
    ap (λ n. drop n path) e

-- what stands behind the last `/`
pub behind_slash : (path element : List ℕ) (i j : ℕ) → NoCharPasses (λ d. d == 47) (drop j path) → HasCharAt 47 path i j → element ≡ drop j path → length element + j ≡ length path → element ≡ last_element path
behind_slash path element i j later at is count =
    let here = drop_at_char 47 path i j at (omega arith) in
    let long = ap length here in
    let next : j ≡ i + 1 = omega (arith, at.ends) in
    let end = suffix_len_is (λ b. not (b == 47)) path j 0 (omega arith)
    (λ k a b. passes (get_or path k 0) (λ e. NoCharPasses-char 47 (drop j path) (k - j) later (omega arith) (omega (arith, length-drop j path)) (get_or-drop j path (k - j) 0 ∙ ap (λ n. get_or path n 0) (let s : j + (k - j) ≡ k = omega arith in s) ∙ e)))
    (λ lt. stops (get_or path (j - 1) 0) (let s : j - 1 ≡ i = omega arith in ap (λ n. get_or path n 0) s ∙ at.byte (omega arith))) in
    let e : j ≡ length path - suffix_len (λ b. not (b == 47)) path = omega (arith, end) in
    is ∙ ap (λ n. drop n path) e
