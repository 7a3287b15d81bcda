-- Numbers that rise.
use Rattle.std.proofs.{Common.{inl, inr, get_or, ℕ, ◌<◌, ◌≤◌, zero, suc, ap, arith, List, [], ◌∷◌, ◌++◌, length}, lemmas.Bool.{cases_order}}
use Rattle.std.specs.{List.{AllByRecursion}}
use Rattle.peer_calls.specs.Refinement.{Rising}
use Rattle.wire_message.proofs.Edits.{all_push, all_weaker}

abbrev pub Below : ℕ → List ℕ → Type 0
Below n xs = AllByRecursion (λ (x : ℕ). x < n) xs

abbrev pub After : ℕ → List ℕ → Type 0
After n xs = AllByRecursion (λ (x : ℕ). n < x) xs

pub Below-more : (n m : ℕ) (xs : List ℕ) → n ≤ m → Below n xs → Below m xs
Below-more n m xs le = all_weaker (λ x. x < n) (λ x. x < m) (λ x h. omega arith) xs

pub Rising-push : (n : ℕ) (xs : List ℕ) → Below n xs → Rising xs → Rising (xs ++ n ∷ [])
Rising-push n [] b r = (tt, tt)
Rising-push n (x ∷ xs) b r = (all_push (λ y. x < y) xs n b.0 r.0, Rising-push n xs b.1 r.1)

-- what stands further on is greater
pub After-at : (n : ℕ) (xs : List ℕ) (k : ℕ) → k < length xs → After n xs → n < get_or xs k 0
After-at n [] k lt a = absurd (omega arith)
After-at n (x ∷ xs) zero lt a = a.0
After-at n (x ∷ xs) (suc k) lt a = After-at n xs k (omega arith) a.1

pub Rising-at : (xs : List ℕ) (i j : ℕ) → Rising xs → i < j → j < length xs → get_or xs i 0 < get_or xs j 0
Rising-at [] i j r lt within = absurd (omega arith)
Rising-at (x ∷ xs) i zero r lt within = absurd (omega arith)
Rising-at (x ∷ xs) zero (suc j) r lt within = After-at x xs j (omega arith) r.0
Rising-at (x ∷ xs) (suc i) (suc j) r lt within = Rising-at xs i j r.1 (omega arith) (omega arith)

pub Rising-le : (xs : List ℕ) → Rising xs → (i j : ℕ) → i ≤ j → j < length xs → get_or xs i 0 ≤ get_or xs j 0
Rising-le xs r i j le within = elim (cases_order i j) [
  | inl e ↦ omega (arith, ap (λ k. get_or xs k 0) e)
  | inr o ↦ elim o [
    | inl lt ↦ (let h = Rising-at xs i j r lt within in omega arith)
    | inr gt ↦ absurd (omega arith)
  ]
]
