-- Among numbers that rise the search finds the one place of a number.
use Rattle.std.proofs.{Common.{◌≡◌, ℕ, ◌<◌, ◌≤◌, ◌==◌, inl, inr, refl, ◌∙◌, arith, Bool, List, length, get_or, Some, None, Result, Ok, Err}, lemmas.Bool.{cases_lt, eq-eqb, ne_eqb, lt-ltb, le-ltb}, lemmas.List.Sums.position_or_len_is, lemmas.List.Sorted.searched}
use Rattle.std.specs.{Result.{result_ok, MatchResult}, List.{position, position_or_len}}
use Rattle.peer_calls.specs.Refinement.{Rising}
use Rattle.peer_calls.proofs.Rising.{Rising-at, Rising-le}
use Rattle.peer_core.proofs.route.call_at.Goals as goal

-- where a number stands is the first place that has it
position_at : (xs : List ℕ) (x i : ℕ) → Rising xs → i < length xs → get_or xs i 0 ≡ x → Some i ≡ position (λ place. place == x) xs
position_at xs x i rise lt at =
    let p : ℕ → Bool = λ place. place == x in
    let first : position_or_len p xs ≡ i =
    position_or_len_is p xs i 0 (omega arith) (λ k h. ne_eqb (get_or xs k 0) x (λ e. let less = Rising-at xs k i rise h lt in omega arith)) (λ h. eq-eqb (get_or xs i 0) x at) in
    rw (first, lt-ltb i (length xs) lt) refl

-- one that is missing has none
position_none : (xs : List ℕ) (x i : ℕ) → ((k : ℕ) → k < i → get_or xs k 0 < x) → ((k : ℕ) → i ≤ k → k < length xs → x < get_or xs k 0) → None ≡ position (λ place. place == x) xs
position_none xs x i below above =
    let p : ℕ → Bool = λ place. place == x in
    let all : position_or_len p xs ≡ length xs =
    position_or_len_is p xs (length xs) 0 (omega arith)
    (λ k h. ne_eqb (get_or xs k 0) x (λ e. elim (cases_lt k i) [ inl lt ↦ (let less = below k lt in omega arith) | inr le ↦ (let more = above k le h in omega arith) ]))
    (λ h. absurd (omega arith)) in
    rw (all, le-ltb (length xs) (length xs) (omega arith)) refl

by_search : (xs : List ℕ) (x : ℕ) (r : Result ℕ ℕ) → Rising xs
    → MatchResult r (λ i. (i < length xs) × (get_or xs i 0 ≡ x)) (λ i. (i ≤ length xs) × ((k : ℕ) → k < i → get_or xs k 0 < x) × ((k : ℕ) → i ≤ k → k < length xs → x < get_or xs k 0))
    → result_ok r ≡ position (λ place. place == x) xs
by_search xs x (Ok i) rise m = position_at xs x i rise m.0 m.1
by_search xs x (Err i) rise m = position_none xs x i m.1 m.2

pub returns : goal.returns
returns c rise =
    c.ok.ensures.value
    ∙ by_search c.args.places.now c.args.index c.binary_search.result rise
    (searched c.args.places.now c.args.index c.binary_search.result c.binary_search.ensures.position (Rising-le c.args.places.now rise))
