-- What stands between quotes.
use Rattle.std.proofs.Common.{◌≡◌, refl, ap, ◌∙◌, ℕ, suc, ◌+◌, ◌-◌, List, [], ◌∷◌, ◌++◌, length, take, drop, Bool, true, false, ◌&&◌, nat_eq, cond, Option, Some, None, subst, arith}
use Rattle.std.specs.Prelude.{◌==◌, option_map}
use Rattle.std.specs.Cmp.Lexicographic.{pointwise}
use Rattle.std.specs.Option.{MatchOption}
use Rattle.std.specs.Borrow.{Bor}
use Rattle.std.proofs.lemmas.Bool.{eqb-true}
use Rattle.rule_match.proofs.Both.{first_true}
use Rattle.rule_match.specs.Text.{before_quote}

pub before_quote_of : (xs : List ℕ) → before_quote (xs ++ 39 ∷ []) ≡ Some xs
before_quote_of [] = refl
before_quote_of (x ∷ []) = refl
before_quote_of (x ∷ y ∷ xs) = rw (before_quote_of (y ∷ xs))

before_onto : (b : ℕ) (rest xs : List ℕ) (o : Option (List ℕ)) → ((ys : List ℕ) → o ≡ Some ys → rest ≡ ys ++ 39 ∷ []) → option_map (λ bs. b ∷ bs) o ≡ Some xs → b ∷ rest ≡ xs ++ 39 ∷ []
before_onto b rest xs None known h = cc
before_onto b rest xs (Some ys) known h =
    let same : b ∷ ys ≡ xs = cc in
    subst (λ zs. b ∷ rest ≡ zs ++ 39 ∷ []) same (ap (λ zs. b ∷ zs) (known ys refl))

before_end : (b : ℕ) (xs : List ℕ) (v : Bool) → (b == 39) ≡ v → cond v (Some []) None ≡ Some xs → b ∷ [] ≡ xs ++ 39 ∷ []
before_end b xs true e h =
    let same : b ≡ 39 = eqb-true b 39 e in
    let none : [] ≡ xs = cc in
    rw (same, ← none)
before_end b xs false e h = cc

-- what is found stands in front of a quote at the end
pub before_quote_is : (bs xs : List ℕ) → before_quote bs ≡ Some xs → bs ≡ xs ++ 39 ∷ []
before_quote_is [] xs h = cc
before_quote_is (b ∷ []) xs h = before_end b xs (b == 39) refl h
before_quote_is (b ∷ c ∷ rest) xs h = before_onto b (c ∷ rest) xs (before_quote (c ∷ rest)) (λ ys e. before_quote_is (c ∷ rest) ys e) h

-- ---- stripped of a last quote

abbrev ends_in_quote : List ℕ → Bool
ends_in_quote bs = pointwise nat_eq (drop (length bs - 1) bs) (39 ∷ [])

quote_found : (bs : List ℕ) → ends_in_quote bs ≡ true → Some (take (length bs - 1) bs) ≡ before_quote bs
quote_found [] h = cc
quote_found (b ∷ []) h = let e : (b == 39) ≡ true = first_true (b == 39) _ h in rw e refl
quote_found (b ∷ c ∷ rest) h =
    let e : length (b ∷ c ∷ rest) - 1 ≡ suc (length (c ∷ rest) - 1) = omega arith in
    let k : ends_in_quote (c ∷ rest) ≡ true = subst (λ n. pointwise nat_eq (drop n (b ∷ c ∷ rest)) (39 ∷ []) ≡ true) e h in
    ap (λ n. Some (take n (b ∷ c ∷ rest))) e ∙ ap (option_map (λ bs. b ∷ bs)) (quote_found (c ∷ rest) k)

alone : (a : Bool) → (a && true) ≡ false → a ≡ false
alone true h = h
alone false h = h

quote_missing : (bs : List ℕ) → ends_in_quote bs ≡ false → None ≡ before_quote bs
quote_missing [] h = refl
quote_missing (b ∷ []) h = let e : (b == 39) ≡ false = alone (b == 39) h in rw e refl
quote_missing (b ∷ c ∷ rest) h =
    let e : length (b ∷ c ∷ rest) - 1 ≡ suc (length (c ∷ rest) - 1) = omega arith in
    let k : ends_in_quote (c ∷ rest) ≡ false = subst (λ n. pointwise nat_eq (drop n (b ∷ c ∷ rest)) (39 ∷ []) ≡ false) e h in
    ap (option_map (λ bs. b ∷ bs)) (quote_missing (c ∷ rest) k)

pub quote_stripped : (bs : List ℕ) (r : Option (Bor (List ℕ)))
    → MatchOption r (pointwise nat_eq (drop (length bs - 1) bs) (39 ∷ []) ≡ false) (λ x. (pointwise nat_eq (drop (length bs - 1) bs) (39 ∷ []) ≡ true) × (x.now ≡ take (length bs - 1) bs) × (length x.now + 1 ≡ length bs))
    → option_map (λ x. x.now) r ≡ before_quote bs
quote_stripped bs None h = quote_missing bs h
quote_stripped bs (Some x) h = ap Some h.1 ∙ quote_found bs h.0
