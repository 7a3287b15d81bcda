-- Putting an argument among others: at its place in a list of ascending indices, which stays one.
use Rattle.std.proofs.Common.{◌≡◌, ◌≢◌, refl, sym, ap, ℕ, suc, ◌<◌, List, [], ◌∷◌, true, false, nat_lt, nat_le, length, set, get_or, arith}
use Rattle.std.specs.List.{filter, list_all, position_or_len, insert}
use Rattle.std.proofs.lemmas.Bool.Decides.{nat_tests}
use Rattle.rule_match.specs.declared.arguments.Argument.{Argument}
use Rattle.rule_match.specs.Arguments.{is_ascending, put}
use Rattle.rule_match.proofs.Both.{first_true, second_true, both_true}

-- where all indices are above one, none is below it
none_below : (n : ℕ) (args : List Argument) → list_all (λ b. nat_lt n b.index) args ≡ true → filter (λ b. nat_lt b.index n) args ≡ []
none_below n [] h = refl
none_below n (b ∷ rest) h =
    let above : nat_lt n b.index ≡ true = first_true _ _ h in
    let no : nat_lt b.index n ≡ false = grind (arith, nat_tests) in
    rw no (none_below n rest (second_true (nat_lt n b.index) _ h))

all_above : (n : ℕ) (args : List Argument) → list_all (λ b. nat_lt n b.index) args ≡ true → filter (λ b. nat_lt n b.index) args ≡ args
all_above n [] h = refl
all_above n (b ∷ rest) h =
    let above : nat_lt n b.index ≡ true = first_true _ _ h in
    rw above (ap (λ xs. b ∷ xs) (all_above n rest (second_true (nat_lt n b.index) _ h)))

pub above_more : (m n : ℕ) (args : List Argument) → m < n → list_all (λ b. nat_lt n b.index) args ≡ true → list_all (λ b. nat_lt m b.index) args ≡ true
above_more m n [] less h = refl
above_more m n (b ∷ rest) less h =
    let above : nat_lt n b.index ≡ true = first_true _ _ h in
    both_true _ _ (grind (arith, nat_tests)) (above_more m n rest less (second_true (nat_lt n b.index) _ h))

-- ---- by what stands first

pub put_behind : (a b : Argument) (rest : List Argument) → nat_lt b.index a.index ≡ true → put a (b ∷ rest) ≡ b ∷ put a rest
unfolding put
put_behind a b rest h =
    let no : nat_lt a.index b.index ≡ false = grind (arith, nat_tests) in
    rw (h, no)

pub put_instead : (a b : Argument) (rest : List Argument) → is_ascending (b ∷ rest) ≡ true → b.index ≡ a.index → put a (b ∷ rest) ≡ a ∷ rest
unfolding put
put_instead a b rest h same =
    let above : list_all (λ x. nat_lt a.index x.index) rest ≡ true = rw same at (first_true (list_all (λ x. nat_lt b.index x.index) rest) _ h) in
    let no : nat_lt b.index a.index ≡ false = grind (arith, nat_tests) in
    let nor : nat_lt a.index b.index ≡ false = grind (arith, nat_tests) in
    rw (no, nor, none_below a.index rest above, all_above a.index rest above)

pub put_first : (a b : Argument) (rest : List Argument) → is_ascending (b ∷ rest) ≡ true → a.index < b.index → put a (b ∷ rest) ≡ a ∷ b ∷ rest
unfolding put
put_first a b rest h less =
    let above = above_more a.index b.index rest less (first_true (list_all (λ x. nat_lt b.index x.index) rest) _ h) in
    let no : nat_lt b.index a.index ≡ false = grind (arith, nat_tests) in
    let yes : nat_lt a.index b.index ≡ true = grind (arith, nat_tests) in
    rw (no, yes, none_below a.index rest above, all_above a.index rest above)

-- ---- at its place

abbrev place : Argument → List Argument → ℕ
place a args = position_or_len (λ b. nat_le a.index b.index) args

pub put_alone : (a : Argument) → a ∷ [] ≡ put a []
unfolding put
put_alone a = refl

module _ (a : Argument) where
  pub put_same : (args : List Argument) → is_ascending args ≡ true → place a args < length args → (get_or args (place a args) a).index ≡ a.index → set args (place a args) a ≡ put a args
  put_same [] h inside same = absurd (omega arith)
  put_same (b ∷ rest) h inside same =
      elim (nat_le a.index b.index) as (λ v. nat_le a.index b.index ≡ v → set (b ∷ rest) (place a (b ∷ rest)) a ≡ put a (b ∷ rest)) [
        | true ↦ λ e.
            let here : place a (b ∷ rest) ≡ 0 = rw e in
            let is : b.index ≡ a.index = rw here at same in
            rw here (sym (put_instead a b rest h is))
        | false ↦ λ e.
            let behind : place a (b ∷ rest) ≡ suc (place a rest) = rw e (grind arith) in
            let less : nat_lt b.index a.index ≡ true = grind (arith, nat_tests) in
            let more : (get_or rest (place a rest) a).index ≡ a.index = rw behind at same in
            let within : place a rest < length rest = omega (arith, behind) in
            rw (behind, put_behind a b rest less) (ap (λ xs. b ∷ xs) (put_same rest (second_true _ _ h) within more))
      ] refl

  -- the argument at the place, where there is one, has another index
  pub put_new : (args : List Argument) → is_ascending args ≡ true → (place a args < length args → (d : Argument) → (get_or args (place a args) d).index ≢ a.index) → insert args (place a args) a ≡ put a args
  put_new [] h new = put_alone a
  put_new (b ∷ rest) h new =
      elim (nat_le a.index b.index) as (λ v. nat_le a.index b.index ≡ v → insert (b ∷ rest) (place a (b ∷ rest)) a ≡ put a (b ∷ rest)) [
        | true ↦ λ e.
            let here : place a (b ∷ rest) ≡ 0 = rw e in
            let other : b.index ≢ a.index = rw here at (new (rw here (grind arith)) b) in
            let less : a.index < b.index = grind (arith, nat_tests) in
            rw here (sym (put_first a b rest h less))
        | false ↦ λ e.
            let behind : place a (b ∷ rest) ≡ suc (place a rest) = rw e (grind arith) in
            let less : nat_lt b.index a.index ≡ true = grind (arith, nat_tests) in
            rw (behind, put_behind a b rest less) (ap (λ xs. b ∷ xs) (put_new rest (second_true _ _ h) (λ within d. rw behind at (new (rw behind (omega arith)) d))))
      ] refl
