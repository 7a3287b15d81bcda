-- Plain facts about lists: the first place that passes a test, one element changed.
use Rattle.std.proofs.{Common.{inl, inr, ◌≡◌, ℕ, ◌+◌, suc, refl, sym, ◌∙◌, ap, arith, Bool, true, false, not, ◌||◌, cond, ltb, is_some, List, [], ◌∷◌, ◌++◌, length, map, Some, None}, lemmas.Bool.{cases_lt, lt-ltb, le-ltb}}
use Rattle.std.specs.{List.{list_any, position, position_or_len, AllByRecursion}, Iterator.Yields, Vec.Iter.{into_iter_items, into_iter_steps}, declared.vec.IntoIter.IntoIter}

-- maps that agree on each element of a list
pub map_along : {X Y : Type 0} (P : X → Type 0) (f g : X → Y) → ((x : X) → P x → f x ≡ g x) → (xs : List X) → AllByRecursion P xs → map f xs ≡ map g xs
map_along P f g e [] all = refl
map_along P f g e (x ∷ xs) all = let a = e x all.0 in let b = map_along P f g e xs all.1 in cc

pub map_each : {X Y : Type 0} (f g : X → Y) → ((x : X) → f x ≡ g x) → (xs : List X) → map f xs ≡ map g xs
map_each f g e [] = refl
map_each f g e (x ∷ xs) = let a = e x in let b = map_each f g e xs in cc

-- a test of the images is a test of the elements
pub list_any-map : {X Y : Type 0} (p : Y → Bool) (f : X → Y) (xs : List X) → list_any p (map f xs) ≡ list_any (λ x. p (f x)) xs
list_any-map p f [] = refl
list_any-map p f (x ∷ xs) = ap (λ b. p (f x) || b) (list_any-map p f xs)

pub list_any-along : {X : Type 0} (p q : X → Bool) → ((x : X) → p x ≡ q x) → (xs : List X) → list_any p xs ≡ list_any q xs
list_any-along p q e [] = refl
list_any-along p q e (x ∷ xs) = let a = e x in let b = list_any-along p q e xs in cc

ltb-suc : (a b : ℕ) → ltb (1 + a) (suc b) ≡ ltb a b
ltb-suc a b = elim (cases_lt a b) as (λ _. ltb (1 + a) (suc b) ≡ ltb a b) [
  | inl h ↦ lt-ltb (1 + a) (suc b) (omega arith) ∙ sym (lt-ltb a b h)
  | inr h ↦ le-ltb (1 + a) (suc b) (omega arith) ∙ sym (le-ltb a b h)
]

place_within_by : (b : Bool) (n m : ℕ) (more : Bool) → ltb n m ≡ more → ltb (cond (not b) (1 + n) 0) (suc m) ≡ (b || more)
place_within_by true n m more e = lt-ltb 0 (suc m) (omega arith)
place_within_by false n m more e = ltb-suc n m ∙ e

-- the first place that passes is within the list exactly where an element passes
pub place_within : {X : Type 0} (p : X → Bool) (xs : List X) → ltb (position_or_len p xs) (length xs) ≡ list_any p xs
place_within p [] = refl
place_within p (x ∷ xs) = place_within_by (p x) (position_or_len p xs) (length xs) (list_any p xs) (place_within p xs)

is_some-cond : {X : Type 0} (b : Bool) (x : X) → is_some (cond b (Some x) None) ≡ b
is_some-cond true x = refl
is_some-cond false x = refl

pub is_some-position : {X : Type 0} (p : X → Bool) (xs : List X) → is_some (position p xs) ≡ list_any p xs
is_some-position p xs = is_some-cond (ltb (position_or_len p xs) (length xs)) (position_or_len p xs) ∙ place_within p xs

-- no place passes: no element does
pub position-None : {X : Type 0} (p : X → Bool) (xs : List X) → position p xs ≡ None → list_any p xs ≡ false
position-None p xs e = sym (is_some-position p xs) ∙ ap is_some e

-- what the iterator of a vector gave, and what it has left, are the vector's
pub taken_front : {X A : Type 0} (s : IntoIter X A) (xs : List X) (t : IntoIter X A) → Yields into_iter_steps s xs t → into_iter_items s ≡ xs ++ into_iter_items t
taken_front s [] t y = ap into_iter_items y
taken_front s (x ∷ xs) t y = y.1.0 ∙ ap (λ ys. x ∷ ys) (taken_front y.0 xs t y.2)
