-- The rule that parts make, as each part is added.
use Rattle.std.proofs.Common.{◌≡◌, refl, sym, ap, ◌∙◌, ℕ, zero, suc, ◌<◌, List, [], ◌∷◌, ◌++◌, append_assoc, append-nil, Bool, true, false, cond, nat_lt, Option, Some, None, Result, Ok, Err, IsTrue, ◌≤◌, subst, arith}
use Rattle.std.specs.Prelude.{◌==◌}
use Rattle.std.specs.List.{filter}
use Rattle.std.proofs.lemmas.Bool.{eqb-true, ltb-true}
use Rattle.std.proofs.lemmas.Bool.Decides.{nat_tests}
use Rattle.wire_message.specs.declared.error.Error.{Error}
use Rattle.rule_match.specs.declared.arguments.Argument.{Argument}
use Rattle.rule_match.specs.declared.part.Part.{Part}
use Rattle.rule_match.specs.declared.part.Part.TheVariants as parts
use Rattle.rule_match.specs.Arguments.{put, argument_at, in_order, is_argument}
use Rattle.rule_match.specs.Rule.{Rule}
use Rattle.rule_match.specs.Building.{with_part, IsPart}
use Rattle.rule_match.specs.Text.{or_else, last_of, text_at, arg_in, arg_path_in, rule_of, made, with_first}
use Rattle.rule_match.proofs.Both.{first_true}

-- ---- the last value

pub or_nothing : {A : Type 0} (x : Option A) → or_else x None ≡ x
or_nothing None = refl
or_nothing (Some x) = refl

pub or_assoc : {A : Type 0} (x y z : Option A) → or_else (or_else x y) z ≡ or_else x (or_else y z)
or_assoc None y z = refl
or_assoc (Some x) y z = refl

pub last_more : {A : Type 0} (value : Part → Option A) (ps : List Part) (p : Part) → last_of value (ps ++ p ∷ []) ≡ or_else (value p) (last_of value ps)
last_more value [] p = sym (or_nothing (value p))
last_more value (q ∷ ps) p = rw (last_more value ps p) (or_assoc (value p) (last_of value ps) (value q))

-- ---- arguments in order

abbrev pub newer : Argument → (ℕ → Option (List ℕ)) → ℕ → Option (List ℕ)
newer a f i = or_else (text_at i a) (f i)

other_index : (a : Argument) (f : ℕ → Option (List ℕ)) (i : ℕ) → (a.index == i) ≡ false → newer a f i ≡ f i
other_index a f i h = rw h

pub same_below : (f g : ℕ → Option (List ℕ)) (n : ℕ) → ((i : ℕ) → i < n → f i ≡ g i) → in_order f n ≡ in_order g n
unfolding in_order
same_below f g zero h = refl
same_below f g (suc n) h = rw (same_below f g n (λ i less. h i (omega arith)), h n (omega arith))

filter_joined : (p : Argument → Bool) (xs ys : List Argument) → filter p (xs ++ ys) ≡ filter p xs ++ filter p ys
filter_joined p [] ys = refl
filter_joined p (x ∷ xs) ys =
    elim (p x) as (λ v. cond v (x ∷ filter p (xs ++ ys)) (filter p (xs ++ ys)) ≡ cond v (x ∷ filter p xs) (filter p xs) ++ filter p ys) [
      | true ↦ ap (λ zs. x ∷ zs) (filter_joined p xs ys)
      | false ↦ filter_joined p xs ys
    ]

put_before : (a : Argument) (xs : List Argument) (m : ℕ) (o : Option (List ℕ)) → a.index < m → put a (xs ++ argument_at m o) ≡ put a xs ++ argument_at m o
unfolding put
put_before a xs m None less = rw (append-nil xs, append-nil (filter (λ b. nat_lt b.index a.index) xs ++ a ∷ filter (λ b. nat_lt a.index b.index) xs))
put_before a xs m (Some text) less =
    let no : nat_lt m a.index ≡ false = grind (arith, nat_tests) in
    let yes : nat_lt a.index m ≡ true = grind (arith, nat_tests) in
    rw (filter_joined (λ b. nat_lt b.index a.index) xs _, filter_joined (λ b. nat_lt a.index b.index) xs _, no, yes, append-nil (filter (λ b. nat_lt b.index a.index) xs))
    (sym (append_assoc (filter (λ b. nat_lt b.index a.index) xs) (a ∷ filter (λ b. nat_lt a.index b.index) xs) _))

below_one : (m n : ℕ) (o : Option (List ℕ)) → n < m → filter (λ b. nat_lt b.index m) (argument_at n o) ≡ argument_at n o
below_one m n None h = refl
below_one m n (Some text) h =
    let yes : nat_lt n m ≡ true = grind (arith, nat_tests) in
    rw yes

above_one : (m n : ℕ) (o : Option (List ℕ)) → n ≤ m → filter (λ b. nat_lt m b.index) (argument_at n o) ≡ []
above_one m n None h = refl
above_one m n (Some text) h =
    let no : nat_lt m n ≡ false = grind (arith, nat_tests) in
    rw no

below_all : (f : ℕ → Option (List ℕ)) (m n : ℕ) → n ≤ m → filter (λ b. nat_lt b.index m) (in_order f n) ≡ in_order f n
unfolding in_order
below_all f m zero h = refl
below_all f m (suc n) h = filter_joined (λ b. nat_lt b.index m) (in_order f n) (argument_at n (f n)) ∙ rw (below_all f m n (omega arith), below_one m n (f n) (omega arith))

above_none : (f : ℕ → Option (List ℕ)) (m n : ℕ) → n ≤ suc m → filter (λ b. nat_lt m b.index) (in_order f n) ≡ []
unfolding in_order
above_none f m zero h = refl
above_none f m (suc n) h = filter_joined (λ b. nat_lt m b.index) (in_order f n) (argument_at n (f n)) ∙ rw (above_none f m n (omega arith), above_one m n (f n) (omega arith))

-- at its own index
put_last : (a : Argument) (xs : List Argument) (o : Option (List ℕ)) → filter (λ b. nat_lt b.index a.index) xs ≡ xs → filter (λ b. nat_lt a.index b.index) xs ≡ [] → put a (xs ++ argument_at a.index o) ≡ xs ++ a ∷ []
unfolding put
put_last a xs None h k = rw (append-nil xs, h, k)
put_last a xs (Some text) h k =
    let no : nat_lt a.index a.index ≡ false = grind (arith, nat_tests) in
    rw (filter_joined (λ b. nat_lt b.index a.index) xs _, filter_joined (λ b. nat_lt a.index b.index) xs _, h, k, no, append-nil xs)

pub in_order_put : (f : ℕ → Option (List ℕ)) (a : Argument) (n : ℕ) → a.index < n → in_order (newer a f) n ≡ put a (in_order f n)
unfolding in_order
in_order_put f a zero h = absurd (omega arith)
in_order_put f a (suc n) h =
    elim (a.index == n) as (λ v. (a.index == n) ≡ v → in_order (newer a f) n ++ argument_at n (newer a f n) ≡ put a (in_order f n ++ argument_at n (f n))) [
      | true ↦ λ e.
          let same : n ≡ a.index = sym (eqb-true a.index n e) in
          let front : in_order (newer a f) n ≡ in_order f n = same_below (newer a f) f n (λ i less. other_index a f i (grind (arith, nat_tests))) in
          rw (e, front)
          (subst (λ i. in_order f n ++ record { index = i; text = a.text } ∷ [] ≡ put a (in_order f n ++ argument_at i (f n))) (sym same)
          (sym (put_last a (in_order f n) (f n) (below_all f a.index n (omega (arith, same))) (above_none f a.index n (omega (arith, same))))))
      | false ↦ λ e.
          let less : a.index < n = grind (arith, nat_tests) in
          rw (other_index a f n e, in_order_put f a n less) (sym (put_before a (in_order f n) n (f n) less))
    ] refl

-- ---- a part more

index_below : (a : Argument) → IsTrue (is_argument a) → a.index < 64
index_below a h = ltb-true a.index 64 (first_true _ _ h)

pub rule_more : (ps : List Part) (p : Part) → IsPart p → rule_of (ps ++ p ∷ []) ≡ with_part p (rule_of ps)
unfolding rule_of with_part
rule_more ps (parts.Kind kind) h = simp last_more
rule_more ps (parts.Sender name) h = simp last_more
rule_more ps (parts.Interface name) h = simp last_more
rule_more ps (parts.Member name) h = simp last_more
rule_more ps (parts.Path path) h = simp last_more
rule_more ps (parts.PathNamespace path) h = simp last_more
rule_more ps (parts.Destination name) h = simp last_more
rule_more ps (parts.Arg a) h =
    simp last_more (ap (λ xs. record (rule_of ps) { args = xs }) (in_order_put (λ i. last_of (arg_in i) ps) a 64 (index_below a h)))
rule_more ps (parts.ArgPath a) h =
    simp last_more (ap (λ xs. record (rule_of ps) { arg_paths = xs }) (in_order_put (λ i. last_of (arg_path_in i) ps) a 64 (index_below a h)))
rule_more ps (parts.Arg0Namespace name) h = simp last_more

-- ---- component by component

-- the rule of parts so far and of those that are still to be read
abbrev pub made_with : List Part → Result (List Part) Error → Result Rule Error
made_with ps (Ok qs) = Ok (rule_of (ps ++ qs))
made_with ps (Err e) = Err e

pub made_first : (ps : List Part) (p : Part) (others : Result (List Part) Error) → made_with ps (with_first p others) ≡ made_with (ps ++ p ∷ []) others
made_first ps p (Ok qs) = ap (λ xs. Ok (rule_of xs)) (sym (append_assoc ps (p ∷ []) qs))
made_first ps p (Err e) = refl

pub made_all : (found : Result (List Part) Error) → made_with [] found ≡ made found
made_all (Ok qs) = refl
made_all (Err e) = refl
