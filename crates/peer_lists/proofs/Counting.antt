-- How many values of a map pass a test, as one of its entries changes.
use Rattle.std.proofs.{Common.{◌≡◌, ℕ, suc, ◌+◌, ◌<◌, ◌≤◌, inl, inr, refl, sym, ◌∙◌, ap, arith, Bool, true, false, cond, List, [], ◌∷◌, get_or, Some, None, option_map, unwrap_or}, lemmas.Bool.{cond-false, cases_Bool, ne_eqb}, lemmas.List.Elements.{All-head, All-tail}, lemmas.List.Sums.{sum_by-cons, get_or-le-sum_by, sum_by-remove, sum_by-le-sum_by}, lemmas.Option.none-some, lemmas.Map.Entries.{lookup_head, lookup_tail, sum_by-set_value, sum_by-insert_entry, sum_by-remove_entry}}
use Rattle.std.specs.{List.{sum_by, count_by, remove, All, Contains}, List.Sorted.IsStrictlySortedBy, Ordering.{nat_cmp}, Cmp.{nat_cmp_total, unsigned_tied}, BTreeMap.{is_at, insert_entry}, Map.{lookup, keys_of, values_of, set_value, remove_entry}}

-- what one value adds to the count
abbrev pub weight : {V : Type 0} → (V → Bool) → V → ℕ
weight p v = cond (p v) 1 0

pub weight_yes : {V : Type 0} (p : V → Bool) (v : V) → p v ≡ true → weight p v ≡ 1
weight_yes p v e = rw e refl

pub weight_no : {V : Type 0} (p : V → Bool) (v : V) → p v ≡ false → weight p v ≡ 0
weight_no p v e = rw e refl

-- a value that is written in the place of another
pub count_set : {V : Type 0} (p : V → Bool) (k : ℕ) (l : List (ℕ × V)) (v w : V) → lookup (is_at (nat_cmp k)) l ≡ Some v → count_by p (values_of (set_value (is_at (nat_cmp k)) l w)) + weight p v ≡ count_by p (values_of l) + weight p w
count_set p k l v w e = sum_by-set_value (weight p) (is_at (nat_cmp k)) l v w e

-- a new entry
pub count_insert : {V : Type 0} (p : V → Bool) (k : ℕ) (l : List (ℕ × V)) (v : V) → lookup (is_at (nat_cmp k)) l ≡ None → IsStrictlySortedBy nat_cmp (keys_of l) → count_by p (values_of (insert_entry nat_cmp l k v)) ≡ count_by p (values_of l) + weight p v
count_insert p k l v none sorted =
    let none_so : unwrap_or (option_map (weight p) (lookup (is_at (nat_cmp k)) l)) 0 ≡ 0 = rw none refl in
    omega (arith, none_so, sum_by-insert_entry (weight p) nat_cmp_total l k v sorted)

-- an entry that is taken out
pub count_remove : {V : Type 0} (p : V → Bool) (k : ℕ) (l : List (ℕ × V)) (v : V) → lookup (is_at (nat_cmp k)) l ≡ Some v → count_by p (values_of (remove_entry (is_at (nat_cmp k)) l)) + weight p v ≡ count_by p (values_of l)
count_remove p k l v e =
    let some : unwrap_or (option_map (weight p) (lookup (is_at (nat_cmp k)) l)) 0 ≡ weight p v = rw e refl in
    omega (arith, some, sum_by-remove_entry (weight p) (is_at (nat_cmp k)) l)

-- what passes is counted
pub count_found : {V : Type 0} (p : V → Bool) (k : ℕ) (l : List (ℕ × V)) (v : V) → lookup (is_at (nat_cmp k)) l ≡ Some v → p v ≡ true → 0 < count_by p (values_of l)
count_found p k l v e passes = omega (arith, count_remove p k l v e, weight_yes p v passes)

-- none passes of which none is counted
pub none_counted : {V : Type 0} (p : V → Bool) (xs : List V) → count_by p xs ≡ 0 → All (λ x. p x ≡ false) xs
none_counted p xs zero_count i d lt = elim (cases_Bool (p (get_or xs i d))) [
  | inl passes ↦ absurd (omega (arith, zero_count, get_or-le-sum_by (weight p) xs i d lt, weight_yes p (get_or xs i d) passes))
  | inr fails ↦ fails
]

-- tests that agree count the same
pub same_counted : {V : Type 0} (p q : V → Bool) (xs : List V) → All (λ x. p x ≡ q x) xs → count_by p xs ≡ count_by q xs
same_counted p q [] a = refl
same_counted p q (x ∷ xs) a =
    let one : weight p x ≡ weight q x = ap (λ b. cond b 1 0) (All-head (λ x. p x ≡ q x) x xs a) in
    omega (arith, one, sum_by-cons (weight p) x xs, sum_by-cons (weight q) x xs, same_counted p q xs (All-tail (λ x. p x ≡ q x) x xs a))

pub weight_le : {V : Type 0} (p q : V → Bool) (x : V) → (p x ≡ true → q x ≡ true) → weight p x ≤ weight q x
weight_le p q x f = elim (cases_Bool (p x)) [
  | inl passes ↦ omega (arith, weight_yes p x passes, weight_yes q x (f passes))
  | inr fails ↦ omega (arith, weight_no p x fails)
]

-- where no fewer pass the stronger test, all that pass the weaker do
pub all_counted : {V : Type 0} (p q : V → Bool) (xs : List V) → ((x : V) → p x ≡ true → q x ≡ true) → count_by p xs ≡ count_by q xs → All (λ x. p x ≡ q x) xs
all_counted p q xs f same i d lt =
    let x = get_or xs i d in
    let le : sum_by (weight p) (remove xs i) ≤ sum_by (weight q) (remove xs i) = sum_by-le-sum_by (weight p) (weight q) (remove xs i) (λ y. weight_le p q y (f y)) in
    elim (cases_Bool (p x)) [
      | inl passes ↦ passes ∙ sym (f x passes)
      | inr fails ↦ fails ∙ (elim (cases_Bool (q x)) [
        | inl other ↦ absurd (omega (arith, same, le, sum_by-remove (weight p) xs i d lt, sum_by-remove (weight q) xs i d lt, weight_no p x fails, weight_yes q x other))
        | inr none ↦ sym none
      ])
    ]

-- where some are counted one passes
pub counted_entry : {V : Type 0} (p : V → Bool) (l : List (ℕ × V)) → 0 < count_by p (values_of l) → (k : ℕ) × (v : V) × Contains l (k, v) × (p v ≡ true)
counted_entry p [] lt = absurd (omega arith)
counted_entry p (e ∷ es) lt = elim (cases_Bool (p e.1)) [
  | inl passes ↦ (e.0, e.1, (0, omega arith, refl), passes)
  | inr fails ↦
      let rest = counted_entry p es (omega (arith, lt, sum_by-cons (weight p) e.1 (values_of es), weight_no p e.1 fails)) in (
        rest.0,
        rest.1,
        (suc rest.2.0, omega (arith, rest.2.1), rest.2.2),
        rest.3,
      )
]

-- keys that differ
pub apart : (s q : ℕ) → (s ≡ q → ⊥) → is_at (nat_cmp s) q ≡ false
apart s q ne = unsigned_tied s q ∙ ne_eqb s q ne

-- a value is written only where the key is there
pub set_value_none : {V : Type 0} (test : ℕ → Bool) (l : List (ℕ × V)) (w : V) → lookup test l ≡ None → set_value test l w ≡ l
set_value_none test [] w none = refl
set_value_none test (e ∷ es) w none = elim (cases_Bool (test e.0)) [
  | inl here ↦ absurd (none-some e.1 (sym none ∙ lookup_head test e es here))
  | inr other ↦ cond-false (test e.0) ((e.0, w) ∷ es) (e ∷ set_value test es w) other ∙ ap (λ l. e ∷ l) (set_value_none test es w (sym (lookup_tail test e es other) ∙ none))
]
