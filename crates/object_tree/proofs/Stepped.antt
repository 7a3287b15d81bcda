-- The paths on the way to a path, met one after another.
use Rattle.std.proofs.Common.{◌≡◌, refl, sym, ◌∙◌, ap, ap₂, subst, ℕ, zero, suc, ◌+◌, ◌-◌, ◌≤◌, ◌<◌, List, [], ◌∷◌, ◌++◌, length, take, get_or, Bool, true, false, cond, not, ◌&&◌, arith, filter, IsTrue, length-take-le}
use Rattle.std.proofs.lemmas.Bool.{both_ways, and_parts, or_right, or_left}
use Rattle.std.proofs.lemmas.Bool.Decides.{nat_tests}
use Rattle.std.proofs.lemmas.Slice.Eq.{bytes_eq-Decides}
use Rattle.wire_names.specs.Names.{is_object_path}
use Rattle.object_tree.specs.Objects.{Objects, IsObject, is_same, is_below, root}
use Rattle.object_tree.specs.Closed.{rising, is_new_way, bare_at}
use Rattle.object_tree.proofs.Below.{is_below-Decides, is_root_or_other, below_slash}
use Rattle.object_tree.proofs.Entries.{at_swap}
use Rattle.object_tree.proofs.Closed.{is_upto, at_same, last_one}
use Rattle.object_tree.proofs.Valid.{front_valid, root_valid}
use Rattle.object_tree.proofs.Ways.{same_below, front_true, front_false}

none_pass : (f : List ℕ → Bool) (q : List ℕ) (n : ℕ) → ((k : ℕ) → 1 ≤ k → k ≤ n → f (take k q) ≡ false) → filter f (rising n q) ≡ []
none_pass f q zero h = refl
none_pass f q (suc n) h =
    last_one f q n ∙ ap₂ (λ (xs : List (List ℕ)) (b : Bool). xs ++ cond b (take (suc n) q ∷ []) []) (none_pass f q n (λ k one most. h k one (omega arith))) (h (suc n) (omega arith) (omega arith))

append_nil : (xs : Objects) → xs ++ [] ≡ xs
append_nil [] = refl
append_nil (x ∷ xs) = ap (λ r. x ∷ r) (append_nil xs)

bare_append : (xs ys : List (List ℕ)) → bare_at (xs ++ ys) ≡ bare_at xs ++ bare_at ys
bare_append [] ys = refl
bare_append (x ∷ xs) ys = ap (λ r. (x, []) ∷ r) (bare_append xs ys)

assoc : (xs ys zs : Objects) → (xs ++ ys) ++ zs ≡ xs ++ (ys ++ zs)
assoc [] ys zs = refl
assoc (x ∷ xs) ys zs = ap (λ r. x ∷ r) (assoc xs ys zs)

root_upto : (last : List ℕ) → IsTrue (is_object_path last) → is_upto root last ≡ true
unfolding is_object_path
root_upto [] h = grind arith
root_upto (b ∷ []) h = or_left (is_same root (b ∷ [])) (is_below root (b ∷ [])) ((bytes_eq-Decides root (b ∷ [])).1 (ap (λ x. x ∷ []) (let e : b ≡ 47 = grind (arith, nat_tests) in sym e)))
root_upto (b ∷ c ∷ rest) h = or_right (is_same root (b ∷ c ∷ rest)) (is_below root (b ∷ c ∷ rest)) ((is_below-Decides root (b ∷ c ∷ rest)).1 ((λ e. let l = ap length e in omega arith), ap (λ x. x ∷ []) (let e : b ≡ 47 = grind (arith, nat_tests) in e)))

module _ (last path : List ℕ) where
  abbrev pub new : List ℕ → Bool
  new = is_new_way last path

  -- the objects on the way so far
  abbrev pub ways_to : ℕ → Objects
  ways_to at = bare_at (filter new (rising (at - 1) path))

  pub skipped : (items : Objects) (n : ℕ) → take n last ≡ take n path → n ≤ length last → n ≤ length path → items ≡ items ++ ways_to n
  skipped items n same a b =
      sym (ap (λ l. items ++ bare_at l) (none_pass new path (n - 1) (λ k one most. no k one (omega arith))) ∙ append_nil items)
    where
      no : (k : ℕ) → 1 ≤ k → k < n → new (take k path) ≡ false
      no k one less = by (is_below (take k path) path) refl
        where
          count : length (take k path) ≡ k
          count = length-take-le k path (omega arith)

          alike : is_below (take k path) path ≡ is_below (take k path) last
          alike = same_below (take k path) path n (omega (arith, count)) b ∙ ap (is_below (take k path)) (sym same) ∙ sym (same_below (take k path) last n (omega (arith, count)) a)

          by : (c : Bool) → is_below (take k path) path ≡ c → (c && not (is_upto (take k path) last)) ≡ false
          by true e = ap not (or_right (is_same (take k path) last) (is_below (take k path) last) (sym alike ∙ e))
          by false e = refl

  one_more : (n : ℕ) → 1 ≤ n → filter new (rising n path) ≡ filter new (rising (n - 1) path) ++ cond (new (take n path)) (take n path ∷ []) []
  one_more zero one = grind arith
  one_more (suc n) one = let e : n ≡ suc n - 1 = omega arith in last_one new path n ∙ ap (λ m. filter new (rising m path) ++ cond (new (take (suc n) path)) (take (suc n) path ∷ []) []) e

  step_by : (items now : Objects) (n : ℕ) (b : Bool) → 1 ≤ n → now ≡ items ++ ways_to n → new (take n path) ≡ b → now ++ bare_at (cond b (take n path ∷ []) []) ≡ items ++ ways_to (n + 1)
  step_by items now n b one is pass =
      let e : n ≡ n + 1 - 1 = omega arith in
      ap (λ x. x ++ bare_at (cond b (take n path ∷ []) [])) is
      ∙ assoc items (ways_to n) (bare_at (cond b (take n path ∷ []) []))
      ∙ ap (λ r. items ++ r) (sym (bare_append (filter new (rising (n - 1) path)) (cond b (take n path ∷ []) []))
      ∙ ap bare_at (sym (one_more n one ∙ ap (λ c. filter new (rising (n - 1) path) ++ cond c (take n path ∷ []) []) pass)))
      ∙ ap (λ m. items ++ bare_at (filter new (rising m path))) e

  -- a front that isn't on the way, or is on the way to `last`
  pub passed_zero : (items now : Objects) (n : ℕ) → n ≡ 0 → now ≡ items ++ ways_to n → now ≡ items ++ ways_to (n + 1)
  passed_zero items now n zero_is is = is ∙ ap (λ m. items ++ bare_at (filter new (rising m path))) (let e : n - 1 ≡ n + 1 - 1 = omega (arith, zero_is) in e)

  pub passed_over : (items now : Objects) (n : ℕ) → 1 ≤ n → now ≡ items ++ ways_to n → new (take n path) ≡ false → now ≡ items ++ ways_to (n + 1)
  passed_over items now n one is miss = sym (append_nil now) ∙ step_by items now n false one is miss

  pub pushed : (items now : Objects) (n : ℕ) → 1 ≤ n → now ≡ items ++ ways_to n → new (take n path) ≡ true → now ++ (take n path, []) ∷ [] ≡ items ++ ways_to (n + 1)
  pushed items now n one is hit = step_by items now n true one is hit

  pub no_slash : (n : ℕ) → IsTrue (is_object_path last) → n < length path → (get_or path n 0 ≡ 47 → ⊥) → new (take n path) ≡ false
  no_slash n valid less ne = by (is_same (take n path) root) refl
    where
      out : (a b : Bool) → b ≡ true → (a && not b) ≡ false
      out true b e = ap not e
      out false b e = refl

      by : (b : Bool) → is_same (take n path) root ≡ b → new (take n path) ≡ false
      by true e = let same = (bytes_eq-Decides (take n path) root).0 e in out (is_below (take n path) path) (is_upto (take n path) last) (subst (λ (x : List ℕ). is_upto x last ≡ true) (sym same) (root_upto last valid))
      by false e = ap (λ b. b && not (is_upto (take n path) last)) (front_false path n less (λ s. both_ways (is_same (take n path) root) e ((bytes_eq-Decides (take n path) root).1 s)) ne)

  pub slash : (n : ℕ) → 1 ≤ n → n < length path → get_or path n 0 ≡ 47 → new (take n path) ≡ not (is_upto (take n path) last)
  slash n one less e = ap (λ b. b && not (is_upto (take n path) last)) (front_true path n one less e)

  pub bare_object : (n : ℕ) → IsTrue (is_object_path path) → 1 ≤ n → n < length path → get_or path n 0 ≡ 47 → IsObject (take n path, [])
  bare_object n valid one less e = record { path = front_valid path n valid one less e; names = tt }

  pub new_object : (n : ℕ) → IsTrue (is_object_path path) → 1 ≤ n → n < length path → new (take n path) ≡ true → IsObject (take n path, [])
  new_object n valid one less pass =
      let under = (and_parts (is_below (take n path) path) (not (is_upto (take n path) last)) pass).0 in
      let count = length-take-le n path (omega arith) in
      record {
        path = is_root_or_other (take n path)
            (λ e. subst (λ (x : List ℕ). IsTrue (is_object_path x)) (sym e) root_valid)
            (λ ne. front_valid path n valid one less (subst (λ i. get_or path i 0 ≡ 47) count (below_slash (take n path) path ne under)));
        names = tt;
      }

pub swap_same : (a b : List ℕ) → is_same a b ≡ is_same b a
swap_same a b = sym (at_same a b) ∙ at_swap a b ∙ at_same b a
