-- The paths on the way to a path, the longest first: the parent, and those on the way to it.
use Rattle.std.proofs.Common.{◌≡◌, refl, sym, ◌∙◌, ap, subst, ℕ, zero, suc, ◌-◌, ◌≤◌, ◌<◌, List, [], ◌∷◌, length, take, get_or, Bool, true, false, cond, arith, filter, ⊎_elim, length-append, length-take-le, take-take, get_or-take, not-suc-le-zero}
use Rattle.std.proofs.lemmas.Bool.{cond-true, cond-false, cases_order}
use Rattle.std.proofs.lemmas.Bool.Decides.{same_from_decides}
use Rattle.object_tree.specs.Objects.{root, is_below, front_of, fronts, ancestors}
use Rattle.object_tree.proofs.Below.{is_below-Decides, not_slash, joined, front_other, is_root_or_other}

-- fronts that aren't on the way are passed over
pass_over : (f : List ℕ → Bool) (text : List ℕ) (k n : ℕ) → ((j : ℕ) → k < j → j ≤ n → f (take j text) ≡ false) → k ≤ n → filter f (fronts n text) ≡ filter f (fronts k text)
pass_over f text k zero none most = let e : 0 ≡ k = omega arith in ap (λ m. filter f (fronts m text)) e
pass_over f text k (suc n) none most = ⊎_elim
    (λ (e : k ≡ suc n). ap (λ m. filter f (fronts m text)) (sym e))
    (λ o. ⊎_elim
    (λ (l : k < suc n). cond-false (f (take (suc n) text)) (take (suc n) text ∷ filter f (fronts n text)) (filter f (fronts n text)) (none (suc n) l (omega arith)) ∙ pass_over f text k n (λ j a b. none j a (omega arith)) (omega arith))
    (λ (l : suc n < k). let e : suc n ≡ k = omega arith in ap (λ m. filter f (fronts m text)) e) o)
    (cases_order k (suc n))

-- the same fronts of a text and of a front of it
same_fronts : (f g : List ℕ → Bool) (text : List ℕ) (k n : ℕ) → n ≤ k → ((j : ℕ) → 1 ≤ j → j ≤ n → f (take j text) ≡ g (take j text)) → filter f (fronts n text) ≡ filter g (fronts n (take k text))
same_fronts f g text k zero most h = refl
same_fronts f g text k (suc n) most h =
    let later = same_fronts f g text k n (omega arith) (λ j a b. h j a (omega arith)) in
    let same = take-take (suc n) k text most in
    ap (λ b. cond b (take (suc n) text ∷ filter f (fronts n text)) (filter f (fronts n text))) (h (suc n) (omega arith) (omega arith))
    ∙ ap (λ r. cond (g (take (suc n) text)) (take (suc n) text ∷ r) r) later
    ∙ ap (λ x. cond (g x) (x ∷ filter g (fronts n (take k text))) (filter g (fronts n (take k text)))) (sym same)

-- a front before which no `/` stands isn't on the way, but for the root
pub front_false : (path : List ℕ) (j : ℕ) → j < length path → (take j path ≡ root → ⊥) → (get_or path j 0 ≡ 47 → ⊥) → is_below (take j path) path ≡ false
front_false path j short ne no_slash = sym (not_slash (take j path) path ne (λ h. no_slash (subst (λ i. get_or path i 0 ≡ 47) (length-take-le j path (omega arith)) h)))

not_root : (path : List ℕ) (j : ℕ) → 2 ≤ j → j < length path → take j path ≡ root → ⊥
not_root path j two short e = let l = ap length e in omega (arith, length-take-le j path (omega arith))

root_true : (path : List ℕ) → 1 < length path → take 1 path ≡ root → is_below root path ≡ true
root_true path long h = (is_below-Decides root path).1 ((λ e. let l = ap length e in omega arith), h)

pub front_true : (path : List ℕ) (j : ℕ) → 1 ≤ j → j < length path → get_or path j 0 ≡ 47 → is_below (take j path) path ≡ true
front_true path j one short slash =
    let count = length-take-le j path (omega arith) in
    is_root_or_other (take j path)
    (λ e. subst (λ (p : List ℕ). is_below p path ≡ true) (sym e) (root_true path (omega arith) (let l = ap length e in let one : j ≡ 1 = omega arith in subst (λ i. take i path ≡ root) one e)))
    (λ ne. (is_below-Decides (take j path) path).1 (
      (λ e. let l = ap length e in omega arith),
      subst (λ (f : List ℕ). take (length f) path ≡ f) (sym (front_other (take j path) ne))
          (joined (take j path) path (omega arith) (subst (λ i. get_or path i 0 ≡ 47) (sym count) slash) (ap (λ i. take i path) count)),
    ))

-- what is on the way to a front of a path is on the way to the path
pub same_below : (a path : List ℕ) (k : ℕ) → length a < k → k ≤ length path → is_below a path ≡ is_below a (take k path)
same_below a path k short most =
    let count = length-take-le k path most in
    let most_of : length (front_of a) ≤ k = is_root_or_other a
    (λ e. subst (λ (p : List ℕ). length (front_of p) ≤ k) (sym e) (omega arith))
    (λ ne. subst (λ (f : List ℕ). length f ≤ k) (sym (front_other a ne)) (omega (arith, length-append a root))) in
    let same = take-take (length (front_of a)) k path most_of in
    same_from_decides (is_below a path) (is_below a (take k path)) (is_below-Decides a path) (
      (λ h. let b = (is_below-Decides a (take k path)).0 h in ((λ e. let l = ap length e in omega arith), sym same ∙ b.1)),
      (λ b. (is_below-Decides a (take k path)).1 ((λ e. let l = ap length e in omega arith), same ∙ b.1)),
    )

pub way_up : (path : List ℕ) (k : ℕ) → 1 ≤ k → k < length path → get_or path k 0 ≡ 47 → ((i : ℕ) → k < i → i < length path → get_or path i 0 ≡ 47 → ⊥) → ancestors path ≡ take k path ∷ ancestors (take k path)
way_up path zero one short slash none = absurd (not-suc-le-zero one)
way_up path (suc k) one short slash none =
    pass_over (λ front. is_below front path) path (suc k) (length path - 1) (λ j a b. front_false path j (omega arith) (not_root path j (omega arith) (omega arith)) (none j a (omega arith))) (omega arith)
    ∙ cond-true (is_below (take (suc k) path) path) (take (suc k) path ∷ filter (λ front. is_below front path) (fronts k path)) (filter (λ front. is_below front path) (fronts k path)) (front_true path (suc k) one short slash)
    ∙ ap (λ r. take (suc k) path ∷ r)
    (same_fronts (λ front. is_below front path) (λ front. is_below front (take (suc k) path)) path (suc k) k (omega arith)
    (λ j a b. same_below (take j path) path (suc k) (omega (arith, length-take-le j path (omega arith))) (omega arith))
    ∙ (let e : k ≡ length (take (suc k) path) - 1 = omega (arith, length-take-le (suc k) path (omega arith)) in ap (λ m. filter (λ front. is_below front (take (suc k) path)) (fronts m (take (suc k) path))) e))

pub way_root : (path : List ℕ) → 1 < length path → get_or path 0 0 ≡ 47 → ((i : ℕ) → 0 < i → i < length path → get_or path i 0 ≡ 47 → ⊥) → (ancestors path ≡ root ∷ []) × (root ≡ take 1 path)
way_root path long slash none =
    let begins = first_byte path (omega arith) slash in (
      pass_over (λ front. is_below front path) path 1 (length path - 1) (λ j a b. front_false path j (omega arith) (not_root path j a (omega arith)) (none j (omega arith) (omega arith))) (omega arith)
          ∙ cond-true (is_below (take 1 path) path) (take 1 path ∷ []) [] (subst (λ (p : List ℕ). is_below p path ≡ true) (sym begins) (root_true path long begins))
          ∙ ap (λ p. p ∷ []) begins,
      sym begins,
    )
  where
    first_byte : (p : List ℕ) → 0 < length p → get_or p 0 0 ≡ 47 → take 1 p ≡ root
    first_byte [] l h = grind arith
    first_byte (c ∷ cs) l h = ap (λ x. x ∷ []) h

pub way_none : (path : List ℕ) → length path ≤ 1 → ancestors path ≡ []
way_none path short = let e : length path - 1 ≡ 0 = omega arith in ap (λ m. filter (λ front. is_below front path) (fronts m path)) e

pub way_bare : (path : List ℕ) → ((i : ℕ) → i < length path → get_or path i 0 ≡ 47 → ⊥) → ancestors path ≡ []
way_bare path none =
    pass_over (λ front. is_below front path) path 0 (length path - 1)
    (λ j a b. front_false path j (omega arith) (λ e. none 0 (omega arith) (sym (get_or-take j path 0 0 a) ∙ ap (λ l. get_or l 0 0) e)) (none j (omega arith))) (omega arith)
