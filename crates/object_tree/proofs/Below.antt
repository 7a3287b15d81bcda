-- Paths below one another.
use Rattle.std.proofs.Common.{◌≡◌, refl, sym, ◌∙◌, ap, subst, ℕ, zero, suc, ◌-◌, ◌≤◌, ◌<◌, List, [], ◌∷◌, ◌++◌, length, take, Bool, true, false, cond, not, ◌||◌, Some, is_some, Decides, bytes_eq, arith, filter, nat_cmp, nat_eq, is_gt, Less, ⊎_elim, get_or, slice_index_or, length-append, length-take, get_or-take, take-take, take_at}
use Rattle.std.specs.List.{AllByRecursion}
use Rattle.std.specs.Cmp.Lexicographic.{slice_cmp}
use Rattle.std.specs.BTreeMap.{is_at}
use Rattle.std.proofs.lemmas.Bool.{cond-true, cond-false, cases_Bool, or_left, or_right, or_from, false_from_ne_true, both_ways, cases_order}
use Rattle.std.proofs.lemmas.Bool.Decides.{nat_tests, Decides-and, Decides-not, same_from_decides}
use Rattle.std.proofs.lemmas.List.{take_more}
use Rattle.std.proofs.lemmas.Slice.Eq.{bytes_eq-Decides}
use Rattle.object_tree.specs.Objects.{Objects, IsTree, text_cmp, is_same, root, front_of, is_below, fronts, has_below, rows_at}
use Rattle.object_tree.proofs.Entries.{at_itself, same_at}

-- the second path is strictly below the first, as a fact
abbrev pub Below : List ℕ → List ℕ → Type 0
Below path other = ((path ≡ other) → ⊥) × (take (length (front_of path)) other ≡ front_of path)

pub is_below-Decides : (path other : List ℕ) → Decides (is_below path other) (Below path other)
unfolding is_below
is_below-Decides path other =
    Decides-and (not (is_same path other)) (is_same (take (length (front_of path)) other) (front_of path))
    (Decides-not (is_same path other) (bytes_eq-Decides path other))
    (bytes_eq-Decides (take (length (front_of path)) other) (front_of path))

-- what a path below this one begins with, where this one is the root and where it isn't
pub front_root : front_of root ≡ root
front_root = refl

pub front_other : (path : List ℕ) → (path ≡ root → ⊥) → front_of path ≡ path ++ root
front_other path ne = cond-false (is_same path root) root (path ++ root) (false_from_ne_true (is_same path root) (λ h. ne ((bytes_eq-Decides path root).0 h)))

pub is_root_or_other : (path : List ℕ) {G : Type 0} → (path ≡ root → G) → ((path ≡ root → ⊥) → G) → G
is_root_or_other path f g = ⊎_elim (λ h. f ((bytes_eq-Decides path root).0 h)) (λ h. g (λ e. both_ways (is_same path root) h ((bytes_eq-Decides path root).1 e))) (cases_Bool (is_same path root))

-- ---- in the order of bytes

-- a text stands before what begins with it and `/`
before : (p q : List ℕ) → take (length (p ++ root)) q ≡ p ++ root → slice_cmp nat_cmp p q ≡ Less
before [] [] h = grind arith
before [] (y ∷ ys) h = refl
before (x ∷ xs) [] h = grind arith
before (x ∷ xs) (y ∷ ys) h = grind (arith, nat_tests, before xs ys)

before_root : (q : List ℕ) → (root ≡ q → ⊥) → take 1 q ≡ root → slice_cmp nat_cmp root q ≡ Less
before_root [] ne h = grind arith
before_root (y ∷ []) ne h = grind arith
before_root (y ∷ z ∷ ys) ne h = grind (arith, nat_tests)

-- what stands between a text and that text with `/` behind, begins so too, where none of its bytes is below `/`
between : (p q n : List ℕ) → slice_cmp nat_cmp p n ≡ Less → take (length (p ++ root)) q ≡ p ++ root → is_gt (slice_cmp nat_cmp n q) ≡ false → AllByRecursion (λ b. 47 ≤ b) n → take (length (p ++ root)) n ≡ p ++ root
between [] [] n less h upto low = grind arith
between [] (y ∷ ys) [] less h upto low = grind arith
between [] (y ∷ ys) (c ∷ cs) less h upto low = grind (arith, nat_tests)
between (x ∷ xs) [] n less h upto low = grind arith
between (x ∷ xs) (y ∷ ys) [] less h upto low = grind arith
between (x ∷ xs) (y ∷ ys) (c ∷ cs) less h upto low = grind (arith, nat_tests, between xs ys cs)

between_root : (q n : List ℕ) → slice_cmp nat_cmp root n ≡ Less → take 1 q ≡ root → is_gt (slice_cmp nat_cmp n q) ≡ false → AllByRecursion (λ b. 47 ≤ b) n → take 1 n ≡ root
between_root [] n less h upto low = grind arith
between_root (y ∷ ys) [] less h upto low = grind arith
between_root (y ∷ ys) (c ∷ cs) less h upto low = grind (arith, nat_tests)

pub below_less : (path other : List ℕ) → Below path other → text_cmp path other ≡ Less
below_less path other b = is_root_or_other path
    (λ e. subst (λ (p : List ℕ). slice_cmp nat_cmp p other ≡ Less) (sym e) (before_root other (λ k. b.0 (e ∙ k)) (subst (λ (p : List ℕ). take (length (front_of p)) other ≡ front_of p) e b.1)))
    (λ ne. before path other (subst (λ (f : List ℕ). take (length f) other ≡ f) (front_other path ne) b.1))

not_less_itself : (p : List ℕ) → text_cmp p p ≡ Less → ⊥
not_less_itself p h = let same = at_itself p in grind arith

pub between_below : (path other n : List ℕ) → Below path other → text_cmp path n ≡ Less → is_gt (text_cmp n other) ≡ false → AllByRecursion (λ b. 47 ≤ b) n → Below path n
between_below path other n b less upto low = (
  (λ e. not_less_itself path (subst (λ (x : List ℕ). text_cmp path x ≡ Less) (sym e) less)),
  is_root_or_other path
      (λ e. subst (λ (p : List ℕ). take (length (front_of p)) n ≡ front_of p) (sym e) (between_root other n (subst (λ (p : List ℕ). text_cmp p n ≡ Less) e less) (subst (λ (p : List ℕ). take (length (front_of p)) other ≡ front_of p) e b.1) upto low))
      (λ ne. subst (λ (f : List ℕ). take (length f) n ≡ f) (sym (front_other path ne)) (between path other n less (subst (λ (f : List ℕ). take (length f) other ≡ f) (front_other path ne) b.1) upto low)),
)

-- ---- some path of the tree is below

pub has_below_true : (objects : Objects) (path q : List ℕ) → is_some (rows_at objects q) ≡ true → is_below path q ≡ true → has_below objects path ≡ true
has_below_true [] path q there b = there
has_below_true (o ∷ objects) path q there b = by (is_at (text_cmp q) o.0) refl there (λ t. has_below_true objects path q t b)
  where
    by : (c : Bool) → is_at (text_cmp q) o.0 ≡ c → is_some (cond c (Some o.1) (rows_at objects q)) ≡ true → (is_some (rows_at objects q) ≡ true → has_below objects path ≡ true) → (is_below path o.0 || has_below objects path) ≡ true
    by true at t later = or_left (is_below path o.0) (has_below objects path) (subst (λ (x : List ℕ). is_below path x ≡ true) (same_at q o.0 at) b)
    by false at t later = or_right (is_below path o.0) (has_below objects path) (later t)

has_below_false : (objects : Objects) (path : List ℕ) → ((q : List ℕ) → is_some (rows_at objects q) ≡ true → is_below path q ≡ false) → has_below objects path ≡ false
has_below_false [] path f = refl
has_below_false (o ∷ objects) path f =
    or_from (is_below path o.0) (has_below objects path)
    (f o.0 (ap is_some (cond-true (is_at (text_cmp o.0) o.0) (Some o.1) (rows_at objects o.0) (at_itself o.0))))
    (has_below_false objects path (λ q t. f q (later (is_at (text_cmp q) o.0) q t)))
  where
    later : (c : Bool) (q : List ℕ) → is_some (rows_at objects q) ≡ true → is_some (cond c (Some o.1) (rows_at objects q)) ≡ true
    later true q t = refl
    later false q t = t

-- ---- the paths on the way

-- what holds of each path on the way holds of a front that is one
pub front_at : (P : List ℕ → Type 0) (f : List ℕ → Bool) (text : List ℕ) (k n : ℕ) → AllByRecursion P (filter f (fronts n text)) → 1 ≤ k → k ≤ n → f (take k text) ≡ true → P (take k text)
front_at P f text k zero all one most pass = grind arith
front_at P f text k (suc n) all one most pass = by (f (take (suc n) text)) refl all (λ rest. front_at P f text k n rest one)
  where
    by : (c : Bool) → f (take (suc n) text) ≡ c → AllByRecursion P (cond c (take (suc n) text ∷ filter f (fronts n text)) (filter f (fronts n text))) → (AllByRecursion P (filter f (fronts n text)) → k ≤ n → f (take k text) ≡ true → P (take k text)) → P (take k text)
    by true h a later = ⊎_elim (λ (e : k ≡ suc n). subst (λ (j : ℕ). P (take j text)) (sym e) a.0) (λ o. later a.1 (⊎_elim (λ l. omega arith) (λ l. omega arith) o) pass) (cases_order k (suc n))
    by false h a later = later a (⊎_elim (λ (e : k ≡ suc n). grind arith) (λ o. ⊎_elim (λ l. omega arith) (λ l. omega arith) o) (cases_order k (suc n))) pass

-- ---- from the bytes of both

pub root_short : (other : List ℕ) → length other ≤ 1 → false ≡ is_below root other
unfolding is_below
root_short [] h = refl
root_short (c ∷ []) h = grind (arith, nat_tests)
root_short (c ∷ d ∷ ds) h = grind arith

pub root_long : (other : List ℕ) → 1 < length other → nat_eq (slice_index_or other 0 0) 47 ≡ is_below root other
unfolding is_below
root_long [] h = grind arith
root_long (c ∷ []) h = grind arith
root_long (c ∷ d ∷ ds) h = grind (arith, nat_tests)

pub joined : (path other : List ℕ) → length path < length other → get_or other (length path) 0 ≡ 47 → take (length path) other ≡ path → take (length (path ++ root)) other ≡ path ++ root
joined path other long slash h =
    ap (λ k. take k other) (length-append path root) ∙ take_more other (length path) 0 long ∙ ap (λ x. take (length path) other ++ x ∷ []) slash ∙ ap (λ p. p ++ root) h

parted : (path other : List ℕ) → take (length (path ++ root)) other ≡ path ++ root → take (length path) other ≡ path
parted path other h =
    sym (take-take (length path) (length (path ++ root)) other (omega (arith, length-append path root))) ∙ ap (take (length path)) h ∙ take_at path root (length path) refl

last_byte : (p : List ℕ) → get_or (p ++ root) (length p) 0 ≡ 47
last_byte [] = refl
last_byte (x ∷ xs) = last_byte xs

longer : (path other : List ℕ) → take (length (path ++ root)) other ≡ path ++ root → length path < length other
longer path other h = omega (arith, length-append path root, length-take (length (path ++ root)) other, ap length h)

slashed : (path other : List ℕ) → take (length (path ++ root)) other ≡ path ++ root → get_or other (length path) 0 ≡ 47
slashed path other h = sym (get_or-take (length (path ++ root)) other (length path) 0 (omega (arith, length-append path root))) ∙ ap (λ l. get_or l (length path) 0) h ∙ last_byte path

-- what is below a path that isn't the root
below_other : (path other : List ℕ) → (path ≡ root → ⊥) → is_below path other ≡ true → take (length (path ++ root)) other ≡ path ++ root
below_other path other ne b = subst (λ (f : List ℕ). take (length f) other ≡ f) (front_other path ne) ((is_below-Decides path other).0 b).1

pub not_longer : (path other : List ℕ) → (path ≡ root → ⊥) → length other ≤ length path → false ≡ is_below path other
not_longer path other ne short = sym (false_from_ne_true (is_below path other) (λ b. let l = longer path other (below_other path other ne b) in omega arith))

pub not_slash : (path other : List ℕ) → (path ≡ root → ⊥) → (get_or other (length path) 0 ≡ 47 → ⊥) → false ≡ is_below path other
not_slash path other ne no_slash = sym (false_from_ne_true (is_below path other) (λ b. no_slash (slashed path other (below_other path other ne b))))

pub below_slash : (path other : List ℕ) → (path ≡ root → ⊥) → is_below path other ≡ true → get_or other (length path) 0 ≡ 47
below_slash path other ne b = slashed path other (below_other path other ne b)

pub by_front : (path other : List ℕ) (r : Bool) → (path ≡ root → ⊥) → length path < length other → get_or other (length path) 0 ≡ 47 → r ≡ bytes_eq (take (length path) other) path → r ≡ is_below path other
by_front path other r ne long slash e =
    e ∙ same_from_decides (bytes_eq (take (length path) other) path) (is_below path other) (
      (λ t. (
        (λ s. let l = ap length s in omega arith),
        subst (λ (f : List ℕ). take (length f) other ≡ f) (sym (front_other path ne)) (joined path other long slash ((bytes_eq-Decides (take (length path) other) path).0 t)),
      )),
      (λ b. (bytes_eq-Decides (take (length path) other) path).1 (parted path other (subst (λ (f : List ℕ). take (length f) other ≡ f) (front_other path ne) b.1))),
    )
    (is_below-Decides path other)

-- a path that is below begins with this one, and is longer
pub front_begins : (path q : List ℕ) → Below path q → (take (length path) q ≡ path) × (length path < length q)
front_begins path q b = is_root_or_other path
    (λ e. subst (λ (p : List ℕ). (take (length p) q ≡ p) × (length p < length q)) (sym e) (root_begins q (λ k. b.0 (e ∙ k)) (subst (λ (p : List ℕ). take (length (front_of p)) q ≡ front_of p) e b.1)))
    (λ ne. let h = subst (λ (f : List ℕ). take (length f) q ≡ f) (front_other path ne) b.1 in (parted path q h, longer path q h))
  where
    root_begins : (q : List ℕ) → (root ≡ q → ⊥) → take 1 q ≡ root → (take 1 q ≡ root) × (1 < length q)
    root_begins [] ne h = grind arith
    root_begins (c ∷ []) ne h = grind arith
    root_begins (c ∷ d ∷ ds) ne h = (h, omega arith)

-- ---- where the path isn't there

pub none_below : (objects : Objects) (path : List ℕ) → IsTree objects → 1 ≤ length path → is_some (rows_at objects path) ≡ false → has_below objects path ≡ false
none_below objects path whole one gone = has_below_false objects path (λ q t. false_from_ne_true (is_below path q) (λ b.
    both_ways (is_some (rows_at objects path)) gone (on_way q t b)))
  where
    on_way : (q : List ℕ) → is_some (rows_at objects q) ≡ true → is_below path q ≡ true → is_some (rows_at objects path) ≡ true
    on_way q t b =
        let begins = front_begins path q ((is_below-Decides path q).0 b) in
        subst (λ (p : List ℕ). is_some (rows_at objects p) ≡ true) begins.0
        (front_at (λ a. is_some (rows_at objects a) ≡ true) (λ front. is_below front q) q (length path) (length q - 1) (whole.closed q t) one (omega (arith, begins.1))
        (subst (λ (p : List ℕ). is_below p q ≡ true) (sym begins.0) b))
