-- How many serials are pending: as many as the map has.
use Rattle.std.proofs.{Common.{◌≡◌, ℕ, zero, suc, ◌+◌, ◌<◌, ◌≤◌, ◌==◌, if◌then◌else◌, refl, sym, ◌∙◌, ap, arith, Bool, true, false, ◌||◌, cond, is_some, List, [], ◌∷◌, length, Option, Some, None, IsSome}, lemmas.Bool.Decides.nat_tests}
use Rattle.std.specs.{Ordering.nat_cmp, declared.cmp.Ordering.TheVariants.Less, Cmp.unsigned_tied, List.AllByRecursion, List.Sorted.IsStrictlySortedBy, Map.{keys_of, lookup}, BTreeMap.{BTreeMap, get, is_at, btree_map_len, IsOrdered}}
use Rattle.peer_calls.specs.{Names.{Error, Slot}, Refinement.{CallsView, waiting_serial, IsIndex}}
use Rattle.wire_message.specs.SerialOrder.{taken_among}
use Rattle.peer_calls.proofs.{CallsAfter.view_of, Index.{open_none, pending_open, pending_shut}}

-- ---- counting what is taken

among_same : (f g : ℕ → Bool) (n : ℕ) → ((k : ℕ) → f k ≡ g k) → taken_among f n ≡ taken_among g n
unfolding taken_among
among_same f g zero e = refl
among_same f g (suc n) e = rw (among_same f g n e, e (suc n)) refl

among_none : (f : ℕ → Bool) (n : ℕ) → ((k : ℕ) → f k ≡ false) → taken_among f n ≡ 0
unfolding taken_among
among_none f zero e = refl
among_none f (suc n) e = rw (among_none f n e, e (suc n)) refl

-- one serial more beside those that g takes
abbrev beside : ℕ → (ℕ → Bool) → ℕ → Bool
beside s g k = (s == k) || g k

other : (s k : ℕ) (g : ℕ → Bool) → (s == k) ≡ false → beside s g k ≡ g k
other s k g e = rw e refl

itself : (s : ℕ) (g : ℕ → Bool) → beside s g s ≡ true
itself s g = let e : (s == s) ≡ true = grind (arith, nat_tests) in rw e refl

-- above the ones that are counted it changes nothing
among_above : (s : ℕ) (g : ℕ → Bool) (n : ℕ) → n < s → taken_among (beside s g) n ≡ taken_among g n
unfolding taken_among
among_above s g zero h = refl
among_above s g (suc n) h =
    let apart : (s == suc n) ≡ false = grind (arith, nat_tests) in
    rw (among_above s g n (omega (arith, h)), other s (suc n) g apart) refl

plus_none : (a : ℕ) → a + 1 ≡ a + 0 + 1
plus_none a = omega arith

one_more : (s n : ℕ) (g : ℕ → Bool) (b : Bool) → 1 ≤ s → s ≤ suc n → g s ≡ false → (s == suc n) ≡ b
    → (s ≤ n → taken_among (beside s g) n ≡ taken_among g n + 1)
    → taken_among (beside s g) (suc n) ≡ taken_among g (suc n) + 1
unfolding taken_among
one_more s n g true low high free e rest =
    let same : s ≡ suc n = grind (arith, nat_tests) in
    let under : taken_among (beside s g) n ≡ taken_among g n = among_above s g n (omega (arith, same)) in
    let now : beside s g (suc n) ≡ true = ap (beside s g) (sym same) ∙ itself s g in
    let none : g (suc n) ≡ false = ap g (sym same) ∙ free in
    rw (under, now, none) (plus_none (taken_among g n))
one_more s n g false low high free e rest =
    let below : s ≤ n = grind (arith, nat_tests) in
    rw (rest below, other s (suc n) g e) (moved (taken_among g n) (if g (suc n) then 1 else 0))
  where
    moved : (a b : ℕ) → a + 1 + b ≡ a + b + 1
    moved a b = omega arith

among_one : (s : ℕ) (g : ℕ → Bool) (n : ℕ) → 1 ≤ s → s ≤ n → g s ≡ false → taken_among (beside s g) n ≡ taken_among g n + 1
among_one s g zero low high free = absurd (omega (arith, low, high))
among_one s g (suc n) low high free = one_more s n g (s == suc n) low high free refl (λ h. among_one s g n low h free)

-- ---- the keys of a map

-- the entries have this key
abbrev has : List (ℕ × ℕ) → ℕ → Bool
has es q = is_some (lookup (is_at (nat_cmp q)) es)

-- the keys of a map of serials, counted in cyclic order
abbrev InCircle : List (ℕ × ℕ) → Type 0
InCircle es = (q : ℕ) → has es q ≡ true → (1 ≤ q) × (q ≤ 4294967295)

first_by : (b : Bool) (v : ℕ) (o : Option ℕ) → is_some (cond b (Some v) o) ≡ (b || is_some o)
first_by true v o = refl
first_by false v o = refl

has_first : (s v q : ℕ) (es : List (ℕ × ℕ)) → has ((s, v) ∷ es) q ≡ beside s (has es) q
has_first s v q es =
    first_by (is_at (nat_cmp q) s) v (lookup (is_at (nat_cmp q)) es)
    ∙ ap (λ b. b || has es q) (unsigned_tied q s ∙ flip q s)
  where
    flip : (a b : ℕ) → (a == b) ≡ (b == a)
    flip a b = grind (arith, nat_tests)

-- a key below all is none of them
has_none : (s : ℕ) (es : List (ℕ × ℕ)) → AllByRecursion (λ y. nat_cmp s y ≡ Less) (keys_of es) → has es s ≡ false
has_none s [] a = refl
has_none s ((k, v) ∷ es) a = has_first k v s es ∙ rw (has_none s es a.1) (apart k s a.0)
  where
    apart : (k s : ℕ) → nat_cmp s k ≡ Less → ((k == s) || false) ≡ false
    apart k s e = grind (arith, nat_tests)

entries_count : (es : List (ℕ × ℕ)) → IsStrictlySortedBy nat_cmp (keys_of es) → InCircle es → taken_among (has es) 4294967295 ≡ length es
unfolding IsStrictlySortedBy
entries_count [] sorted within = among_none (λ q. false) 4294967295 (λ q. refl)
entries_count ((s, v) ∷ es) sorted within =
    let at = within s (has_first s v s es ∙ itself s (has es)) in
    among_same (has ((s, v) ∷ es)) (beside s (has es)) 4294967295 (λ q. has_first s v q es)
    ∙ among_one s (has es) 4294967295 at.0 at.1 (has_none s es sorted.0)
    ∙ ap (λ n. n + 1) (entries_count es sorted.1 (λ q h. within q (has_first s v q es ∙ more (s == q) (has es q) h)))
    ∙ last (length es)
  where
    more : (a b : Bool) → b ≡ true → (a || b) ≡ true
    more true b e = refl
    more false b e = e

    last : (n : ℕ) → n + 1 ≡ suc n
    last n = omega arith

-- as many serials are pending as the map has
map_count : (m : BTreeMap ℕ ℕ) → IsOrdered nat_cmp m → ((q : ℕ) → IsSome (get nat_cmp m q) → (1 ≤ q) × (q ≤ 4294967295))
    → taken_among (λ q. is_some (get nat_cmp m q)) 4294967295 ≡ btree_map_len m
map_count m ordered within = entries_count m.entries ordered within

pub pending_none : (ss : List Slot) (error : Option Error) (v : CallsView) → view_of ss error ≡ v → is_some error ≡ true → 0 ≡ taken_among (waiting_serial v) 4294967295
pending_none ss error v e shut = sym (among_none (waiting_serial v) 4294967295 (λ q. sym (pending_shut ss error v q e shut)))

pub pending_count : (m : BTreeMap ℕ ℕ) (ss : List Slot) (error : Option Error) (v : CallsView) → view_of ss error ≡ v → is_some error ≡ false → IsOrdered nat_cmp m
    → (error ≡ None → IsIndex m ss) → btree_map_len m ≡ taken_among (waiting_serial v) 4294967295
pending_count m ss error v e none ordered i =
    sym (map_count m ordered (i (open_none error none)).circle)
    ∙ among_same (λ q. is_some (get nat_cmp m q)) (waiting_serial v) 4294967295 (λ q. pending_open m ss error v q e none i)
