-- Steps in the cyclic order of serials.
use Rattle.std.proofs.Common.{◌≡◌, ℕ, ◌+◌, ◌-◌, ◌*◌, ◌%◌, ◌≤◌, ◌<◌, zero, suc, refl, sym, ◌∙◌, ap, arith, Bool, true, false, inl, inr}
use Rattle.std.specs.Prelude.{if◌then◌else◌}
use Rattle.std.proofs.Math.Nat.{eq-or-lt_of_le, add-mul}
use Rattle.std.proofs.lemmas.Bool.{cases_lt}
use Rattle.std.proofs.lemmas.Bool.Decides.{nat_tests}
use Rattle.wire_message.specs.SerialOrder.{serial_after, IsNext, AllTaken, distance, taken_among}

-- after `tried` candidates: the last of them is the candidate, and each was taken
pub record Tried (taken : ℕ → Bool) (last tried candidate : ℕ) : Type 0 where
  pub within : tried ≤ 4294967295
  pub first : tried ≡ 0 → candidate ≡ last
  pub later : 1 ≤ tried → candidate ≡ serial_after last tried
  pub taken_all : (k : ℕ) → 1 ≤ k → k ≤ tried → taken (serial_after last k) ≡ true

-- the next candidate is the next in cyclic order
pub after-tried : (taken : ℕ → Bool) (last tried candidate : ℕ) → last ≤ 4294967295 → Tried taken last tried candidate → candidate % 4294967295 + 1 ≡ serial_after last (tried + 1)
after-tried taken last zero candidate h t = let first = t.first refl in omega arith
after-tried taken last (suc k) candidate h t = let later = t.later (omega arith) in omega arith

-- a place on the round
pub place_after : (last serial : ℕ) → 1 ≤ serial → serial ≤ 4294967295 → last < serial → serial_after last (serial - last) ≡ serial
place_after last serial one limit h = omega arith

pub place_before : (last serial : ℕ) → 1 ≤ serial → serial ≤ last → last ≤ 4294967295 → serial_after last (serial + 4294967295 - last) ≡ serial
place_before last serial one h limit = omega arith

-- each serial is met on one whole round
pub round_all : (taken : ℕ → Bool) (last candidate : ℕ) → last ≤ 4294967295 → Tried taken last 4294967295 candidate → AllTaken taken
round_all taken last candidate h t serial one limit =
    elim (cases_lt last serial) as (λ _. taken serial ≡ true) [
      | inl p ↦ ap taken (sym (place_after last serial one limit p)) ∙ t.taken_all (serial - last) (omega arith) (omega arith)
      | inr p ↦ ap taken (sym (place_before last serial one p h)) ∙ t.taken_all (serial + 4294967295 - last) (omega arith) (omega arith)
    ]

-- where the next candidate isn't taken, it is the next serial
pub next-of : (taken : ℕ → Bool) (last tried candidate serial : ℕ) → last ≤ 4294967295 → Tried taken last tried candidate → tried < 4294967295
    → serial ≡ candidate % 4294967295 + 1 → taken serial ≡ false → IsNext taken last serial
next-of taken last tried candidate serial h t below e free = record {
  place = tried + 1;
  one = omega arith;
  round = omega arith;
  there = e ∙ after-tried taken last tried candidate h t;
  free = free;
  first = λ k one less. t.taken_all k one (omega arith);
}

-- where it is taken, one more was tried
pub tried_more : (taken : ℕ → Bool) (last tried candidate serial : ℕ) → last ≤ 4294967295 → Tried taken last tried candidate → tried < 4294967295
    → serial ≡ candidate % 4294967295 + 1 → taken serial ≡ true → Tried taken last (tried + 1) serial
tried_more taken last tried candidate serial h t below e is_taken = record {
  within = omega arith;
  first = λ z. absurd (omega arith);
  later = λ _. e ∙ after-tried taken last tried candidate h t;
  taken_all = λ k one most. elim (eq-or-lt_of_le most) as (λ _. taken (serial_after last k) ≡ true) [
    | inl p ↦ rw p (ap taken (sym (e ∙ after-tried taken last tried candidate h t)) ∙ is_taken)
    | inr p ↦ t.taken_all k one (omega arith)
  ];
}

-- ---- how many were tried

among-up : (taken : ℕ → Bool) (n m : ℕ) → n ≤ m → taken_among taken n ≤ taken_among taken m
unfolding taken_among
among-up taken n zero h = let e : n ≡ 0 = omega arith in rw e (omega arith)
among-up taken n (suc m) h = elim (eq-or-lt_of_le h) as (λ _. taken_among taken n ≤ taken_among taken (suc m)) [
  | inl e ↦ rw e (omega arith)
  | inr less ↦ let up = among-up taken n m (omega arith) in omega arith
]

-- each serial from `n` on to `m` is taken
among-all : (taken : ℕ → Bool) (n m : ℕ) → n ≤ m → ((serial : ℕ) → n < serial → serial ≤ m → taken serial ≡ true) → taken_among taken n + (m - n) ≤ taken_among taken m
unfolding taken_among
among-all taken n zero h all = let e : n ≡ 0 = omega arith in rw e (omega arith)
among-all taken n (suc m) h all = elim (eq-or-lt_of_le h) as (λ _. taken_among taken n + (suc m - n) ≤ taken_among taken (suc m)) [
  | inl e ↦ rw e (omega arith)
  | inr less ↦
      let so_far = among-all taken n m (omega arith) (λ serial more le. all serial more (omega arith)) in
      let last : taken (suc m) ≡ true = all (suc m) less (omega arith) in
      rw last (omega arith)
]

-- the serials that were tried are among those that are taken
pub tried-among : (taken : ℕ → Bool) (last tried candidate : ℕ) → last ≤ 4294967295 → Tried taken last tried candidate → tried ≤ taken_among taken 4294967295
tried-among taken last tried candidate h t =
    let behind : (serial : ℕ) → last < serial → serial ≤ last + tried → serial ≤ 4294967295 → taken serial ≡ true =
    λ serial less le most. ap taken (sym (place_after last serial (omega arith) most less)) ∙ t.taken_all (serial - last) (omega arith) (omega arith) in
    elim (cases_lt (4294967295 - last) tried) [
      | inl more ↦
          let before : (serial : ℕ) → 0 < serial → serial ≤ tried - (4294967295 - last) → taken serial ≡ true =
          λ serial one le. ap taken (sym (place_before last serial one (omega (arith, t.within)) h)) ∙ t.taken_all (serial + 4294967295 - last) (omega arith) (omega arith) in
          let first = among-all taken 0 (tried - (4294967295 - last)) (omega arith) before in
          let up = among-up taken (tried - (4294967295 - last)) last (omega (arith, t.within)) in
          let rest = among-all taken last 4294967295 h (λ serial less le. behind serial less (omega arith) le) in
          omega arith
      | inr within ↦
          let some = among-all taken last (last + tried) (omega arith) (λ serial less le. behind serial less le (omega arith)) in
          let up = among-up taken (last + tried) 4294967295 (omega arith) in
          omega arith
    ]

-- ---- each is taken

at-most : (b : Bool) (k n : ℕ) → k ≤ n → k + (if b then 1 else 0) ≤ suc n
at-most true k n h = omega arith
at-most false k n h = omega arith

among-most : (taken : ℕ → Bool) (n : ℕ) → taken_among taken n ≤ n
unfolding taken_among
among-most taken zero = omega arith
among-most taken (suc n) = at-most (taken (suc n)) (taken_among taken n) n (among-most taken n)

-- all of them and one more
all-but-last : (b : Bool) (k n : ℕ) → k ≤ n → k + (if b then 1 else 0) ≡ suc n → (b ≡ true) × (k ≡ n)
all-but-last true k n h e = (refl, omega arith)
all-but-last false k n h e = absurd (omega arith)

-- where as many are taken as there are, each is
pub all-among : (taken : ℕ → Bool) (n serial : ℕ) → taken_among taken n ≡ n → 1 ≤ serial → serial ≤ n → taken serial ≡ true
unfolding taken_among
all-among taken zero serial e one within = absurd (omega arith)
all-among taken (suc n) serial e one within =
    let full = all-but-last (taken (suc n)) (taken_among taken n) n (among-most taken n) e in
    elim (eq-or-lt_of_le within) as (λ _. taken serial ≡ true) [
      | inl last ↦ ap taken last ∙ full.0
      | inr less ↦ all-among taken n serial full.1 one (omega arith)
    ]

-- after a whole round all are taken
pub none-free : (taken : ℕ → Bool) (last candidate : ℕ) → last ≤ 4294967295 → Tried taken last 4294967295 candidate → taken_among taken 4294967295 ≡ 4294967295
none-free taken last candidate h t =
    let most = among-most taken 4294967295 in let least = tried-among taken last 4294967295 candidate h t in omega arith

-- a search after so many candidates, each a step of that weight
pub record Searched (taken : ℕ → Bool) (last tried candidate weight before steps : ℕ) : Type 0 where
  pub tries : Tried taken last tried candidate
  pub cost : steps ≤ before + tried
  pub exact : steps ≡ before + tried * weight

-- one step more
pub counted_more : (before tried weight steps next : ℕ) → steps ≡ before + tried * weight → next ≡ steps + weight → next ≡ before + (tried + 1) * weight
counted_more before tried weight steps next e f = let m = add-mul tried 1 weight in omega arith

-- the place on the round is the distance
pub distance-there : (last place serial : ℕ) → last ≤ 4294967295 → 1 ≤ place → place ≤ 4294967295 → serial ≡ serial_after last place → distance last serial ≡ place
distance-there last place serial h one most e = grind (arith, nat_tests)

-- where none is taken, none is counted
pub among_none : (n : ℕ) → taken_among (λ serial. false) n ≡ 0
unfolding taken_among
among_none zero = refl
among_none (suc n) = let e = among_none n in omega arith

pub ruleset round = (tried_more, counted_more)
