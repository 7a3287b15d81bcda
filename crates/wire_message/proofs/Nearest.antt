-- The next serial is the nearest free one behind the last one drawn, and there is none exactly where each is pending.
use Rattle.std.proofs.Common.{◌≡◌, ◌⊎◌, inl, inr, ℕ, zero, suc, ◌+◌, ◌-◌, ◌≤◌, Bool, true, false, refl, sym, ◌∙◌, ap, arith}
use Rattle.std.specs.Prelude.{◌↔◌}
use Rattle.std.proofs.Math.Nat.{eq-or-lt_of_le}
use Rattle.std.proofs.lemmas.Bool.{cases_lt}
use Rattle.std.proofs.lemmas.Bool.Decides.{nat_tests}
use Rattle.wire_message.specs.SerialOrder.{serial_after, IsNext, IsNearest, AllTaken, distance}
use Rattle.wire_message.proofs.SerialOrder.{distance-there, place_after, place_before, round_all}

-- a serial is met after as many steps as it is far
record Met (last serial : ℕ) : Type 0 where
  one : 1 ≤ distance last serial
  round : distance last serial ≤ 4294967295
  there : serial_after last (distance last serial) ≡ serial

far : (last serial d : ℕ) → distance last serial ≡ d → 1 ≤ d → d ≤ 4294967295 → serial_after last d ≡ serial → Met last serial
far last serial d e one most is = record { one = rw e one; round = rw e most; there = rw e is }

met : (last serial : ℕ) → last ≤ 4294967295 → 1 ≤ serial → serial ≤ 4294967295 → Met last serial
met last serial h one limit =
    elim (cases_lt last serial) as (λ _. Met last serial) [
      | inl p ↦ far last serial (serial - last) (grind (arith, nat_tests)) (omega arith) (omega arith) (place_after last serial one limit p)
      | inr p ↦ far last serial (serial + 4294967295 - last) (grind (arith, nat_tests)) (omega arith) (omega arith) (place_before last serial one p h)
    ]

not_both : (b : Bool) → b ≡ true → b ≡ false → ⊥
not_both b e f = absurd cc

nearest-of : (taken : ℕ → Bool) (last serial : ℕ) → last ≤ 4294967295 → IsNext taken last serial → IsNearest taken last serial
nearest-of taken last serial h n =
    let is : distance last serial ≡ n.place = distance-there last n.place serial h n.one n.round n.there in
    record {
      one = omega (arith, n.there);
      within = omega (arith, n.there);
      free = n.free;
      nearest = λ other one limit free.
          let m = met last other h one limit in
          elim (cases_lt (distance last other) n.place) as (λ _. distance last serial ≤ distance last other) [
            | inl less ↦ absurd (not_both (taken other) (ap taken (sym m.there) ∙ n.first (distance last other) m.one less) free)
            | inr more ↦ omega (arith, is, more)
          ];
    }

is_taken : (taken : ℕ → Bool) (serial : ℕ) → (taken serial ≡ false → ⊥) → taken serial ≡ true
is_taken taken serial n = of (taken serial) n where
  of : (b : Bool) → (b ≡ false → ⊥) → b ≡ true
  of true n = refl
  of false n = absurd (n refl)

next-of : (taken : ℕ → Bool) (last serial : ℕ) → last ≤ 4294967295 → IsNearest taken last serial → IsNext taken last serial
next-of taken last serial h n =
    let m = met last serial h n.one n.within in
    record {
      place = distance last serial;
      one = m.one;
      round = m.round;
      there = sym m.there;
      free = n.free;
      first = λ k one less. is_taken taken (serial_after last k) (λ free.
          let far : distance last (serial_after last k) ≡ k = distance-there last k (serial_after last k) h one (omega (arith, m.round, less)) refl in
          let near = n.nearest (serial_after last k) (omega arith) (omega arith) free in
          absurd (omega (arith, far, near, less)));
    }

pub nearest : (taken : ℕ → Bool) (last serial : ℕ) → last ≤ 4294967295 → IsNext taken last serial ↔ IsNearest taken last serial
nearest taken last serial h = (nearest-of taken last serial h, next-of taken last serial h)

-- ---- none

-- the first so many are taken, or one of them is the next
abbrev Found : (ℕ → Bool) → ℕ → ℕ → Type 0
Found taken last n = ((k : ℕ) → 1 ≤ k → k ≤ n → taken (serial_after last k) ≡ true) ⊎ ((serial : ℕ) × IsNext taken last serial)

found-more : (taken : ℕ → Bool) (last n : ℕ) (b : Bool) → suc n ≤ 4294967295 → taken (serial_after last (suc n)) ≡ b
    → ((k : ℕ) → 1 ≤ k → k ≤ n → taken (serial_after last k) ≡ true) → Found taken last (suc n)
found-more taken last n true h e all =
    inl (λ k one most. elim (eq-or-lt_of_le most) as (λ _. taken (serial_after last k) ≡ true) [ inl p ↦ rw p e | inr p ↦ all k one (omega arith) ])
found-more taken last n false h e all =
    inr (serial_after last (suc n), record { place = suc n; one = omega arith; round = h; there = refl; free = e; first = λ k one less. all k one (omega arith) })

found : (taken : ℕ → Bool) (last n : ℕ) → n ≤ 4294967295 → Found taken last n
found taken last zero h = inl (λ k one most. absurd (omega arith))
found taken last (suc n) h =
    elim (found taken last n (omega arith)) as (λ _. Found taken last (suc n)) [
      | inl all ↦ found-more taken last n (taken (serial_after last (suc n))) h refl all
      | inr p ↦ inr p
    ]

all-of : (taken : ℕ → Bool) (last n : ℕ) → n ≡ 4294967295 → last ≤ 4294967295 → ((serial : ℕ) → IsNext taken last serial → ⊥) → AllTaken taken
all-of taken last n e h none =
    elim (found taken last n (omega (arith, e))) as (λ _. AllTaken taken) [
      | inl all ↦
          round_all taken last (serial_after last 4294967295) h
          (record { within = omega arith; first = λ z. absurd (omega arith); later = λ _. refl; taken_all = λ k one most. all k one (omega (arith, e)) })
      | inr p ↦ absurd (none p.0 p.1)
    ]

none-of : (taken : ℕ → Bool) (last : ℕ) → AllTaken taken → (serial : ℕ) → IsNext taken last serial → ⊥
none-of taken last all serial n = not_both (taken serial) (all serial (omega (arith, n.there)) (omega (arith, n.there))) n.free

pub none_left : (taken : ℕ → Bool) (last : ℕ) → last ≤ 4294967295 → ((serial : ℕ) → IsNext taken last serial → ⊥) ↔ AllTaken taken
none_left taken last h = (all-of taken last 4294967295 refl h, none-of taken last)
