-- The next serial, as a first one and as a function.
use Rattle.std.proofs.{Common.{◌≡◌, ℕ, zero, suc, ◌+◌, ◌-◌, ◌≤◌, ◌<◌, refl, sym, ◌∙◌, ap, arith, Bool, true, false, if◌then◌else◌, Option, Some, None, inl, inr, lit<}, Math.Nat.{eq-or-lt_of_le, mod-lt}}
use Rattle.std.specs.Prelude.{◌↔◌}
use Rattle.wire_message.specs.SerialOrder.{IsNearest}
use Rattle.wire_message.proofs.Nearest.{nearest, none_left}
use Rattle.peer_calls.specs.{Names.{serial_after, IsNext, AllTaken, greatest_serial}, History.CallsPast, Calls.pending, Issuing.{first_free, next_serial}}

-- the first place from k on that is free is found
found_from : (taken : ℕ → Bool) (last p k n : ℕ) → k ≤ p → p < k + n → taken (serial_after last p) ≡ false
    → ((j : ℕ) → k ≤ j → j < p → taken (serial_after last j) ≡ true) → first_free taken last k n ≡ Some (serial_after last p)
unfolding first_free
found_from taken last p k zero le lt free before = absurd (omega arith)
found_from taken last p k (suc n) le lt free before =
    elim (eq-or-lt_of_le le) as (λ _. first_free taken last k (suc n) ≡ Some (serial_after last p)) [
      | inl e ↦ rw e (rw free refl)
      | inr h ↦ rw (before k (omega arith) h) (found_from taken last p (k + 1) n (omega arith) (omega arith) free (λ j a b. before j (omega arith) b))
    ]

-- nothing is found where each place is taken
none_from : (taken : ℕ → Bool) (last k n : ℕ) → ((j : ℕ) → k ≤ j → j < k + n → taken (serial_after last j) ≡ true) → first_free taken last k n ≡ None
unfolding first_free
none_from taken last k zero all = refl
none_from taken last k (suc n) all = rw (all k (omega arith) (omega arith)) (none_from taken last (k + 1) n (λ j a b. all j (omega arith) (omega arith)))

first_free-next : (taken : ℕ → Bool) (last serial : ℕ) → IsNext taken last serial → first_free taken last 1 4294967295 ≡ Some serial
first_free-next taken last serial next =
    found_from taken last next.place 1 4294967295 next.one (omega (arith, next.round)) (rw (sym next.there) next.free) (λ j a b. next.first j a b)
    ∙ ap Some (sym next.there)

serial_after-within : (last k : ℕ) → (1 ≤ serial_after last k) × (serial_after last k ≤ 4294967295)
serial_after-within last k = (omega arith, omega (arith, mod-lt (last + k - 1) {m = 4294967295} (lit< tt)))

first_free-none : (taken : ℕ → Bool) (last : ℕ) → AllTaken taken → first_free taken last 1 4294967295 ≡ None
first_free-none taken last all = none_from taken last 1 4294967295 (λ j a b. all (serial_after last j) (serial_after-within last j).0 (serial_after-within last j).1)

pub next_serial-next : (h : CallsPast) (serial : ℕ) → IsNext (pending h) h.outbox.last serial → next_serial h ≡ Some serial
unfolding next_serial
next_serial-next h serial next = first_free-next (pending h) h.outbox.last serial next

pub next_serial-none : (h : CallsPast) → AllTaken (pending h) → next_serial h ≡ None
unfolding next_serial
next_serial-none h all = first_free-none (pending h) h.outbox.last all

-- ---- and the other way

some_same : {a b : ℕ} → ◌≡◌ {A = Option ℕ} (Some a) (Some b) → a ≡ b
some_same e = search e

-- what is found from the k-th place on is the next, where the places before are taken
found_is : (taken : ℕ → Bool) (last serial k n : ℕ) → 1 ≤ k → k + n ≤ 4294967296 → ((j : ℕ) → 1 ≤ j → j < k → taken (serial_after last j) ≡ true)
    → first_free taken last k n ≡ Some serial → IsNext taken last serial
unfolding first_free
found_is taken last serial k zero one most before e = absurd cc
found_is taken last serial k (suc n) one most before e =
    by (taken (serial_after last k)) refl (λ is e. found_is taken last serial (k + 1) n (omega arith) (omega arith) (upto is) e) e
  where
    upto : taken (serial_after last k) ≡ true → (j : ℕ) → 1 ≤ j → j < k + 1 → taken (serial_after last j) ≡ true
    upto is j a b = elim (eq-or-lt_of_le {n = j} {m = k} (omega arith)) as (λ _. taken (serial_after last j) ≡ true) [ inl p ↦ rw p is | inr p ↦ before j a p ]

    by : (b : Bool) → taken (serial_after last k) ≡ b → (taken (serial_after last k) ≡ true → first_free taken last (k + 1) n ≡ Some serial → IsNext taken last serial)
        → (if b then first_free taken last (k + 1) n else Some (serial_after last k)) ≡ Some serial → IsNext taken last serial
    by true is rest e = rest is e
    by false is rest e = record { place = k; one = one; round = omega arith; there = sym (some_same e); free = rw (sym (some_same e)) is; first = before }

next_of : (h : CallsPast) (serial : ℕ) → next_serial h ≡ Some serial → IsNext (pending h) h.outbox.last serial
unfolding next_serial
next_of h serial e = found_is (pending h) h.outbox.last serial 1 4294967295 (omega arith) (omega arith) (λ j a b. absurd (omega arith)) e

pub next_is : (h : CallsPast) (serial : ℕ) → h.outbox.last ≤ greatest_serial → (next_serial h ≡ Some serial) ↔ IsNearest (pending h) h.outbox.last serial
next_is h serial within =
    let same = nearest (pending h) h.outbox.last serial within in
    (λ e. same.0 (next_of h serial e), λ near. next_serial-next h serial (same.1 near))

pub none_is : (h : CallsPast) → h.outbox.last ≤ greatest_serial → (next_serial h ≡ None) ↔ AllTaken (pending h)
none_is h within = (
  λ e. (none_left (pending h) h.outbox.last within).0 (λ serial n. not_found (sym (next_serial-next h serial n) ∙ e)),
  λ all. next_serial-none h all,
)
  where
    not_found : {serial : ℕ} → ◌≡◌ {A = Option ℕ} (Some serial) None → ⊥
    not_found e = absurd cc
