-- What a reader of some bytes finds at their front, and what it refuses, is what the header grammar says.
use Rattle.std.proofs.Common.{◌≡◌, ◌⊎◌, inl, inr, ℕ, ◌<◌, ◌≤◌, Bool, true, false, List, length, slice_index, Option, Some, None, Result, Ok, Err, refl, sym, ◌∙◌, ap, subst, arith}
use Rattle.std.specs.Prelude.{◌↔◌}
use Rattle.std.proofs.lemmas.Bool.{cases_lt}
use Rattle.std.proofs.lemmas.Bool.Decides.{nat_tests}
use Rattle.wire_number.proofs.Numbers.{IsBytes}
use Rattle.wire_message.specs.Field.{Fields}
use Rattle.wire_message.specs.Front.{MessageView, order_at, total}
use Rattle.wire_message.specs.Outcome.{kind_of, is_order, is_refused, head_fault, fields_found, received_by, front_outcome, IsUnplaced, StandsOn}
use Rattle.wire_message.specs.declared.received.Received.{Received}
use Rattle.wire_message.specs.declared.received.Received.TheVariants.{Message, Passed}
use Rattle.wire_message.specs.Refusal.{NamesOrder, IsSound, IsGoodHead, HasNoFront, IsRefused}
use Rattle.wire_message.specs.declared.kind.MessageType.{MessageType}
use Rattle.wire_message.specs.declared.error.Error.{Error}
use Rattle.wire_message.specs.declared.error.Error.TheVariants as errors
use Rattle.wire_message.specs.declared.error.IoKind.TheVariants as kinds
use Rattle.wire_signature.specs.declared.error.VariantError.TheVariants as faults
use Rattle.wire_message.proofs.Grammar.{order-named, order-right, front-found, front_outcome-found, front_outcome-again, unplaced, unplaced-is, outcome-made, ok_is}

either : (b : Bool) → (b ≡ true) ⊎ (b ≡ false)
either true = inl refl
either false = inr refl

err_is : (a b : Error) → ◌≡◌ {A = Result Received Error} (Err a) (Err b) → a ≡ b
err_is a b e = cc

-- ---- the parts of a head

order-there : (bytes : List ℕ) → is_order (slice_index bytes 0) ≡ true → NamesOrder bytes
order-there bytes e = (order_at bytes, order-named bytes e)

order-lacks : (bytes : List ℕ) → is_order (slice_index bytes 0) ≡ false → NamesOrder bytes → ⊥
order-lacks bytes e n = let r = order-right bytes n.0 n.1 in absurd cc

not-order : (bytes : List ℕ) → (NamesOrder bytes → ⊥) → is_order (slice_index bytes 0) ≡ false
not-order bytes n = elim (either (is_order (slice_index bytes 0))) as (λ _. is_order (slice_index bytes 0) ≡ false) [ inl e ↦ absurd (n (order-there bytes e)) | inr e ↦ e ]

sound-there : (bytes : List ℕ) → is_refused bytes ≡ false → IsSound bytes
sound-there bytes e = (grind (arith, nat_tests), grind (arith, nat_tests))

sound-right : (bytes : List ℕ) → IsSound bytes → is_refused bytes ≡ false
sound-right bytes s = let type = s.0 in let serial = s.1 in grind (arith, nat_tests)

not-sound : (bytes : List ℕ) → (IsSound bytes → ⊥) → is_refused bytes ≡ true
not-sound bytes n = elim (either (is_refused bytes)) as (λ _. is_refused bytes ≡ true) [ inl e ↦ e | inr e ↦ absurd (n (sound-there bytes e)) ]

unsound-lacks : (bytes : List ℕ) → is_refused bytes ≡ true → IsSound bytes → ⊥
unsound-lacks bytes e s = let r = sound-right bytes s in absurd cc

-- ---- what is found, by them

too-short : (bytes : List ℕ) → length bytes < 16 → front_outcome bytes kinds.Ended ≡ Err (errors.InputOutput kinds.Ended)
too-short bytes h = grind (arith, nat_tests)

wrong-order : (bytes : List ℕ) → 16 ≤ length bytes → is_order (slice_index bytes 0) ≡ false → front_outcome bytes kinds.Ended ≡ Err errors.IncorrectEndian
wrong-order bytes h e = grind (arith, nat_tests)

unsound : (bytes : List ℕ) → 16 ≤ length bytes → is_order (slice_index bytes 0) ≡ true → is_refused bytes ≡ true
    → front_outcome bytes kinds.Ended ≡ Err (errors.Variant faults.Malformed)
unsound bytes h e r = grind (arith, nat_tests)

too-long : (bytes : List ℕ) → 16 ≤ length bytes → is_order (slice_index bytes 0) ≡ true → is_refused bytes ≡ false → 134217728 < total bytes
    → front_outcome bytes kinds.Ended ≡ Err errors.ExcessData
too-long bytes h e r l = grind (arith, nat_tests)

no-fault : (bytes : List ℕ) → is_order (slice_index bytes 0) ≡ true → is_refused bytes ≡ false → total bytes ≤ 134217728 → head_fault bytes ≡ None
no-fault bytes e r l = grind (arith, nat_tests)

too-few : (bytes : List ℕ) → 16 ≤ length bytes → head_fault bytes ≡ None → length bytes < total bytes
    → front_outcome bytes kinds.Ended ≡ Err (errors.InputOutput kinds.Ended)
too-few bytes h r l = grind (arith, nat_tests)

malformed-is : (bytes : List ℕ) (k : Option MessageType) (r : Option Fields) (e : Error) → received_by bytes k r ≡ Err e → errors.Variant faults.Malformed ≡ e
malformed-is bytes None None e h = cc
malformed-is bytes (Some k) None e h = cc
malformed-is bytes None (Some r) e h = absurd cc
malformed-is bytes (Some k) (Some r) e h = absurd cc

received-none : (bytes : List ℕ) (k : Option MessageType) (f : Option Fields) → ((r : Received) → received_by bytes k f ≡ Ok r → ⊥)
    → received_by bytes k f ≡ Err (errors.Variant faults.Malformed)
received-none bytes None None n = refl
received-none bytes (Some k) None n = refl
received-none bytes None (Some f) n = absurd (n _ refl)
received-none bytes (Some k) (Some f) n = absurd (n _ refl)

-- ---- what is refused

no-front : (bytes : List ℕ) (e : Error) → front_outcome bytes kinds.Ended ≡ Err e → HasNoFront bytes
no-front bytes e is r f = let again = front_outcome-again bytes kinds.Ended r (total bytes) f in absurd cc

by-length : (bytes : List ℕ) (e : Error) → IsGoodHead bytes → head_fault bytes ≡ None → front_outcome bytes kinds.Ended ≡ Err e → IsRefused bytes e
by-length bytes e good right is =
    elim (cases_lt (length bytes) (total bytes)) as (λ _. IsRefused bytes e) [
      | inl few ↦ subst (IsRefused bytes) (err_is _ _ (sym (too-few bytes good.0 right few) ∙ is)) (inr (good, few))
      | inr there ↦
          subst (IsRefused bytes) (malformed-is bytes _ _ e (sym (outcome-made bytes kinds.Ended good.0 right there) ∙ is)) (inr (good, there, no-front bytes e is))
    ]

by-limit : (bytes : List ℕ) (e : Error) → 16 ≤ length bytes → is_order (slice_index bytes 0) ≡ true → is_refused bytes ≡ false → front_outcome bytes kinds.Ended ≡ Err e → IsRefused bytes e
by-limit bytes e long named sound is =
    elim (cases_lt 134217728 (total bytes)) as (λ _. IsRefused bytes e) [
      | inl more ↦ subst (IsRefused bytes) (err_is _ _ (sym (too-long bytes long named sound more) ∙ is)) (long, order-there bytes named, sound-there bytes sound, more)
      | inr within ↦ by-length bytes e (long, order-there bytes named, sound-there bytes sound, within) (no-fault bytes named sound within) is
    ]

by-sound : (bytes : List ℕ) (e : Error) → 16 ≤ length bytes → is_order (slice_index bytes 0) ≡ true → front_outcome bytes kinds.Ended ≡ Err e → IsRefused bytes e
by-sound bytes e long named is =
    elim (either (is_refused bytes)) as (λ _. IsRefused bytes e) [
      | inl bad ↦ subst (IsRefused bytes) (err_is _ _ (sym (unsound bytes long named bad) ∙ is)) (inl (long, order-there bytes named, unsound-lacks bytes bad))
      | inr sound ↦ by-limit bytes e long named sound is
    ]

by-order : (bytes : List ℕ) (e : Error) → 16 ≤ length bytes → front_outcome bytes kinds.Ended ≡ Err e → IsRefused bytes e
by-order bytes e long is =
    elim (either (is_order (slice_index bytes 0))) as (λ _. IsRefused bytes e) [
      | inl named ↦ by-sound bytes e long named is
      | inr unnamed ↦ subst (IsRefused bytes) (err_is _ _ (sym (wrong-order bytes long unnamed) ∙ is)) (long, order-lacks bytes unnamed)
    ]

refused-of : (bytes : List ℕ) (e : Error) → front_outcome bytes kinds.Ended ≡ Err e → IsRefused bytes e
refused-of bytes e is =
    elim (cases_lt (length bytes) 16) as (λ _. IsRefused bytes e) [
      | inl short ↦ subst (IsRefused bytes) (err_is _ _ (sym (too-short bytes short) ∙ is)) (inl short)
      | inr long ↦ by-order bytes e long is
    ]

good-fault : (bytes : List ℕ) → IsGoodHead bytes → head_fault bytes ≡ None
good-fault bytes g = no-fault bytes (order-right bytes g.1.0 g.1.1) (sound-right bytes g.2) g.3

told-of : (bytes : List ℕ) (e : Error) → IsBytes bytes → IsRefused bytes e → front_outcome bytes kinds.Ended ≡ Err e
told-of bytes (errors.InputOutput kinds.Ended) fits (inl short) = too-short bytes short
told-of bytes (errors.InputOutput kinds.Ended) fits (inr p) = too-few bytes p.0.0 (good-fault bytes p.0) p.1
told-of bytes errors.IncorrectEndian fits h = wrong-order bytes h.0 (not-order bytes h.1)
told-of bytes (errors.Variant faults.Malformed) fits (inl h) = unsound bytes h.0 (order-right bytes h.1.0 h.1.1) (not-sound bytes h.2)
told-of bytes (errors.Variant faults.Malformed) fits (inr h) =
    let right = good-fault bytes h.0 in
    outcome-made bytes kinds.Ended h.0.0 right h.1
    ∙ received-none bytes (kind_of (slice_index bytes 1)) (fields_found bytes) (λ r is. h.2 r (front-found bytes r fits h.0.0 h.1 right is))
told-of bytes errors.ExcessData fits h = too-long bytes h.0 (order-right bytes h.1.0 h.1.1) (sound-right bytes h.2) h.3
told-of bytes other fits h = absurd h

pub refusals : (bytes : List ℕ) (e : Error) → IsBytes bytes → (front_outcome bytes kinds.Ended ≡ Err e) ↔ IsRefused bytes e
refusals bytes e fits = (refused-of bytes e, told-of bytes e fits)

-- ---- what is found

position-none : (r s : Received) → r ≡ unplaced s → IsUnplaced r
position-none (Message m) (Message k) e = let same : m ≡ record k { position = 0 } = cc in ap (λ (x : MessageView). x.position) same
position-none (Message m) (Passed front) e = absurd cc
position-none (Passed front) s e = tt

found-of : (bytes : List ℕ) (r : Received) → IsBytes bytes → front_outcome bytes kinds.Ended ≡ Ok r → StandsOn bytes r (total bytes) × IsUnplaced r
found-of bytes r fits e =
    let f = front_outcome-found bytes kinds.Ended r fits e in
    (f, position-none r r (ok_is r (unplaced r) (sym e ∙ front_outcome-again bytes kinds.Ended r (total bytes) f)))

again-of : (bytes : List ℕ) (r : Received) → StandsOn bytes r (total bytes) × IsUnplaced r → front_outcome bytes kinds.Ended ≡ Ok r
again-of bytes r p = front_outcome-again bytes kinds.Ended r (total bytes) p.0 ∙ ap Ok (unplaced-is r p.1)

pub fronts : (bytes : List ℕ) (r : Received) → IsBytes bytes → (front_outcome bytes kinds.Ended ≡ Ok r) ↔ (StandsOn bytes r (total bytes) × IsUnplaced r)
fronts bytes r fits = (found-of bytes r fits, again-of bytes r)
