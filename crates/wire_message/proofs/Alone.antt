-- Bytes that are one message.
use Rattle.std.proofs.Common.{◌≡◌, ℕ, ◌≤◌, List, length, take, slice_index, Result, Ok, Err, refl, sym, ◌∙◌, ap, subst, arith}
use Rattle.std.specs.Prelude.{◌≢◌}
use Rattle.std.proofs.lemmas.Bool.Decides.{nat_tests}
use Rattle.std.proofs.lemmas.List.{length-take-le}
use Rattle.wire_number.specs.declared.endian.Endian.{Endian}
use Rattle.wire_number.proofs.Numbers.{IsBytes}
use Rattle.wire_message.specs.Front.{MessageView, order_code, total, Front, IgnoredFront}
use Rattle.wire_message.specs.Outcome.{front_outcome, received_bytes, Tells}
use Rattle.wire_message.specs.Refusal.{IsRefused}
use Rattle.wire_message.specs.Whole.{alone, message_in, whole_outcome}
use Rattle.wire_message.specs.declared.received.Received.{Received}
use Rattle.wire_message.specs.declared.received.Received.TheVariants.{Message, Passed}
use Rattle.wire_message.specs.declared.error.Error.{Error}
use Rattle.wire_message.specs.declared.error.Error.TheVariants as errors
use Rattle.wire_message.specs.declared.error.IoKind.TheVariants as kinds
use Rattle.wire_message.proofs.Grammar.{front_outcome-found, front_outcome-again, ok_is}
use Rattle.wire_message.proofs.Refused.{refusals}

codes-differ : (a b : Endian) (n : ℕ) → n ≡ order_code a → n ≡ order_code b → a ≡ b
codes-differ a b n e f = grind (arith, nat_tests)

message-ok : (r : Received) (m : MessageView) → message_in r ≡ Ok m → r ≡ Message m
message-ok (Message k) m e = ap Message (ok_is k m e)
message-ok (Passed front) m e = absurd cc

alone-ok : (bytes : List ℕ) (o : Result Received Error) (m : MessageView) → alone bytes o ≡ Ok m → (o ≡ Ok (Message m)) × (length m.bytes ≡ length bytes)
alone-ok bytes (Err error) m e = absurd cc
alone-ok bytes (Ok r) m e =
    let found : message_in r ≡ Ok m = grind (arith, nat_tests) in
    let long : length (received_bytes r) ≡ length bytes = grind (arith, nat_tests) in
    let same = message-ok r m found in
    (ap Ok same, sym (ap (λ (x : Received). length (received_bytes x)) same) ∙ long)

-- a message that fills the bytes
fills : (order : Endian) (bytes : List ℕ) (m : MessageView) → slice_index bytes 0 ≡ order_code order → length m.bytes ≡ length bytes → Front bytes m (total bytes)
    → Front bytes m (length bytes) × (m.order ≡ order)
fills order bytes m o l f =
    let n : total bytes ≡ length bytes = sym (length-take-le (total bytes) bytes f.there) ∙ sym (ap length f.own) ∙ l in
    (subst (λ (k : ℕ). Front bytes m k) n f, codes-differ m.order order (slice_index bytes 0) f.order o)

pub whole-found : (order : Endian) (bytes : List ℕ) (m : MessageView) → IsBytes bytes → whole_outcome order bytes ≡ Ok m → Front bytes m (length bytes) × (m.order ≡ order)
whole-found order bytes m fits e =
    let found : alone bytes (front_outcome bytes kinds.Ended) ≡ Ok m = grind (arith, nat_tests) in
    let w = alone-ok bytes (front_outcome bytes kinds.Ended) m found in
    fills order bytes m (grind (arith, nat_tests)) w.1 (front_outcome-found bytes kinds.Ended (Message m) fits w.0)

-- bytes that begin as the order says, and are all of one front
whole-of : (order : Endian) (bytes : List ℕ) (r : Received) → 16 ≤ length bytes → slice_index bytes 0 ≡ order_code order → length (received_bytes r) ≡ length bytes
    → front_outcome bytes kinds.Ended ≡ Ok r → whole_outcome order bytes ≡ message_in r
whole-of order bytes r head first long found = grind (arith, nat_tests)

pub whole-again : (order : Endian) (bytes : List ℕ) (m : MessageView) → m.position ≡ 0 → m.order ≡ order → Front bytes m (length bytes) → whole_outcome order bytes ≡ Ok m
whole-again order bytes m p o f =
    let found : front_outcome bytes kinds.Ended ≡ Ok (Message m) =
    front_outcome-again bytes kinds.Ended (Message m) (length bytes) f ∙ ap (λ (q : ℕ). Ok (Message (record m { position = q }))) (sym p) in
    whole-of order bytes (Message m) f.head (f.order ∙ ap order_code o) (ap length f.own ∙ length-take-le (length bytes) bytes f.there) found

pub whole-ignored : (order : Endian) (bytes : List ℕ) → slice_index bytes 0 ≡ order_code order → IgnoredFront bytes (length bytes) → whole_outcome order bytes ≡ Err errors.Unsupported
whole-ignored order bytes first f =
    let front : List ℕ = take (length bytes) bytes in
    whole-of order bytes (Passed front) f.head first (length-take-le (length bytes) bytes f.there) (front_outcome-again bytes kinds.Ended (Passed front) (length bytes) (f, refl))

-- what was received of bytes that are refused as unsupported
unsupported-by : (bytes : List ℕ) (o : Result Received Error) → alone bytes o ≡ Err errors.Unsupported → ((error : Error) → o ≡ Err error → error ≢ errors.Unsupported)
    → (front : List ℕ) × (o ≡ Ok (Passed front)) × (length front ≡ length bytes)
unsupported-by bytes (Err error) e n = let same : error ≡ errors.Unsupported = cc in absurd (n error refl same)
unsupported-by bytes (Ok (Message m)) e n = absurd (grind (arith, nat_tests))
unsupported-by bytes (Ok (Passed front)) e n = (front, refl, grind (arith, nat_tests))

not_unsupported : (bytes : List ℕ) (error : Error) → IsRefused bytes error → error ≢ errors.Unsupported
not_unsupported bytes errors.Unsupported r e = absurd r
not_unsupported bytes error r e = cc

pub ignored-found : (order : Endian) (bytes : List ℕ) → IsBytes bytes → whole_outcome order bytes ≡ Err errors.Unsupported → IgnoredFront bytes (length bytes)
ignored-found order bytes fits e =
    let found : alone bytes (front_outcome bytes kinds.Ended) ≡ Err errors.Unsupported = grind (arith, nat_tests) in
    let u = unsupported-by bytes (front_outcome bytes kinds.Ended) found (λ error is. not_unsupported bytes error ((refusals bytes error fits).0 is)) in
    let f = front_outcome-found bytes kinds.Ended (Passed u.0) fits u.1 in
    let n : total bytes ≡ length bytes = omega (arith, length-take-le (total bytes) bytes f.0.there, ap length f.1, u.2) in
    subst (λ (k : ℕ). IgnoredFront bytes k) n f.0

-- what is answered of bytes that are one ignored front
told_unsupported : (r o : Result MessageView Error) → Tells (λ x. x) r o → r ≡ Err errors.Unsupported → o ≡ Err errors.Unsupported
told_unsupported (Err errors.Unsupported) o t e = t
told_unsupported r o t e = absurd cc

pub unsupported_of : (order : Endian) (bytes : List ℕ) (r : Result MessageView Error) → IsBytes bytes → Tells (λ x. x) r (whole_outcome order bytes) → r ≡ Err errors.Unsupported
    → IgnoredFront bytes (length bytes)
unsupported_of order bytes r fits t e = ignored-found order bytes fits (told_unsupported r (whole_outcome order bytes) t e)

pub ignored_of : (order : Endian) (bytes : List ℕ) (r : Result MessageView Error) → Tells (λ x. x) r (whole_outcome order bytes) → IgnoredFront bytes (length bytes)
    → slice_index bytes 0 ≡ order_code order → Tells {A = MessageView} {B = MessageView} (λ x. x) r (Err errors.Unsupported)
ignored_of order bytes r t f first = subst (λ (o : Result MessageView Error). Tells (λ x. x) r o) (whole-ignored order bytes first f) t

pub ruleset wholes = (whole-found, whole-again)
