-- What the halves of a run keep from command to command.
use Rattle.std.proofs.{Common.{ℕ, ◌≡◌, ◌≢◌, ◌-◌, ◌^◌, ◌≤◌, ◌<◌, ◌⊎◌, inl, inr, refl, sym, ◌∙◌, ap, subst, arith, nat_le, if◌then◌else◌, Bool, true, false, List, [], length, take, drop, Option, Some, IfSome, IfOk, IfErr, Result, Ok, Err}, lemmas.List.{take_all, drop_all}, lemmas.Bool.cases_lt, lemmas.Bool.Decides.nat_tests}
use Rattle.std.specs.Io.KnownBytes.{Consumes}
use Rattle.peer_run.specs.{Names.{SourceView, HasCause, Spends, spent, Received, IsReceived, received_bytes, IsReadRefusal, Error, IoKind}, Runs.{Takes, TakesFront, IsRest}}
use Rattle.peer_run.proofs.Following.{if_it_is}
use Rattle.wire_framing.specs.Kept.{TakesKept, rest_of}

-- ---- a read

-- all that came is the front's own
all_own : (got own : List ℕ) → (got ≡ []) ⊎ (length got ≤ spent got) → own ≡ take (spent got) got → got ≡ own
all_own got own (inl none) is = sym (is ∙ take_all (spent got) got (rw none (omega arith)))
all_own got own (inr fits) is = sym (is ∙ take_all (spent got) got fits)

-- a front's bytes, and no more, are gone from the source
takes_front : (seq : ℕ) (got : Received) (kept' : List ℕ) (old new : SourceView) → seq ≤ 2 ^ 64 - 1 → (seq ≡ 2 ^ 64 - 1 → Ok got ≡ Err (Error.InputOutput IoKind.Ended))
    → (seq < 2 ^ 64 - 1 → TakesKept (Ok got) [] kept' old new) → TakesFront (received_bytes got) old new
takes_front seq got kept' old new within last takes =
    let below : seq ≢ 2 ^ 64 - 1 = λ e. let z = last e in cc in
    let t = takes (omega (arith, within, below)) in
    (subst (Consumes old.left new.left) (all_own t.got (received_bytes got) t.own t.message) t.came.0, t.came.1, t.came.2)

pub takes_own : (seq : ℕ) (result : Result Received Error) (kept' : List ℕ) (old new : SourceView) → seq ≤ 2 ^ 64 - 1 → (seq ≡ 2 ^ 64 - 1 → result ≡ Err (Error.InputOutput IoKind.Ended))
    → (seq < 2 ^ 64 - 1 → TakesKept result [] kept' old new) → IfOk result (IsReceived seq) → IfErr result (λ e. IsReadRefusal e × HasCause e old new)
    → Takes seq result old new
takes_own seq (Ok got) kept' old new within last takes front error = (front, takes_front seq got kept' old new within last takes)
takes_own seq (Err e) kept' old new within last takes front error = error

none_behind : (got : List ℕ) → (got ≡ []) ⊎ (length got ≤ spent got) → drop (spent got) got ≡ []
none_behind got (inl none) = drop_all (spent got) got (rw none (omega arith))
none_behind got (inr fits) = drop_all (spent got) got fits

rest_is : {A : Type 0} (result : Result A Error) (all : List ℕ) → result ≢ Err Error.Memory → rest_of result all ≡ drop (spent all) all
rest_is (Ok x) all never = refl
rest_is (Err Error.Memory) all never = absurd (never refl)
rest_is (Err e) all never = refl

-- nothing is kept again, but for want of memory
pub keeps_none : (seq : ℕ) (result : Result Received Error) (kept' : List ℕ) (old new : SourceView) → result ≢ Err Error.Memory → seq ≤ 2 ^ 64 - 1 → (seq ≡ 2 ^ 64 - 1 → kept' ≡ [])
    → (seq < 2 ^ 64 - 1 → TakesKept result [] kept' old new) → kept' ≡ []
keeps_none seq result kept' old new never within last takes =
    elim (cases_lt seq (2 ^ 64 - 1)) as (λ _. kept' ≡ []) [
      | inl below ↦ let t = takes below in t.behind ∙ rest_is result t.got never ∙ none_behind t.got t.own
      | inr above ↦ last (omega (arith, above, within))
    ]

-- ---- what is left

lost_some : (seq : ℕ) (bytes : List ℕ) → 0 < seq → seq < 2 ^ 64 - 1 → (if nat_le (2 ^ 64 - 2) (seq - 1) then 0 else spent bytes) ≡ spent bytes
lost_some seq bytes some below =
    let e : nat_le (2 ^ 64 - 2) (seq - 1) ≡ false = grind (arith, nat_tests) in ap (λ b. if b then 0 else spent bytes) e

lost_none : (seq : ℕ) (bytes : List ℕ) → seq ≡ 2 ^ 64 - 1 → (if nat_le (2 ^ 64 - 2) (seq - 1) then 0 else spent bytes) ≡ 0
lost_none seq bytes last =
    let e : nat_le (2 ^ 64 - 2) (seq - 1) ≡ true = grind (arith, nat_tests) in ap (λ b. if b then 0 else spent bytes) e

behind_it : (seq : ℕ) (bytes : List ℕ) (left' : Option (List ℕ)) → 0 < seq → seq < 2 ^ 64 - 1 → left' ≡ Some (drop (spent bytes) bytes) → left' ≡ Some (drop ((if nat_le (2 ^ 64 - 2) (seq - 1) then 0 else spent bytes)) bytes)
behind_it seq bytes left' some below e = e ∙ ap (λ n. Some (drop n bytes)) (sym (lost_some seq bytes some below))

-- what a read that found no message took
rest_below : (seq : ℕ) (e : Error) (kept' bytes : List ℕ) (old new : SourceView) → 0 < seq → seq < 2 ^ 64 - 1 → e ≢ Error.Memory → IsReadRefusal e → old.left ≡ Some bytes
    → Spends {A = Received} (Err e) old new → TakesKept (Err e) [] kept' old new → IsRest (Some e) (seq - 1) bytes old.stop new
rest_below seq (Error.InputOutput IoKind.Fault) kept' bytes old new some below never refusal left spends takes = tt
rest_below seq (Error.InputOutput IoKind.Ended) kept' bytes old new some below never refusal left spends takes =
    (behind_it seq bytes new.left some below (subst (λ o. IfSome o (λ bs. new.left ≡ Some (drop (spent bs) bs))) left spends), takes.came.2)
rest_below seq (Error.InputOutput kind) kept' bytes old new some below never refusal left spends takes = absurd refusal
rest_below seq Error.Memory kept' bytes old new some below never refusal left spends takes = absurd (never refl)
rest_below seq e kept' bytes old new some below never refusal left spends takes =
    (behind_it seq bytes new.left some below (subst (λ o. IfSome o (λ bs. new.left ≡ Some (drop (spent bs) bs))) left spends), takes.came.1)

-- where no position is left, it takes nothing
rest_last : (seq : ℕ) (bytes : List ℕ) (stop : Option Bool) (new : SourceView) → seq ≡ 2 ^ 64 - 1 → new.left ≡ Some bytes → new.stop ≡ stop → IsRest (Some (Error.InputOutput IoKind.Ended)) (seq - 1) bytes stop new
rest_last seq bytes stop new last still stays = (still ∙ ap (λ n. Some (drop n bytes)) (sym (lost_none seq bytes last)), stays)

rest_told : (seq : ℕ) (e : Error) (kept' bytes : List ℕ) (old new : SourceView) → 0 < seq → seq ≤ 2 ^ 64 - 1 → e ≢ Error.Memory → IsReadRefusal e
    → (seq ≡ 2 ^ 64 - 1 → (new ≡ old) × (e ≡ Error.InputOutput IoKind.Ended)) → (seq < 2 ^ 64 - 1 → Spends {A = Received} (Err e) old new) → (seq < 2 ^ 64 - 1 → TakesKept (Err e) [] kept' old new)
    → old.left ≡ Some bytes → IsRest (Some e) (seq - 1) bytes old.stop new
rest_told seq e kept' bytes old new some within never refusal last spends takes left =
    elim (cases_lt seq (2 ^ 64 - 1)) as (λ _. IsRest (Some e) (seq - 1) bytes old.stop new) [
      | inl below ↦ rest_below seq e kept' bytes old new some below never refusal left (spends below) (takes below)
      | inr above ↦
          let at : seq ≡ 2 ^ 64 - 1 = omega (arith, above, within) in
          let x = last at in
          subst (λ o. IsRest (Some o) (seq - 1) bytes old.stop new) (sym x.1)
          (rest_last seq bytes old.stop new at (ap (λ (v : SourceView). v.left) x.0 ∙ left) (ap (λ (v : SourceView). v.stop) x.0))
    ]

pub rest_read : (seq : ℕ) (result : Result Received Error) (kept' : List ℕ) (old new : SourceView) → 0 < seq → seq ≤ 2 ^ 64 - 1
    → (seq ≡ 2 ^ 64 - 1 → (new ≡ old) × (result ≡ Err (Error.InputOutput IoKind.Ended))) → (seq < 2 ^ 64 - 1 → Spends result old new) → (seq < 2 ^ 64 - 1 → TakesKept result [] kept' old new)
    → IfErr result (λ e. IsReadRefusal e × HasCause e old new) → IfErr result (λ e. e ≢ Error.Memory → IfSome old.left (λ bytes. IsRest (Some e) (seq - 1) bytes old.stop new))
rest_read seq (Ok got) kept' old new some within last spends takes error = tt
rest_read seq (Err e) kept' old new some within last spends takes error = λ never.
    if_it_is old.left (λ bytes. IsRest (Some e) (seq - 1) bytes old.stop new)
    (λ bytes. rest_told seq e kept' bytes old new some within never error.0 (λ at. let x = last at in (x.0, let is : e ≡ Error.InputOutput IoKind.Ended = cc (x.1) in is)) spends takes)
