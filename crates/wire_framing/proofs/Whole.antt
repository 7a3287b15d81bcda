-- What a read answers, from its steps.
use Rattle.std.proofs.Common.{ℕ, ◌≡◌, ◌≢◌, ◌+◌, ◌-◌, ◌<◌, ◌≤◌, ◌^◌, ◌⊎◌, min, inl, inr, Bool, true, false, nat_le, nat_lt, not, if◌then◌else◌, List, ◌++◌, length, drop, Option, Some, None, IfSome, Result, Ok, Err, refl, sym, ap, ◌∙◌, subst, arith, length-append, slice_index}
use Rattle.std.proofs.lemmas.Bool.Decides.{nat_tests}
use Rattle.std.specs.Prelude.{is_some}
use Rattle.std.proofs.Math.Seq.{drop-append_seam}
use Rattle.std.specs.Io.KnownBytes.{Consumes}
use Rattle.wire_framing.specs.Views.{SourceView}
use Rattle.wire_framing.specs.Receive.{HasCause, Receives, spent}
use Rattle.wire_framing.proofs.Fronts.{cond_either, cond_true, cond_false, less_true, less_false, front-append, head_fault-append, total-append}
use Rattle.wire_message.specs.Front.{total}
use Rattle.wire_message.specs.Outcome.{is_order, is_refused, head_fault, front_outcome, placed, outcome, Tells, ending_of, IsReadRefusal}
use Rattle.wire_message.specs.declared.received.Received.{Received}
use Rattle.wire_message.specs.declared.error.Error.{Error}
use Rattle.wire_message.specs.declared.error.Error.TheVariants as errors
use Rattle.wire_message.specs.declared.error.IoKind.{IoKind}
use Rattle.wire_message.specs.declared.error.IoKind.TheVariants as kinds
use Rattle.wire_signature.specs.declared.error.VariantError.TheVariants as faults

-- What stands at the front of the bytes left, where these are told, is this error. Where nothing is told of a failing
-- call, one may come at any time.
abbrev pub FrontFails : Error → Option Bool → List ℕ → Type 0
FrontFails e (Some stop) bytes = Tells {A = Received} {B = Received} (λ r. r) (Err e) (front_outcome bytes (ending_of stop))
FrontFails e None bytes =
    Tells {A = Received} {B = Received} (λ r. r) (Err e) (front_outcome bytes kinds.Ended) ⊎ (e ≡ errors.InputOutput kinds.Fault)

-- what is left is what stands behind the bytes that a read takes
abbrev pub Behind : Option (List ℕ) → Option (List ℕ) → Type 0
Behind left left' = IfSome left (λ bytes. left' ≡ Some (drop (spent bytes) bytes))

pub spent_all : (xs : List ℕ) → length xs < 16 → spent xs ≡ length xs
unfolding spent
spent_all xs h = cond_true _ _ _ (less_true _ _ h)

pub spent_refused : (xs : List ℕ) (e : Error) → 16 ≤ length xs → head_fault xs ≡ Some e → spent xs ≡ 16
unfolding spent
spent_refused xs e h p = cond_false _ _ _ (less_false _ _ h) ∙ ap (λ o. if is_some o then 16 else min (total xs) (length xs)) p

pub spent_right : (xs : List ℕ) → 16 ≤ length xs → head_fault xs ≡ None → spent xs ≡ min (total xs) (length xs)
unfolding spent
spent_right xs h p = cond_false _ _ _ (less_false _ _ h) ∙ ap (λ o. if is_some o then 16 else min (total xs) (length xs)) p

-- the bytes behind the first
behind_first : (n : ℕ) (first xs ys : List ℕ) → n ≡ length first → xs ≡ first ++ ys → drop n xs ≡ ys
behind_first n first xs ys h e = ap (λ k. drop k xs) h ∙ ap (drop (length first)) e ∙ drop-append_seam first ys

pub refused_behind : (first : List ℕ) (e : Error) (left left' : Option (List ℕ)) → length first ≡ 16 → head_fault first ≡ Some e → Consumes left left' first → Behind left left'
refused_behind first e None left' l p q = tt
refused_behind first e (Some xs) None l p q = absurd q
refused_behind first e (Some xs) (Some ys) l p q =
    let long : 16 ≤ length xs = omega (arith, ap length q ∙ length-append first ys) in
    let same : head_fault xs ≡ Some e = ap head_fault q ∙ head_fault-append first ys (omega arith) ∙ p in
    ap Some (sym (behind_first (spent xs) first xs ys (spent_refused xs e long same ∙ sym l) q))

pub own_behind : (own : List ℕ) (left left' : Option (List ℕ)) → 16 ≤ length own → head_fault own ≡ None → length own ≡ total own → Consumes left left' own → Behind left left'
own_behind own None left' l p w q = tt
own_behind own (Some xs) None l p w q = absurd q
own_behind own (Some xs) (Some ys) l p w q =
    let len : length xs ≡ length own + length ys = ap length q ∙ length-append own ys in
    let all : total xs ≡ total own = ap total q ∙ total-append own ys l in
    let same : head_fault xs ≡ None = ap head_fault q ∙ head_fault-append own ys l ∙ p in
    let least : min (total xs) (length xs) ≡ length own = rw all (omega arith) in
    ap Some (sym (behind_first (spent xs) own xs ys (spent_right xs (omega arith) same ∙ least) q))

-- an error of a read that needs no fault
abbrev pub Fine : Error → Type 0
Fine e = IsReadRefusal e × ((old new : SourceView) → old.faults ≤ new.faults → HasCause e old new)

fine_order : Fine errors.IncorrectEndian
fine_order = (tt, λ old new h. h)

fine_refused : Fine (errors.Variant faults.Malformed)
fine_refused = (tt, λ old new h. h)

fine_excess : Fine errors.ExcessData
fine_excess = (tt, λ old new h. h)

head_fine : (bs : List ℕ) → IfSome (head_fault bs) Fine
head_fine bs =
    let limit = if nat_lt 134217728 (total bs) then Some errors.ExcessData else None in
    let kind = if is_refused bs then Some (errors.Variant faults.Malformed) else limit in
    cond_either (λ o. IfSome o Fine) (not (is_order (slice_index bs 0))) (Some errors.IncorrectEndian) kind fine_order
    (cond_either (λ o. IfSome o Fine) (is_refused bs) (Some (errors.Variant faults.Malformed)) limit fine_refused
    (cond_either (λ o. IfSome o Fine) (nat_lt 134217728 (total bs)) (Some errors.ExcessData) None fine_excess tt))

pub fine_head : (bs : List ℕ) (e : Error) → head_fault bs ≡ Some e → Fine e
fine_head bs e p = subst (λ o. IfSome o Fine) p (head_fine bs)

told : (e : Error) (found : Result Received Error) → found ≡ Err e → Tells {A = Received} {B = Received} (λ r. r) (Err e) found
told errors.Memory found p = tt
told (errors.InputOutput k) found p = p
told e found p = p

pub untold : (e : Error) (found : Result Received Error) → Tells {A = Received} {B = Received} (λ r. r) (Err e) found → (e ≡ errors.Memory) ⊎ (found ≡ Err e)
untold errors.Memory found p = inl refl
untold (errors.InputOutput k) found p = inr p
untold e found p = inr p

pub same_fails : (e : Error) (stop : Option Bool) (xs : List ℕ) → ((ending : IoKind) → front_outcome xs ending ≡ Err e) → FrontFails e stop xs
same_fails e None xs h = inl (told e _ (h kinds.Ended))
same_fails e (Some stop) xs h = told e _ (h (ending_of stop))

pub memory_fails : (stop : Option Bool) (left : Option (List ℕ)) → IfSome left (FrontFails errors.Memory stop)
memory_fails stop None = tt
memory_fails None (Some xs) = inl tt
memory_fails (Some stop) (Some xs) = tt

pub ended_fails : (stop : Option Bool) (xs : List ℕ) → stop ≢ Some true → ((ending : IoKind) → front_outcome xs ending ≡ Err (errors.InputOutput ending)) → FrontFails (errors.InputOutput kinds.Ended) stop xs
ended_fails None xs never h = inl (h kinds.Ended)
ended_fails (Some true) xs never h = absurd (never refl)
ended_fails (Some false) xs never h = h kinds.Ended

outcome_below : (count : ℕ) (bytes : List ℕ) (ending : IoKind) → count < 2 ^ 64 - 2 → outcome count bytes ending ≡ placed (count + 1) (front_outcome bytes ending)
unfolding outcome
outcome_below count bytes ending h =
    let below : nat_le (2 ^ 64 - 2) count ≡ false = grind (arith, nat_tests) in
    cond_false _ _ _ below

outcome_above : (count : ℕ) (bytes : List ℕ) (ending : IoKind) → 2 ^ 64 - 2 ≤ count → outcome count bytes ending ≡ Err (errors.InputOutput kinds.Ended)
unfolding outcome
outcome_above count bytes ending h =
    let full : nat_le (2 ^ 64 - 2) count ≡ true = grind (arith, nat_tests) in
    rw full refl

outcome_error : (e : Error) (count : ℕ) (bytes : List ℕ) (ending : IoKind) → count < 2 ^ 64 - 2
    → Tells {A = Received} {B = Received} (λ r. r) (Err e) (front_outcome bytes ending) → Tells {A = Received} {B = Received} (λ r. r) (Err e) (outcome count bytes ending)
outcome_error errors.Memory count bytes ending h p = tt
outcome_error (errors.InputOutput k) count bytes ending h p = outcome_below count bytes ending h ∙ ap (placed (count + 1)) p
outcome_error e count bytes ending h p = outcome_below count bytes ending h ∙ ap (placed (count + 1)) p

error_received : (e : Error) (count : ℕ) (stop : Option Bool) (xs : List ℕ) → count < 2 ^ 64 - 2 → FrontFails e stop xs → Receives stop count xs (Err e)
error_received e count None xs h (inl p) = inl (outcome_error e count xs kinds.Ended h p)
error_received e count None xs h (inr p) = inr (ap Err p)
error_received e count (Some stop) xs h p = outcome_error e count xs (ending_of stop) h p

-- The answer says why the bytes of a front didn't come.
pub whole_failed : (e : Error) (count : ℕ) (stop : Option Bool) (left : Option (List ℕ)) → count < 2 ^ 64 - 2
    → IfSome left (FrontFails e stop) → IfSome left (λ bytes. Receives stop count bytes (Err e))
whole_failed e count stop None h p = tt
whole_failed e count stop (Some xs) h p = error_received e count stop xs h p

-- No message has a position above the last.
full_received : (count : ℕ) (stop : Option Bool) (xs : List ℕ) → 2 ^ 64 - 2 ≤ count → Receives stop count xs (Err (errors.InputOutput kinds.Ended))
full_received count None xs h = inl (outcome_above count xs kinds.Ended h)
full_received count (Some stop) xs h = outcome_above count xs (ending_of stop) h

pub nothing_received : (count : ℕ) (stop : Option Bool) (left : Option (List ℕ)) → 2 ^ 64 - 2 ≤ count
    → IfSome left (λ bytes. Receives stop count bytes (Err (errors.InputOutput kinds.Ended)))
nothing_received count stop None h = tt
nothing_received count stop (Some xs) h = full_received count stop xs h

-- The bytes came, and are neither a message nor an ignored front.
pub front_failed : (own : List ℕ) (e : Error) (left left' : Option (List ℕ)) (stop : Option Bool) → 16 ≤ length own → head_fault own ≡ None → length own ≡ total own
    → Consumes left left' own → (e ≡ errors.Memory) ⊎ (front_outcome own kinds.Ended ≡ Err e) → IfSome left (FrontFails e stop)
front_failed own e left left' stop l p w q (inl m) = subst (λ x. IfSome left (FrontFails x stop)) (sym m) (memory_fails stop left)
front_failed own e None left' stop l p w q (inr m) = tt
front_failed own e (Some xs) None stop l p w q (inr m) = absurd q
front_failed own e (Some xs) (Some ys) stop l p w q (inr m) =
    same_fails e stop xs (λ ending. ap (λ b. front_outcome b ending) q ∙ front-append own ys ending kinds.Ended l p w ∙ m)

-- A message, or an ignored front, came.
front_found : (own xs rest : List ℕ) (r placed_r : Received) (seq : ℕ) (ending : IoKind) → 16 ≤ length own → head_fault own ≡ None → length own ≡ total own
    → xs ≡ own ++ rest → 0 < seq → seq - 1 < 2 ^ 64 - 2 → front_outcome own kinds.Ended ≡ Ok r → placed seq (Ok r) ≡ Ok placed_r → outcome (seq - 1) xs ending ≡ Ok placed_r
front_found own xs rest r placed_r seq ending l p w q s h e at =
    let n : seq - 1 + 1 ≡ seq = omega arith in
    outcome_below (seq - 1) xs ending h ∙ ap (λ b. placed (seq - 1 + 1) (front_outcome b ending)) q
    ∙ ap (placed (seq - 1 + 1)) (front-append own rest ending kinds.Ended l p w ∙ e) ∙ ap (λ k. placed k (Ok r)) n ∙ at

front_received : (own xs rest : List ℕ) (r placed_r : Received) (seq : ℕ) (stop : Option Bool) → 16 ≤ length own → head_fault own ≡ None → length own ≡ total own
    → xs ≡ own ++ rest → 0 < seq → seq - 1 < 2 ^ 64 - 2 → front_outcome own kinds.Ended ≡ Ok r → placed seq (Ok r) ≡ Ok placed_r → Receives stop (seq - 1) xs (Ok placed_r)
front_received own xs rest r placed_r seq None l p w q s h e at = inl (front_found own xs rest r placed_r seq kinds.Ended l p w q s h e at)
front_received own xs rest r placed_r seq (Some stop) l p w q s h e at = front_found own xs rest r placed_r seq (ending_of stop) l p w q s h e at

pub front_told : (own : List ℕ) (r placed_r : Received) (seq : ℕ) (left left' : Option (List ℕ)) (stop : Option Bool) → 16 ≤ length own → head_fault own ≡ None → length own ≡ total own
    → Consumes left left' own → 0 < seq → seq - 1 < 2 ^ 64 - 2 → front_outcome own kinds.Ended ≡ Ok r → placed seq (Ok r) ≡ Ok placed_r
    → IfSome left (λ bytes. Receives stop (seq - 1) bytes (Ok placed_r))
front_told own r placed_r seq None left' stop l p w q s h e at = tt
front_told own r placed_r seq (Some xs) None stop l p w q s h e at = absurd q
front_told own r placed_r seq (Some xs) (Some ys) stop l p w q s h e at = front_received own xs ys r placed_r seq stop l p w q s h e at
