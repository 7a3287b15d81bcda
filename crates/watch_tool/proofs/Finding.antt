-- One read of recorded traffic, from what a half says of it.
use Rattle.std.proofs.Common.{not, ℕ, ◌≡◌, ◌≢◌, ◌+◌, ◌-◌, ◌^◌, ◌≤◌, ◌<◌, ◌⊎◌, inl, inr, refl, sym, ◌∙◌, ap, subst, arith, Bool, true, false, nat_lt, nat_le, slice_index, if◌then◌else◌, List, [], length, take, drop, Option, Some, None, IfSome, IfErr, Result, Ok, Err}
use Rattle.std.proofs.lemmas.List.{take_all, drop_all}
use Rattle.std.proofs.lemmas.Bool.Decides.{nat_tests}
use Rattle.std.proofs.Math.Seq.{drop-append_seam}
use Rattle.std.proofs.KnownBytes.{Consumes-kept}
use Rattle.std.specs.Io.KnownBytes.{Consumes, Keeps, prepend_known}
use Rattle.wire_framing.specs.Views.{SourceView}
use Rattle.wire_framing.specs.Receive.{Receives, HasCause, spent}
use Rattle.wire_framing.specs.Kept.{TakesKept, rest_of}
use Rattle.wire_framing.specs.Source.{MayRise, FailsAt}
use Rattle.wire_framing.proofs.Fronts.{cond_either}
use Rattle.wire_message.specs.Front.{total}
use Rattle.wire_message.specs.Outcome.{outcome, front_outcome, then_received, received_by, received_bytes, placed, head_fault, is_order, is_refused, kind_of, fields_found, ending_of, IsReadRefusal}
use Rattle.wire_number.specs.Limits.{message_limit}
use Rattle.wire_signature.specs.declared.error.VariantError.TheVariants as faults
use Rattle.wire_message.specs.Field.{Fields}
use Rattle.wire_message.specs.declared.kind.MessageType.{MessageType}
use Rattle.wire_message.specs.declared.received.Received.{Received}
use Rattle.wire_message.specs.declared.received.Received.TheVariants.{Message, Passed}
use Rattle.wire_message.specs.declared.error.Error.{Error}
use Rattle.wire_message.specs.declared.error.Error.TheVariants as errors
use Rattle.wire_message.specs.declared.error.IoKind.{IoKind}
use Rattle.wire_message.specs.declared.error.IoKind.TheVariants as kinds
use Rattle.watch_tool.specs.Reading.{TakesPart, Finds}
use Rattle.watch_tool.proofs.Options.{if_it_is}

-- ---- all that came is the front's own

all_own : (got own : List ℕ) → (got ≡ []) ⊎ (length got ≤ spent got) → own ≡ take (spent got) got → got ≡ own
all_own got own (inl none) is = sym (is ∙ take_all (spent got) got (rw none (omega arith)))
all_own got own (inr fits) is = sym (is ∙ take_all (spent got) got fits)

none_behind : (got : List ℕ) → (got ≡ []) ⊎ (length got ≤ spent got) → drop (spent got) got ≡ []
none_behind got (inl none) = drop_all (spent got) got (rw none (omega arith))
none_behind got (inr fits) = drop_all (spent got) got fits

rest_is : (result : Result Received Error) (all : List ℕ) → result ≢ Err errors.Memory → rest_of result all ≡ drop (spent all) all
rest_is (Ok r) all never = refl
rest_is (Err errors.Memory) all never = absurd (never refl)
rest_is (Err e) all never = refl

-- nothing is kept again, unless memory ran out
pub keeps_none : (result : Result Received Error) (kept' : List ℕ) (old new : SourceView) → result ≢ Err errors.Memory → TakesKept result [] kept' old new → kept' ≡ []
keeps_none result kept' old new never t = t.behind ∙ rest_is result t.got never ∙ none_behind t.got t.own

-- ---- the ending

-- the error isn't that the bytes end, in whatever way
abbrev IsNoEnding : Error → Type 0
IsNoEnding error = (kind : IoKind) → error ≢ errors.InputOutput kind

-- What is found is the ending, whichever comes; or it is the same whichever comes, and no ending.
abbrev Cases : (IoKind → Result Received Error) → Type 0
Cases f =
    ((ending : IoKind) → f ending ≡ Err (errors.InputOutput ending))
    ⊎ (((ending : IoKind) → f ending ≡ f kinds.Ended) × ((kind : IoKind) → f kinds.Ended ≢ Err (errors.InputOutput kind)))

if_short : (short : Bool) (f : IoKind → Result Received Error) → Cases f → Cases (λ ending. if short then Err (errors.InputOutput ending) else f ending)
if_short true f c = inl (λ ending. refl)
if_short false f c = c

-- no head is refused by an ending
order_no_ending : IsNoEnding errors.IncorrectEndian
order_no_ending kind = λ is. cc

malformed_no_ending : IsNoEnding (errors.Variant faults.Malformed)
malformed_no_ending kind = λ is. cc

excess_no_ending : IsNoEnding errors.ExcessData
excess_no_ending kind = λ is. cc

head_no_ending : (bytes : List ℕ) → IfSome (head_fault bytes) IsNoEnding
head_no_ending bytes =
    let limit = if nat_lt message_limit (total bytes) then Some errors.ExcessData else None in
    let kind = if is_refused bytes then Some (errors.Variant faults.Malformed) else limit in
    cond_either (λ o. IfSome o IsNoEnding) (not (is_order (slice_index bytes 0))) (Some errors.IncorrectEndian) kind order_no_ending
    (cond_either (λ o. IfSome o IsNoEnding) (is_refused bytes) (Some (errors.Variant faults.Malformed)) limit malformed_no_ending
    (cond_either (λ o. IfSome o IsNoEnding) (nat_lt message_limit (total bytes)) (Some errors.ExcessData) None excess_no_ending tt))

found_no_ending : (bytes : List ℕ) (kind : Option MessageType) (fields : Option Fields) (io : IoKind) → received_by bytes kind fields ≢ Err (errors.InputOutput io)
found_no_ending bytes (Some kind) (Some fields) io = λ is. cc
found_no_ending bytes None (Some fields) io = λ is. cc
found_no_ending bytes (Some kind) None io = λ is. cc
found_no_ending bytes None None io = λ is. cc

then_cases : (bytes : List ℕ) (fault : Option Error) → IfSome fault IsNoEnding → Cases (λ ending. then_received bytes ending fault)
then_cases bytes (Some e) never = inr (λ ending. refl, λ kind. λ is. let same : e ≡ errors.InputOutput kind = cc in never kind same)
then_cases bytes None never =
    if_short (nat_lt (length bytes) (total bytes)) (λ ending. received_by bytes (kind_of (slice_index bytes 1)) (fields_found bytes))
    (inr (λ ending. refl, found_no_ending bytes (kind_of (slice_index bytes 1)) (fields_found bytes)))

front_cases : (bytes : List ℕ) → Cases (λ ending. front_outcome bytes ending)
front_cases bytes =
    if_short (nat_lt (length bytes) 16) (λ ending. then_received bytes ending (head_fault bytes)) (then_cases bytes (head_fault bytes) (head_no_ending bytes))

placed_ending : (position : ℕ) (found : Result Received Error) (kind : IoKind) → placed position found ≡ Err (errors.InputOutput kind) → found ≡ Err (errors.InputOutput kind)
placed_ending position (Ok (Message m)) kind is = cc
placed_ending position (Ok (Passed front)) kind is = cc
placed_ending position (Err e) kind is = is

below : (count : ℕ) (bytes : List ℕ) (ending : IoKind) → count < 2 ^ 64 - 2 → outcome count bytes ending ≡ placed (count + 1) (front_outcome bytes ending)
unfolding outcome
below count bytes ending few =
    let room : nat_le (2 ^ 64 - 2) count ≡ false = grind (arith, nat_tests) in
    ap (λ b. if b then Err (errors.InputOutput kinds.Ended) else placed (count + 1) (front_outcome bytes ending)) room

outcome_cases : (count : ℕ) (bytes : List ℕ) → count < 2 ^ 64 - 2 → Cases (λ ending. outcome count bytes ending)
outcome_cases count bytes few = by (front_cases bytes)
  where
    by : Cases (λ ending. front_outcome bytes ending) → Cases (λ ending. outcome count bytes ending)
    by (inl ends) = inl (λ ending. below count bytes ending few ∙ ap (placed (count + 1)) (ends ending))
    by (inr same) = inr (
      λ ending. below count bytes ending few ∙ ap (placed (count + 1)) (same.0 ending) ∙ sym (below count bytes kinds.Ended few),
      λ kind. λ is. same.1 kind (placed_ending (count + 1) (front_outcome bytes kinds.Ended) kind (sym (below count bytes kinds.Ended few) ∙ is)),
    )

-- ---- what is found

-- what is found, without what is left
abbrev Found : Result Received Error → ℕ → List ℕ → Option Bool → Type 0
Found (Ok r) count bytes stop = outcome count bytes kinds.Ended ≡ Ok r
Found (Err errors.Memory) count bytes stop = Unit {0}
Found (Err (errors.InputOutput kinds.Fault)) count bytes stop =
    (stop ≢ Some false) × (stop ≡ Some true → outcome count bytes kinds.Ended ≡ Err (errors.InputOutput kinds.Ended))
Found (Err (errors.InputOutput kinds.Ended)) count bytes stop =
    (stop ≢ Some true) × (outcome count bytes kinds.Ended ≡ Err (errors.InputOutput kinds.Ended))
Found (Err error) count bytes stop = outcome count bytes kinds.Ended ≡ Err error

-- an answer that isn't a fault is the same without one
same_ended : (count : ℕ) (bytes : List ℕ) (r : Result Received Error) → Cases (λ ending. outcome count bytes ending) → r ≢ Err (errors.InputOutput kinds.Fault)
    → outcome count bytes kinds.Fault ≡ r → outcome count bytes kinds.Ended ≡ r
same_ended count bytes r (inl ends) never p = absurd (never (sym p ∙ ends kinds.Fault))
same_ended count bytes r (inr same) never p = sym (same.0 kinds.Fault) ∙ p

fault_ended : (count : ℕ) (bytes : List ℕ) → Cases (λ ending. outcome count bytes ending) → outcome count bytes kinds.Fault ≡ Err (errors.InputOutput kinds.Fault)
    → outcome count bytes kinds.Ended ≡ Err (errors.InputOutput kinds.Ended)
fault_ended count bytes (inl ends) p = ends kinds.Ended
fault_ended count bytes (inr same) p = absurd (same.1 kinds.Fault (sym (same.0 kinds.Fault) ∙ p))

not_both : (r : Result Received Error) → r ≡ Err (errors.InputOutput kinds.Ended) → r ≡ Err (errors.InputOutput kinds.Fault) → ⊥
not_both r p q = cc

never_fault : (count : ℕ) (bytes : List ℕ) → Cases (λ ending. outcome count bytes ending) → outcome count bytes kinds.Ended ≢ Err (errors.InputOutput kinds.Fault)
never_fault count bytes (inl ends) = λ p. not_both (outcome count bytes kinds.Ended) (ends kinds.Ended) p
never_fault count bytes (inr same) = same.1 kinds.Fault

-- where a failing read comes after the bytes, they don't end
never_ended : (count : ℕ) (bytes : List ℕ) → Cases (λ ending. outcome count bytes ending) → outcome count bytes kinds.Fault ≢ Err (errors.InputOutput kinds.Ended)
never_ended count bytes (inl ends) = λ p. not_both (outcome count bytes kinds.Fault) p (ends kinds.Fault)
never_ended count bytes (inr same) = λ p. same.1 kinds.Ended (sym (same.0 kinds.Fault) ∙ p)

ended_or : (found r : Result Received Error) → r ≢ Err (errors.InputOutput kinds.Fault) → (found ≡ r) ⊎ (r ≡ Err (errors.InputOutput kinds.Fault)) → found ≡ r
ended_or found r never (inl p) = p
ended_or found r never (inr is) = absurd (never is)

-- a read's answer, where memory isn't it
abbrev Plain : Option Bool → ℕ → List ℕ → Result Received Error → Type 0
Plain (Some stop) count bytes r = outcome count bytes (ending_of stop) ≡ r
Plain None count bytes r = (outcome count bytes kinds.Ended ≡ r) ⊎ (r ≡ Err (errors.InputOutput kinds.Fault))

plain_found : (r : Result Received Error) (count : ℕ) (bytes : List ℕ) (stop : Option Bool) → count < 2 ^ 64 - 2 → r ≢ Err (errors.InputOutput kinds.Fault)
    → Plain stop count bytes r → outcome count bytes kinds.Ended ≡ r
plain_found r count bytes None few never p = ended_or (outcome count bytes kinds.Ended) r never p
plain_found r count bytes (Some false) few never p = p
plain_found r count bytes (Some true) few never p = same_ended count bytes r (outcome_cases count bytes few) never p

plain_ok : (r : Received) (count : ℕ) (bytes : List ℕ) (stop : Option Bool) → Receives stop count bytes (Ok r) → Plain stop count bytes (Ok r)
plain_ok r count bytes None p = p
plain_ok r count bytes (Some stop) p = p

plain_err : (e : Error) (count : ℕ) (bytes : List ℕ) (stop : Option Bool) → e ≢ errors.Memory → Receives stop count bytes (Err e) → Plain stop count bytes (Err e)
plain_err errors.Memory count bytes stop never p = absurd (never refl)
plain_err e count bytes None never p = p
plain_err e count bytes (Some stop) never p = p

found : (result : Result Received Error) (count : ℕ) (bytes : List ℕ) (stop : Option Bool) → count < 2 ^ 64 - 2 → Receives stop count bytes result → Found result count bytes stop
found (Ok r) count bytes stop few p = plain_found (Ok r) count bytes stop few (λ is. cc) (plain_ok r count bytes stop p)
found (Err errors.Memory) count bytes stop few p = tt
found (Err (errors.InputOutput kinds.Fault)) count bytes None few p = (λ is. cc, λ is. absurd (cc))
found (Err (errors.InputOutput kinds.Fault)) count bytes (Some false) few p = absurd (never_fault count bytes (outcome_cases count bytes few) p)
found (Err (errors.InputOutput kinds.Fault)) count bytes (Some true) few p = (λ is. cc, λ is. fault_ended count bytes (outcome_cases count bytes few) p)
found (Err (errors.InputOutput kinds.Ended)) count bytes None few p =
    (λ is. cc, plain_found (Err (errors.InputOutput kinds.Ended)) count bytes None few (λ is. cc) (plain_err (errors.InputOutput kinds.Ended) count bytes None (λ is. cc) p))
found (Err (errors.InputOutput kinds.Ended)) count bytes (Some false) few p = (λ is. cc, p)
found (Err (errors.InputOutput kinds.Ended)) count bytes (Some true) few p = absurd (never_ended count bytes (outcome_cases count bytes few) p)
found (Err e) count bytes stop few p = plain_found (Err e) count bytes stop few (λ is. cc) (plain_err e count bytes stop (λ is. cc) p)

consumed : (bytes own : List ℕ) (left' : Option (List ℕ)) → Consumes (Some bytes) left' own → left' ≡ Some (drop (length own) bytes)
consumed bytes own None q = absurd q
consumed bytes own (Some ys) q = ap Some (sym (ap (drop (length own)) q ∙ drop-append_seam own ys))

-- ---- what a failed read took

keeps : (stop stop' : Option Bool) (left left' : Option (List ℕ)) → stop ≡ None → FailsAt stop stop' left left' → Keeps left left'
keeps stop stop' left left' none fails = (subst (λ s. FailsAt s stop' left left') none fails).1

within_one : (got : List ℕ) → (got ≡ []) ⊎ (length got ≤ spent got) → length got ≤ spent got
within_one got (inl none) = rw none (omega arith)
within_one got (inr fits) = fits

takes_part : (kept' bytes : List ℕ) (old new : SourceView) → old.left ≡ Some bytes → TakesKept (Err (errors.InputOutput kinds.Fault)) [] kept' old new → old.stop ≡ None
    → TakesPart bytes new.left
takes_part kept' bytes old new left t none = (
  t.got,
  Consumes-kept (Some bytes) t.came.0 new.left t.got (subst (λ o. Consumes o t.came.0 t.got) left t.came.1)
      (keeps old.stop new.stop t.came.0 new.left none t.came.2),
  within_one t.got t.own,
)

pub finds : (result : Result Received Error) (count : ℕ) (kept' bytes : List ℕ) (old new : SourceView) → count < 2 ^ 64 - 2 → old.left ≡ Some bytes
    → Receives old.stop count bytes result → TakesKept result [] kept' old new → Finds result count bytes old new
finds (Ok r) count kept' bytes old new few left p t = (
  found (Ok r) count bytes old.stop few p,
  consumed bytes (received_bytes r) new.left (subst (λ o. Consumes o new.left (received_bytes r)) left (subst (Consumes old.left new.left) (all_own t.got (received_bytes r) t.own t.message) t.came.0)),
  t.came.1,
)
finds (Err errors.Memory) count kept' bytes old new few left p t = tt
finds (Err (errors.InputOutput kinds.Fault)) count kept' bytes old new few left p t =
    let f = found (Err (errors.InputOutput kinds.Fault)) count bytes old.stop few p in
    (f.0, f.1, takes_part kept' bytes old new left t)
finds (Err (errors.InputOutput kinds.Ended)) count kept' bytes old new few left p t = found (Err (errors.InputOutput kinds.Ended)) count bytes old.stop few p
finds (Err e) count kept' bytes old new few left p t = found (Err e) count bytes old.stop few p

pub read_finds : (result : Result Received Error) (count : ℕ) (kept' : List ℕ) (old new : SourceView) → count < 2 ^ 64 - 2
    → IfSome old.left (λ bytes. Receives old.stop count bytes result) → TakesKept result [] kept' old new → IfSome old.left (λ bytes. Finds result count bytes old new)
read_finds result count kept' old new few told t =
    if_it_is old.left (λ bytes. Finds result count bytes old new)
    (λ bytes left. finds result count kept' bytes old new few left (subst (λ o. IfSome o (λ bs. Receives old.stop count bs result)) left told) t)

-- ---- the count of faults

rises : (old new : ℕ) → MayRise old new → old ≤ new
rises old new (inl less) = omega (arith, less)
rises old new (inr most) = omega (arith, most)

pub read_grows : (result : Result Received Error) (kept' : List ℕ) (old new : SourceView) → TakesKept result [] kept' old new → IfErr result (λ e. IsReadRefusal e × HasCause e old new)
    → old.faults ≤ new.faults
read_grows (Ok r) kept' old new t e = t.came.2
read_grows (Err (errors.InputOutput kinds.Fault)) kept' old new t e = rises old.faults new.faults e.1
read_grows (Err x) kept' old new t e = e.1

-- ---- nothing was kept

none_before : (result : Result Received Error) (count : ℕ) (stop : Option Bool) (left : Option (List ℕ)) → IfSome (prepend_known [] left) (λ bytes. Receives stop (count + 1 - 1) bytes result)
    → IfSome left (λ bytes. Receives stop count bytes result)
none_before result count stop None told = tt
none_before result count stop (Some bytes) told = let same : count + 1 - 1 ≡ count = omega arith in subst (λ n. Receives stop n bytes result) same told

pub told_by : (result : Result Received Error) (count : ℕ) (kept : List ℕ) (old : SourceView) → kept ≡ []
    → IfSome (prepend_known kept old.left) (λ bytes. Receives old.stop (count + 1 - 1) bytes result) → IfSome old.left (λ bytes. Receives old.stop count bytes result)
told_by result count kept old none told =
    none_before result count old.stop old.left (subst (λ l. IfSome (prepend_known l old.left) (λ bytes. Receives old.stop (count + 1 - 1) bytes result)) none told)
