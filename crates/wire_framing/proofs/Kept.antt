-- A read of a half, from its steps.
use Rattle.std.proofs.Common.{ℕ, ◌≡◌, ◌+◌, ◌-◌, ◌<◌, ◌≤◌, ◌^◌, ◌⊎◌, inl, inr, Bool, List, [], ◌∷◌, ◌++◌, length, take, drop, Option, Some, None, IfSome, Ok, Err, refl, sym, ap, ◌∙◌, subst, arith, append_assoc, append-nil, length-append, slice_index}
use Rattle.std.proofs.lemmas.List.{length-take-le, take-append-drop}
use Rattle.std.specs.Io.KnownBytes.{Consumes, prepend_known}
use Rattle.wire_framing.specs.Views.{SourceView}
use Rattle.wire_framing.specs.Source.{IsEnd, FailsAt, Asks, GrowsBy}
use Rattle.wire_framing.specs.Receive.{HasCause, Receives, IsReceived, spent}
use Rattle.wire_framing.specs.Kept.{Comes, IsCut, IsThere, ReadsToMessage, rest_of, TakesKept}
use Rattle.wire_framing.proofs.Fronts.{front_short, front_refused, front_cut, front_there, front-append, head_fault-append, total-append, stands_alone}
use Rattle.wire_framing.proofs.Whole.{FrontFails, spent_right, whole_failed, front_failed, fine_head, untold, same_fails, ended_fails, memory_fails, front_told}
use Rattle.wire_message.specs.Front.{MessageView, Front, total}
use Rattle.wire_message.specs.Field.{Fields}
use Rattle.wire_message.specs.Outcome.{kind_of, fields_found, received_by, received_bytes, head_fault, front_outcome, placed, StandsOn, Tells, ending_of, IsReadRefusal}
use Rattle.wire_message.specs.declared.kind.MessageType.{MessageType}
use Rattle.wire_message.specs.declared.received.Received.{Received}
use Rattle.wire_message.specs.declared.received.Received.TheVariants.{Message, Passed}
use Rattle.wire_message.specs.declared.error.Error.{Error}
use Rattle.wire_message.specs.declared.error.Error.TheVariants as errors
use Rattle.wire_message.specs.declared.error.IoKind.{IoKind}
use Rattle.wire_message.specs.declared.error.IoKind.TheVariants as kinds
use Rattle.wire_signature.specs.declared.error.VariantError.TheVariants as faults

-- ---- what is left behind what was kept

prepended : (kept kept' got own : List ℕ) (left left' : Option (List ℕ)) → kept ++ got ≡ own ++ kept' → Consumes left left' got
    → Consumes (prepend_known kept left) (prepend_known kept' left') own
prepended kept kept' got own None left' e q = tt
prepended kept kept' got own (Some xs) None e q = absurd q
prepended kept kept' got own (Some xs) (Some ys) e q =
    ap (λ l. kept ++ l) q ∙ sym (append_assoc kept got ys) ∙ ap (λ l. l ++ ys) e ∙ append_assoc own kept' ys

all_first : (kept got xs ys : List ℕ) → xs ≡ got ++ ys → kept ++ xs ≡ (kept ++ got) ++ ys
all_first kept got xs ys q = ap (λ l. kept ++ l) q ∙ sym (append_assoc kept got ys)

all_of : (kept got xs ys : List ℕ) → xs ≡ got ++ ys → ys ≡ [] → kept ++ xs ≡ kept ++ got
all_of kept got xs ys q e = ap (λ l. kept ++ l) (q ∙ ap (λ l. got ++ l) e ∙ append-nil got)

-- ---- why no front came

cut_front : (bytes : List ℕ) (ending : IoKind) → IsCut bytes → front_outcome bytes ending ≡ Err (errors.InputOutput ending)
cut_front bytes ending (inl short) = front_short bytes ending short
cut_front bytes ending (inr r) = front_cut bytes ending r.0.head r.0.right r.1

told_ended : (kept got : List ℕ) (left left' : Option (List ℕ)) (stop : Option Bool) → IsCut (kept ++ got) → Consumes left left' got → IsEnd left' stop
    → IfSome (prepend_known kept left) (FrontFails (errors.InputOutput kinds.Ended) stop)
told_ended kept got None left' stop cut q end = tt
told_ended kept got (Some xs) None stop cut q end = absurd q
told_ended kept got (Some xs) (Some ys) stop cut q end =
    ended_fails stop (kept ++ xs) end.1 (λ ending. ap (λ l. front_outcome l ending) (all_of kept got xs ys q end.0) ∙ cut_front (kept ++ got) ending cut)

fault_at : (kept got xs : List ℕ) (mid left' : Option (List ℕ)) (stop : Bool) (stop' : Option Bool) → IsCut (kept ++ got) → Consumes (Some xs) mid got
    → FailsAt (Some stop) stop' mid left' → FrontFails (errors.InputOutput kinds.Fault) (Some stop) (kept ++ xs)
fault_at kept got xs None left' stop stop' cut q fails = absurd q
fault_at kept got xs (Some ys) left' stop stop' cut q fails =
    let none : ys ≡ [] = cc (fails.1) in
    subst (λ s. front_outcome (kept ++ xs) (ending_of s) ≡ Err (errors.InputOutput kinds.Fault)) (sym fails.0)
    (ap (λ l. front_outcome l kinds.Fault) (all_of kept got xs ys q none) ∙ cut_front (kept ++ got) kinds.Fault cut)

told_fault : (kept got : List ℕ) (left mid left' : Option (List ℕ)) (stop stop' : Option Bool) → IsCut (kept ++ got) → Consumes left mid got → FailsAt stop stop' mid left'
    → IfSome (prepend_known kept left) (FrontFails (errors.InputOutput kinds.Fault) stop)
told_fault kept got None mid left' stop stop' cut q fails = tt
told_fault kept got (Some xs) mid left' None stop' cut q fails = inr refl
told_fault kept got (Some xs) mid left' (Some stop) stop' cut q fails = fault_at kept got xs mid left' stop stop' cut q fails

told_refused : (e : Error) (kept got : List ℕ) (left left' : Option (List ℕ)) (stop : Option Bool) → 16 ≤ length (kept ++ got) → head_fault (kept ++ got) ≡ Some e
    → Consumes left left' got → IfSome (prepend_known kept left) (FrontFails e stop)
told_refused e kept got None left' stop h p q = tt
told_refused e kept got (Some xs) None stop h p q = absurd q
told_refused e kept got (Some xs) (Some ys) stop h p q =
    let all = all_first kept got xs ys q in
    let long : 16 ≤ length (kept ++ xs) = omega (arith, ap length all ∙ length-append (kept ++ got) ys) in
    same_fails e stop (kept ++ xs) (λ ending. front_refused (kept ++ xs) ending e long (ap head_fault all ∙ head_fault-append (kept ++ got) ys h ∙ p))

told_failed : (e : Error) (kept got : List ℕ) (old new : SourceView) → ReadsToMessage (Err e) (kept ++ got)
    → Comes {A = Unit {0}} (Err e) got old new → IfSome (prepend_known kept old.left) (FrontFails e old.stop)
told_failed (errors.InputOutput kinds.Ended) kept got old new h c = told_ended kept got old.left new.left old.stop h c.0 c.1
told_failed (errors.InputOutput kinds.Fault) kept got old new h c = told_fault kept got old.left c.0 new.left old.stop new.stop h c.1 c.2
told_failed errors.Memory kept got old new h c = memory_fails old.stop (prepend_known kept old.left)
told_failed e kept got old new h c = told_refused e kept got old.left new.left old.stop h.0 h.1 c.0

cause_failed : (e : Error) (bytes got : List ℕ) (old new : SourceView) → ReadsToMessage (Err e) bytes
    → Comes {A = Unit {0}} (Err e) got old new → IsReadRefusal e × HasCause e old new
cause_failed (errors.InputOutput kinds.Ended) bytes got old new h c = (tt, c.3)
cause_failed (errors.InputOutput kinds.Fault) bytes got old new h c = (tt, c.3)
cause_failed errors.Memory bytes got old new h c = (tt, c.2)
cause_failed e bytes got old new h c = let fine = fine_head bytes e h.1 in (fine.0, fine.1 old new c.2)

came_as : (e : Error) (got : List ℕ) (old new : SourceView) → Comes {A = Unit {0}} (Err e) got old new
    → Comes {A = Received} (Err e) got old new
came_as (errors.InputOutput kinds.Ended) got old new c = c
came_as (errors.InputOutput kinds.Fault) got old new c = c
came_as e got old new c = c

no_more : (kept got : List ℕ) → kept ++ got ≡ kept → got ≡ []
no_more kept [] e = refl
no_more kept (b ∷ got) e = absurd (omega (arith, ap length e, length-append kept (b ∷ got)))

grows_more : (a b : Option ℕ) (n m : ℕ) → n ≤ m → GrowsBy a b n → GrowsBy a b m
grows_more None b n m le p = tt
grows_more (Some x) None n m le p = absurd p
grows_more (Some x) (Some y) n m le p = omega (arith, p)

asks_more : (old new : SourceView) (n m : ℕ) → n ≤ m → Asks old new n → Asks old new m
asks_more old new n m le p = grows_more old.asked new.asked n m le p

cause_by : (e : Error) (old new : SourceView) → old.faults ≤ new.faults → (e ≡ errors.Memory) ⊎ (e ≡ errors.Variant faults.Malformed) → IsReadRefusal e × HasCause e old new
cause_by e old new le (inl p) = subst (λ (x : Error). IsReadRefusal x × HasCause x old new) (sym p) (tt, le)
cause_by e old new le (inr p) = subst (λ (x : Error). IsReadRefusal x × HasCause x old new) (sym p) (tt, le)

own_of : (kept mid got : List ℕ) → mid ≡ kept ++ got → (mid ≡ kept) ⊎ (length mid ≤ spent mid) → (got ≡ []) ⊎ (length (kept ++ got) ≤ spent (kept ++ got))
own_of kept mid got e (inl p) = inl (no_more kept got (sym e ∙ p))
own_of kept mid got e (inr p) = inr (subst (λ l. length l ≤ spent l) e p)

-- where there was memory, what a read consumes was taken away
pub discarded : (e : Error) (old new : List ℕ) → (e ≡ errors.Memory → ⊥) → new ≡ drop (spent old) old → new ≡ rest_of {A = Received} (Err e) old
discarded errors.Memory old new m s = absurd (m refl)
discarded e old new m s = s

-- All the bytes say why no front came.
pub failed_told : (e : Error) (count : ℕ) (kept mid : List ℕ) (old new : SourceView) → count < 2 ^ 64 - 2
    → mid ≡ kept ++ drop (length kept) mid → ReadsToMessage (Err e) mid → Comes {A = Unit {0}} (Err e) (drop (length kept) mid) old new
    → IfSome (prepend_known kept old.left) (λ bytes. Receives old.stop count bytes (Err e))
failed_told e count kept mid old new below grown h c =
    whole_failed e count old.stop (prepend_known kept old.left) below (told_failed e kept (drop (length kept) mid) old new (subst (ReadsToMessage (Err e)) grown h) c)

pub failed_cause : (e : Error) (mid got : List ℕ) (old new : SourceView) → ReadsToMessage (Err e) mid
    → Comes {A = Unit {0}} (Err e) got old new → IsReadRefusal e × HasCause e old new
failed_cause e mid got old new h c = cause_failed e mid got old new h c

pub failed_takes : (e : Error) (kept mid kept' : List ℕ) (old new : SourceView)
    → mid ≡ kept ++ drop (length kept) mid → (mid ≡ kept) ⊎ (length mid ≤ spent mid) → Comes {A = Unit {0}} (Err e) (drop (length kept) mid) old new
    → Asks old new (length (drop (length kept) mid) + 1) → kept' ≡ rest_of {A = Received} (Err e) mid
    → TakesKept (Err e) kept kept' old new
failed_takes e kept mid kept' old new grown own c asks rest =
    record {
      got = drop (length kept) mid;
      came = came_as e (drop (length kept) mid) old new c;
      own = own_of kept mid (drop (length kept) mid) grown own;
      message = tt;
      behind = rest ∙ ap (rest_of {A = Received} (Err e)) grown;
      asks = asks;
    }

-- ---- a message, or an ignored front

pub record Own (own mid : List ℕ) : Type 0 where
  pub head : 16 ≤ length own
  pub right : head_fault own ≡ None
  pub all : length own ≡ total own
  pub spends : spent mid ≡ length own
  pub front : mid ≡ own ++ drop (spent mid) mid
  pub outcome : front_outcome own kinds.Ended ≡ front_outcome mid kinds.Ended

spent_there : (mid : List ℕ) → IsThere mid → spent mid ≡ total mid
spent_there mid g = omega (arith, spent_right mid g.0.head g.0.right, g.1)

own_right : (mid : List ℕ) → IsThere mid → Own (take (total mid) mid) mid
own_right mid g =
    let n = total mid in
    let own = take n mid in
    let some : 16 ≤ n = omega arith in
    let len : length own ≡ n = length-take-le n mid g.1 in
    let head : 16 ≤ length own = omega arith in
    let joined : own ++ drop n mid ≡ mid = take-append-drop n mid in
    let all : total own ≡ n = sym (total-append own (drop n mid) head) ∙ ap total joined in
    let right : head_fault own ≡ None = sym (head_fault-append own (drop n mid) head) ∙ ap head_fault joined ∙ g.0.right in
    let whole : length own ≡ total own = len ∙ sym all in
    let spends : spent mid ≡ n = spent_there mid g in
    record {
      head = head;
      right = right;
      all = whole;
      spends = spends ∙ sym len;
      front = sym joined ∙ ap (λ k. own ++ drop k mid) (sym spends);
      outcome = sym (front-append own (drop n mid) kinds.Ended kinds.Ended head right whole) ∙ ap (λ b. front_outcome b kinds.Ended) joined;
    }

-- what a read takes is the whole of what it received
pub spent_own : (mid : List ℕ) (r : Received) → IsThere mid → StandsOn mid r (length (received_bytes r)) → length (received_bytes r) ≡ spent mid
spent_own mid r g s = (stands_alone mid r s).whole ∙ sym (spent_there mid g)

own_error_by : (bytes : List ℕ) (kind : Option MessageType) (fields : Option Fields) (e : Error) → received_by bytes kind fields ≡ Err e → e ≡ errors.Variant faults.Malformed
own_error_by bytes None None e p = cc
own_error_by bytes (Some kind) None e p = cc
own_error_by bytes None (Some fields) e p = absurd (cc)
own_error_by bytes (Some kind) (Some fields) e p = absurd (cc)

own_error : (mid : List ℕ) (e : Error) → IsThere mid → (e ≡ errors.Memory) ⊎ (front_outcome mid kinds.Ended ≡ Err e) → (e ≡ errors.Memory) ⊎ (e ≡ errors.Variant faults.Malformed)
own_error mid e g (inl p) = inl p
own_error mid e g (inr p) = inr (own_error_by mid (kind_of (slice_index mid 1)) (fields_found mid) e (sym (front_there mid kinds.Ended g.0.head g.0.right g.1) ∙ p))

came_malformed : (e : Error) (got : List ℕ) (old new : SourceView) → (e ≡ errors.Memory) ⊎ (e ≡ errors.Variant faults.Malformed)
    → Comes {A = Unit {0}} (Ok tt) got old new → Comes {A = Received} (Err e) got old new
came_malformed e got old new (inl p) c = subst (λ (x : Error). Comes {A = Received} (Err x) got old new) (sym p) c
came_malformed e got old new (inr p) c = subst (λ (x : Error). Comes {A = Received} (Err x) got old new) (sym p) c

pub unmade_told : (e : Error) (count : ℕ) (kept mid : List ℕ) (old new : SourceView) → count < 2 ^ 64 - 2
    → mid ≡ kept ++ drop (length kept) mid → IsThere mid → Comes {A = Unit {0}} (Ok tt) (drop (length kept) mid) old new
    → Tells {A = Received} {B = Received} (λ r. r) (Err e) (front_outcome mid kinds.Ended)
    → IfSome (prepend_known kept old.left) (λ bytes. Receives old.stop count bytes (Err e))
unmade_told e count kept mid old new below grown g c t =
    let own = take (total mid) mid in
    let o = own_right mid g in
    let rest = drop (spent mid) mid in
    whole_failed e count old.stop (prepend_known kept old.left) below
    (front_failed own e (prepend_known kept old.left) (prepend_known rest new.left) old.stop o.head o.right o.all (prepended kept rest (drop (length kept) mid) own old.left new.left (sym grown ∙ o.front) c.0)
    (untold e _ (subst (Tells {A = Received} {B = Received} (λ r. r) (Err e)) (sym o.outcome) t)))

pub unmade_cause : (e : Error) (mid got : List ℕ) (old new : SourceView) → IsThere mid
    → Comes {A = Unit {0}} (Ok tt) got old new → Tells {A = Received} {B = Received} (λ r. r) (Err e) (front_outcome mid kinds.Ended) → IsReadRefusal e × HasCause e old new
unmade_cause e mid got old new g c t = cause_by e old new c.2 (own_error mid e g (untold e _ t))

pub unmade_takes : (e : Error) (kept mid kept' : List ℕ) (old new : SourceView)
    → mid ≡ kept ++ drop (length kept) mid → IsThere mid → (mid ≡ kept) ⊎ (length mid ≤ spent mid) → Comes {A = Unit {0}} (Ok tt) (drop (length kept) mid) old new
    → Asks old new (length (drop (length kept) mid) + 0) → Tells {A = Received} {B = Received} (λ r. r) (Err e) (front_outcome mid kinds.Ended)
    → kept' ≡ rest_of {A = Received} (Err e) mid → TakesKept (Err e) kept kept' old new
unmade_takes e kept mid kept' old new grown g own c asks t rest =
    record {
      got = drop (length kept) mid;
      came = came_malformed e (drop (length kept) mid) old new (own_error mid e g (untold e _ t)) c;
      own = own_of kept mid (drop (length kept) mid) grown own;
      message = tt;
      behind = rest ∙ ap (rest_of {A = Received} (Err e)) grown;
      asks = asks_more old new _ _ (omega arith) asks;
    }

pub made_told : (r placed_r : Received) (seq : ℕ) (kept mid : List ℕ) (old new : SourceView) → 0 < seq → seq - 1 < 2 ^ 64 - 2
    → mid ≡ kept ++ drop (length kept) mid → IsThere mid → Comes {A = Unit {0}} (Ok tt) (drop (length kept) mid) old new
    → front_outcome mid kinds.Ended ≡ Ok r → placed seq (Ok r) ≡ Ok placed_r
    → IfSome (prepend_known kept old.left) (λ bytes. Receives old.stop (seq - 1) bytes (Ok placed_r))
made_told r placed_r seq kept mid old new some below grown g c t at =
    let own = take (total mid) mid in
    let o = own_right mid g in
    let rest = drop (spent mid) mid in
    front_told own r placed_r seq (prepend_known kept old.left) (prepend_known rest new.left) old.stop o.head o.right o.all (prepended kept rest (drop (length kept) mid) own old.left new.left (sym grown ∙ o.front) c.0)
    some below (o.outcome ∙ t) at

-- a position changes nothing of the bytes
same_bytes : (r placed_r : Received) (seq : ℕ) → placed seq (Ok r) ≡ Ok placed_r → received_bytes placed_r ≡ received_bytes r
same_bytes (Message m) placed_r seq at = let is : Message (record m { position = seq }) ≡ placed_r = cc in sym (ap received_bytes is)
same_bytes (Passed front) placed_r seq at = let is : Passed front ≡ placed_r = cc in sym (ap received_bytes is)

pub made_takes : (r placed_r : Received) (seq : ℕ) (kept mid kept' : List ℕ) (old new : SourceView)
    → mid ≡ kept ++ drop (length kept) mid → IsThere mid → (mid ≡ kept) ⊎ (length mid ≤ spent mid) → Comes {A = Unit {0}} (Ok tt) (drop (length kept) mid) old new
    → Asks old new (length (drop (length kept) mid) + 0) → StandsOn mid r (length (received_bytes r)) → placed seq (Ok r) ≡ Ok placed_r
    → kept' ≡ rest_of {A = Received} (Ok r) mid → TakesKept (Ok placed_r) kept kept' old new
made_takes r placed_r seq kept mid kept' old new grown g own c asks stands at rest =
    let taken : take (total mid) mid ≡ take (spent mid) mid = ap (λ k. take k mid) (sym (spent_there mid g)) in
    record {
      got = drop (length kept) mid;
      came = c;
      own = own_of kept mid (drop (length kept) mid) grown own;
      message = same_bytes r placed_r seq at ∙ (stands_alone mid r stands).own ∙ taken ∙ ap (λ l. take (spent l) l) grown;
      behind = rest ∙ ap (λ l. drop (spent l) l) grown;
      asks = asks_more old new _ _ (omega arith) asks;
    }

-- a message on its own bytes, at a position
front_at : (m : MessageView) (seq : ℕ) → Front m.bytes m (length m.bytes) → Front m.bytes (record m { position = seq }) (length m.bytes)
front_at m seq f =
    record {
      own = f.own;
      there = f.there;
      head = f.head;
      whole = f.whole;
      limit = f.limit;
      order = f.order;
      type = f.type;
      flags = f.flags;
      serial = f.serial;
      not_zero = f.not_zero;
      fds = f.fds;
      fields = f.fields;
    }

placed_own : (r placed_r : Received) (seq : ℕ) → placed seq (Ok r) ≡ Ok placed_r → StandsOn (received_bytes r) r (length (received_bytes r)) → IsReceived seq placed_r
placed_own (Message m) placed_r seq at f = let is : Message (record m { position = seq }) ≡ placed_r = cc in subst (IsReceived seq) is (front_at m seq f, refl)
placed_own (Passed front) placed_r seq at f = let is : Passed front ≡ placed_r = cc in subst (IsReceived seq) is f.0

pub made_own : (r placed_r : Received) (seq : ℕ) (mid : List ℕ) → StandsOn mid r (length (received_bytes r)) → placed seq (Ok r) ≡ Ok placed_r → IsReceived seq placed_r
made_own r placed_r seq mid stands at = placed_own r placed_r seq at (stands_alone mid r stands).stands
