-- What lanes hold of streams, after each event.
use Rattle.std.proofs.{Common.{◌≡◌, ℕ, zero, suc, ◌+◌, ◌==◌, refl, sym, ◌∙◌, ap, subst, arith, inl, inr, ◌&&◌, ◌||◌, not, Bool, true, false, if◌then◌else◌, List, [], ◌∷◌, ◌++◌, length, map, Option, Some, None, Result, Ok, Err}, lemmas.Bool.{true≢false, cases_eq, eq-eqb, ne_eqb}}
use Rattle.std.specs.{List.{slice_get, slice_set, AllByRecursion}, Option.{option_map, option_and_then, unwrap_or}}
use Rattle.peer_conn.specs.{Names.{MessageView, Error, Polled, OpenState, StreamHandle}, Handles.{IsHandleOf, AreHandles, HasHandles, open_in, open_at, without_open, did_all, held_after}}
use Rattle.peer_core.specs.{History.{streams_of, Event, Received, Passed, PeerClosed, Put, Wrote, WriteFailed, CallFinished, Made, Did, Main, OnBus, Named, Past, after, after_all}, Asked.{is_open, take_events, opening_answer, opening_events}, Refinement.{RouteView, Refines}}
use Rattle.peer_core.specs.Handles.{OpeningView}
use Rattle.peer_calls.specs.History.{OfLane, AddMatch, RemoveMatch}
use Rattle.peer_streams.specs.{History.{StreamOrigin, Plain, Ruled, Cloned, Gave, Told, Gone, Asked, Opened, Stream, Phase, Asking, Denied, Since, phase, done_by, asks_by, fail_stream, new_stream}, Streams.{is_since, runs, opening_by, opening_at, opening_deeds}, Refinement.IsWithin}
use Rattle.peer_streams.specs.Streams.{is_open as streams_is_open, opening_answer as streams_opening_answer}
use Rattle.wire_message.specs.Plain.{edit}
use Rattle.wire_message.proofs.Edits.{edit_other}
use Rattle.peer_streams.proofs.Matched.{stepped, phase_took}

-- ---- the streams and their handles, one by one

-- what holds of each and its handle still does of what each becomes, and of its new handle
pub held_along : (ms ns : List MessageView) (f : Stream → Stream) → ((k : ℕ) (s : Stream) (h : StreamHandle) → IsHandleOf ms k s h → IsHandleOf ns k (f s) h) → (k : ℕ) (ss : List Stream) (hs : List StreamHandle)
    → AreHandles ms k ss hs → AreHandles ns k (map f ss) hs
held_along ms ns f so k [] [] are = tt
held_along ms ns f so k (s ∷ ss) (h ∷ hs) are = (so k s h are.0, held_along ms ns f so (k + 1) ss hs are.1)
held_along ms ns f so k [] (h ∷ hs) are = absurd are
held_along ms ns f so k (s ∷ ss) [] are = absurd are

-- one of them changes
pub held_edit : (ms : List MessageView) (f : Stream → Stream) (g : StreamHandle → StreamHandle) → ((n : ℕ) (s : Stream) (h : StreamHandle) → IsHandleOf ms n s h → IsHandleOf ms n (f s) (g h)) → (n k : ℕ) (ss : List Stream) (hs : List StreamHandle)
    → AreHandles ms n ss hs → AreHandles ms n (edit k f ss) (edit k g hs)
held_edit ms f g so n k [] [] are = tt
held_edit ms f g so n zero (s ∷ ss) (h ∷ hs) are = (so n s h are.0, are.1)
held_edit ms f g so n (suc k) (s ∷ ss) (h ∷ hs) are = (are.0, held_edit ms f g so (n + 1) k ss hs are.1)
held_edit ms f g so n k [] (h ∷ hs) are = absurd are
held_edit ms f g so n k (s ∷ ss) [] are = absurd are

-- a change of one, by what is known of it
pub held_set : (ms : List MessageView) (f : Stream → Stream) (s : Stream) (h : StreamHandle) (n k : ℕ) (ss : List Stream) (hs : List StreamHandle) → slice_get ss k ≡ Some s → IsHandleOf ms (n + k) (f s) h
    → AreHandles ms n ss hs → AreHandles ms n (edit k f ss) (slice_set hs k h)
held_set ms f s h n k [] hs at is are = cc
held_set ms f s h n k (x ∷ ss) [] at is are = absurd are
held_set ms f s h n zero (x ∷ ss) (y ∷ hs) at is are =
    let same : s ≡ x = cc in
    let here : n + zero ≡ n = omega arith in
    (subst (λ x. IsHandleOf ms n (f x) h) same (subst (λ m. IsHandleOf ms m (f s) h) here is), are.1)
held_set ms f s h n (suc k) (x ∷ ss) (y ∷ hs) at is are =
    let there : n + suc k ≡ n + 1 + k = omega arith in
    (are.0, held_set ms f s h (n + 1) k ss hs at (subst (λ m. IsHandleOf ms m (f s) h) there is) are.1)

-- one more
pub held_push : (ms : List MessageView) (n : ℕ) (ss : List Stream) (hs : List StreamHandle) (s : Stream) (h : StreamHandle) → IsHandleOf ms (n + length ss) s h → AreHandles ms n ss hs → AreHandles ms n (ss ++ s ∷ []) (hs ++ h ∷ [])
held_push ms n [] [] s h is are = let here : n + 0 ≡ n = omega arith in (subst (λ m. IsHandleOf ms m s h) here is, tt)
held_push ms n (x ∷ ss) (y ∷ hs) s h is are = let there : n + suc (length ss) ≡ n + 1 + length ss = omega arith in (are.0, held_push ms (n + 1) ss hs s h (subst (λ m. IsHandleOf ms m s h) there is) are.1)
held_push ms n [] (y ∷ hs) s h is are = absurd are
held_push ms n (x ∷ ss) [] s h is are = absurd are

-- what stands at a place
abbrev pub HeldAt : List MessageView → ℕ → List Stream → Option StreamHandle → ℕ → Type 0
HeldAt ms n ss None k = slice_get ss k ≡ None
HeldAt ms n ss (Some h) k = (s : Stream) × (slice_get ss k ≡ Some s) × IsHandleOf ms (n + k) s h

pub held_at : (ms : List MessageView) (n : ℕ) (ss : List Stream) (hs : List StreamHandle) (k : ℕ) (o : Option StreamHandle) → slice_get hs k ≡ o → AreHandles ms n ss hs → HeldAt ms n ss o k
held_at ms n ss hs k o at are = rw (sym at) (by n ss hs k are)
  where
    later : (n : ℕ) (s : Stream) (ss : List Stream) (k : ℕ) (o : Option StreamHandle) → HeldAt ms (n + 1) ss o k → HeldAt ms n (s ∷ ss) o (suc k)
    later n s ss k None at = at
    later n s ss k (Some h) at = let there : n + 1 + k ≡ n + suc k = omega arith in (at.0, at.1, subst (λ m. IsHandleOf ms m at.0 h) there at.2)

    by : (n : ℕ) (ss : List Stream) (hs : List StreamHandle) (k : ℕ) → AreHandles ms n ss hs → HeldAt ms n ss (slice_get hs k) k
    by n [] [] k are = refl
    by n (s ∷ ss) (h ∷ hs) zero are = let here : n ≡ n + zero = omega arith in (s, refl, subst (λ m. IsHandleOf ms m s h) here are.0)
    by n (s ∷ ss) (h ∷ hs) (suc k) are = later n s ss k (slice_get hs k) (by (n + 1) ss hs k are.1)
    by n [] (h ∷ hs) k are = absurd are
    by n (s ∷ ss) [] k are = absurd are

-- ---- what is held open is open

runs_gone : (open_reported gone since : Bool) → gone ≡ true → (open_reported && (not gone && since)) ≡ false
runs_gone true true since e = refl
runs_gone false true since e = refl
runs_gone open_reported false since e = cc

pub gone_closed : (ms : List MessageView) (s : Stream) → s.gone ≡ true → runs ms s ≡ false
unfolding runs
gone_closed ms s gone = runs_gone s.open_reported s.gone (is_since (phase ms s)) gone

pub unreported_closed : (ms : List MessageView) (s : Stream) → s.open_reported ≡ false → runs ms s ≡ false
unfolding runs
unreported_closed ms s e = ap (λ b. b && (not s.gone && is_since (phase ms s))) e

-- which of two is held open, if one is
abbrev pub if_open : Bool → ℕ → Option ℕ
if_open b k = if b then Some k else None

open_by : (ms : List MessageView) (k : ℕ) (s : Stream) (h : StreamHandle) → IsHandleOf ms (0 + k) s h → open_in h ≡ if_open (runs ms s) k
open_by ms k s (StreamHandle.Open stream) is = let here : 0 + k ≡ k = omega arith in ap (λ n. Some n) (is.0 ∙ here) ∙ sym (ap (λ b. if_open b k) is.1)
open_by ms k s (StreamHandle.Opening o) is = sym (ap (λ b. if_open b k) (unreported_closed ms s is.1))
open_by ms k s StreamHandle.Spent is = sym (ap (λ b. if_open b k) (gone_closed ms s is))

-- A stream is held open exactly where it is open, by its number.
pub open_named : (h : Past) (hs : List StreamHandle) (k : ℕ) → HasHandles h hs → open_at hs k ≡ if_open (is_open h k) k
unfolding streams_is_open
open_named h hs k held = by (slice_get hs k) (held_at h.read 0 h.streams hs k (slice_get hs k) refl held)
  where
    by : (o : Option StreamHandle) → HeldAt h.read 0 h.streams o k → option_and_then open_in o ≡ if_open (unwrap_or (option_map (runs h.read) (slice_get h.streams k)) false) k
    by None at = sym (ap (λ o. if_open (unwrap_or (option_map (runs h.read) o) false) k) at)
    by (Some x) at = open_by h.read k at.0 x at.2 ∙ sym (ap (λ o. if_open (unwrap_or (option_map (runs h.read) o) false) k) at.1)

pub named_open : (b : Bool) (k n : ℕ) → Some n ≡ if_open b k → (b ≡ true) × (n ≡ k)
named_open true k n e = (refl, cc)
named_open false k n e = cc

pub named_closed : (b : Bool) (k : ℕ) → None ≡ if_open b k → b ≡ false
named_closed true k e = cc
named_closed false k e = refl

-- the same where it is looked up
pub held_open : (h : Past) (hs : List StreamHandle) (k : ℕ) (xs : List StreamHandle) (n : ℕ) → HasHandles h hs → xs ≡ hs → Some n ≡ open_at xs k → (is_open h k ≡ true) × (n ≡ k)
held_open h hs k xs n held same e = named_open (is_open h k) k n (e ∙ ap (λ xs. open_at xs k) same ∙ open_named h hs k held)

pub held_closed : (h : Past) (hs : List StreamHandle) (k : ℕ) (xs : List StreamHandle) → HasHandles h hs → xs ≡ hs → None ≡ open_at xs k → is_open h k ≡ false
held_closed h hs k xs held same e = named_closed (is_open h k) k (e ∙ ap (λ xs. open_at xs k) same ∙ open_named h hs k held)

-- ---- events by which no stream is made, opened or closed

-- no stream begins by it, is told that it is open, or is closed
abbrev pub KeepsHandles : Event → Type 0
KeepsHandles (Received m) = ⊥
KeepsHandles (Put m (AddMatch rule asked)) = ⊥
KeepsHandles (Made making) = ⊥
KeepsHandles (Did k Gone) = ⊥
KeepsHandles (Did k Opened) = ⊥
KeepsHandles e = Unit {0}

-- where a stream began it waits for nothing
fails_open : (open_reported gone : Bool) (n : ℕ) (p : Phase) → (open_reported && (not gone && is_since p)) ≡ true → (open_reported && (not (gone || asks_by n p) && is_since p)) ≡ true
fails_open open_reported false n (Since ms) e = e
fails_open open_reported true n (Since ms) e = e
fails_open open_reported gone n (Asking add) e = absurd (true≢false (sym e ∙ never open_reported gone))
  where
    never : (a b : Bool) → (a && (not b && false)) ≡ false
    never true true = refl
    never true false = refl
    never false b = refl
fails_open open_reported gone n (Denied m) e = absurd (true≢false (sym e ∙ never open_reported gone))
  where
    never : (a b : Bool) → (a && (not b && false)) ≡ false
    never true true = refl
    never true false = refl
    never false b = refl

failed_runs : (ms : List MessageView) (n : ℕ) (s : Stream) → runs ms s ≡ true → runs ms (fail_stream ms n s) ≡ true
unfolding runs phase
failed_runs ms n s e = fails_open s.open_reported s.gone n (phase ms s) e

failed_held : (ms : List MessageView) (n k : ℕ) (s : Stream) (h : StreamHandle) → IsHandleOf ms k s h → IsHandleOf ms k (fail_stream ms n s) h
failed_held ms n k s (StreamHandle.Open stream) is = (is.0, failed_runs ms n s is.1)
failed_held ms n k s (StreamHandle.Opening o) is = is
failed_held ms n k s StreamHandle.Spent is = ap (λ b. b || asks_by n (phase ms s)) is

-- a stream that gave something, or asked for something, is held as before
gave_held : (ms : List MessageView) (k : ℕ) (s : Stream) (h : StreamHandle) → IsHandleOf ms k s h → IsHandleOf ms k (done_by Gave s) h
unfolding runs phase
gave_held ms k s (StreamHandle.Open stream) is = is
gave_held ms k s (StreamHandle.Opening o) is = is
gave_held ms k s StreamHandle.Spent is = is

told_held : (ms : List MessageView) (k : ℕ) (s : Stream) (h : StreamHandle) → IsHandleOf ms k s h → IsHandleOf ms k (done_by Told s) h
unfolding runs phase
told_held ms k s (StreamHandle.Open stream) is = is
told_held ms k s (StreamHandle.Opening o) is = is
told_held ms k s StreamHandle.Spent is = is

edit_id : {A : Type 0} (k : ℕ) (xs : List A) → edit k (λ x. x) xs ≡ xs
edit_id k [] = refl
edit_id zero (x ∷ xs) = refl
edit_id (suc k) (x ∷ xs) = ap (λ ys. x ∷ ys) (edit_id k xs)

did_held : (h : Past) (hs : List StreamHandle) (k : ℕ) (f : Stream → Stream) → ((n : ℕ) (s : Stream) (x : StreamHandle) → IsHandleOf h.read n s x → IsHandleOf h.read n (f s) x) → HasHandles h hs → AreHandles h.read 0 (edit k f h.streams) hs
did_held h hs k f so held = subst (λ xs. AreHandles h.read 0 (edit k f h.streams) xs) (edit_id k hs) (held_edit h.read f (λ x. x) so 0 k h.streams hs held)

pub held_still : (e : Event) (h : Past) (hs : List StreamHandle) → KeepsHandles e → HasHandles h hs → HasHandles (after e h) hs
held_still (Received m) h hs keeps held = absurd keeps
held_still (Passed bytes) h hs keeps held = held
held_still (PeerClosed error) h hs keeps held = held
held_still (Put m (OfLane waits)) h hs keeps held = held
held_still (Put m (AddMatch rule asked)) h hs keeps held = absurd keeps
held_still (Put m RemoveMatch) h hs keeps held = held
held_still Wrote h hs keeps held = held
held_still WriteFailed h hs keeps held = held_along h.read h.read (fail_stream h.read h.outbox.done) (failed_held h.read h.outbox.done) 0 h.streams hs held
held_still (CallFinished k) h hs keeps held = held
held_still (Made making) h hs keeps held = absurd keeps
held_still (Did k Gave) h hs keeps held = did_held h hs k (done_by Gave) (gave_held h.read) held
held_still (Did k Told) h hs keeps held = did_held h hs k (done_by Told) (told_held h.read) held
held_still (Did k Gone) h hs keeps held = absurd keeps
held_still (Did k (Asked limit)) h hs keeps held = did_held h hs k (λ s. s) (λ n s x is. is) held
held_still (Did k Opened) h hs keeps held = absurd keeps
held_still (Main limit) h hs keeps held = held
held_still OnBus h hs keeps held = held
held_still (Named name) h hs keeps held = held

-- and several, one after another
pub held_stills : (es : List Event) (h : Past) (hs : List StreamHandle) → AllByRecursion KeepsHandles es → HasHandles h hs → HasHandles (after_all es h) hs
held_stills [] h hs keeps held = held
held_stills (e ∷ es) h hs keeps held = held_stills es (after e h) hs keeps.1 (held_still e h hs keeps.0 held)

pub take_held : (k : ℕ) (r : Result (Polled MessageView) Error) → AllByRecursion KeepsHandles (take_events k r)
take_held k (Ok (Polled.Now m)) = (tt, tt)
take_held k (Ok (Polled.Closed error)) = (tt, tt)
take_held k (Ok Polled.NotYet) = tt
take_held k (Ok Polled.NoneBefore) = tt
take_held k (Ok Polled.Ended) = tt
take_held k (Err error) = tt

-- ---- a message comes

since_step : (m : MessageView) (p : Phase) (open_reported gone : Bool) → (open_reported && (not gone && is_since p)) ≡ true → (open_reported && (not gone && is_since (stepped m p))) ≡ true
since_step m (Since ms) open_reported gone e = e
since_step m (Denied r) open_reported gone e = e
since_step m (Asking add) true false e = cc
since_step m (Asking add) true true e = cc
since_step m (Asking add) false gone e = cc

runs_took : (m : MessageView) (h : Past) (s : Stream) → IsWithin h.read s → runs h.read s ≡ true → runs (after (Received m) h).read s ≡ true
unfolding runs
runs_took m h s w e = ap (λ p. s.open_reported && (not s.gone && is_since p)) (phase_took m (streams_of h) s w.start) ∙ since_step m (phase h.read s) s.open_reported s.gone e

pub held_took : (m : MessageView) (v : RouteView) (h : Past) (hs : List StreamHandle) → Refines v h → HasHandles h hs → HasHandles (after (Received m) h) hs
held_took m v h hs left held = by 0 h.streams hs left.streams.within held
  where
    one : (k : ℕ) (s : Stream) (x : StreamHandle) → IsWithin h.read s → IsHandleOf h.read k s x → IsHandleOf (after (Received m) h).read k s x
    one k s (StreamHandle.Open stream) w is = (is.0, runs_took m h s w is.1)
    one k s (StreamHandle.Opening o) w is = is
    one k s StreamHandle.Spent w is = is

    by : (k : ℕ) (ss : List Stream) (hs : List StreamHandle) → AllByRecursion (IsWithin h.read) ss → AreHandles h.read k ss hs → AreHandles (after (Received m) h).read k ss hs
    by k [] [] w are = tt
    by k (s ∷ ss) (x ∷ hs) w are = (one k s x w.0 are.0, by (k + 1) ss hs w.1 are.1)
    by k [] (x ∷ hs) w are = absurd are
    by k (s ∷ ss) [] w are = absurd are

-- ---- a stream is made

-- the original is open, where it is a clone
abbrev pub MayMake : Past → StreamOrigin → Type 0
MayMake h (Cloned k) = is_open h k ≡ true
MayMake h making = Unit {0}

clone_by : (open_reported gone since : Bool) → (open_reported && (not gone && since)) ≡ true → (open_reported && (true && since)) ≡ true
clone_by open_reported false since e = e
clone_by true true since e = cc
clone_by false true since e = cc

cloned_runs : (h : Past) (o : Option Stream) → unwrap_or (option_map (runs h.read) o) false ≡ true → runs h.read (unwrap_or (option_map (λ (s : Stream). record s { skip = s.skip + s.taken; taken = 0; gone = false }) o) (new_stream (streams_of h) h.streams Plain)) ≡ true
unfolding runs phase
cloned_runs h None e = cc
cloned_runs h (Some s) e = clone_by s.open_reported s.gone (is_since (phase h.read s)) e

made_runs : (h : Past) (making : StreamOrigin) → MayMake h making → runs h.read (new_stream (streams_of h) h.streams making) ≡ true
unfolding runs phase streams_is_open
made_runs h Plain may = refl
made_runs h (Ruled rule asked) may = refl
made_runs h (Cloned k) may = cloned_runs h (slice_get h.streams k) may

pub held_made : (h : Past) (hs : List StreamHandle) (making : StreamOrigin) (stream : ℕ) → MayMake h making → stream ≡ length h.streams → HasHandles h hs → HasHandles (after (Made making) h) (hs ++ StreamHandle.Open stream ∷ [])
held_made h hs making stream may e held =
    let here : 0 + length h.streams ≡ length h.streams = omega arith in
    held_push h.read 0 h.streams hs (new_stream (streams_of h) h.streams making) (StreamHandle.Open stream) (e ∙ sym here, made_runs h making may) held

-- ---- streams are closed

gone_held : (ms : List MessageView) (k : ℕ) (s : Stream) (h : StreamHandle) → IsHandleOf ms k s h → IsHandleOf ms k (done_by Gone s) (without_open h)
gone_held ms k s (StreamHandle.Open stream) is = refl
gone_held ms k s (StreamHandle.Opening o) is = is
gone_held ms k s StreamHandle.Spent is = refl

pub held_gone : (h : Past) (hs : List StreamHandle) (k : ℕ) → HasHandles h hs → HasHandles (after (Did k Gone) h) (edit k without_open hs)
held_gone h hs k held = held_edit h.read (done_by Gone) without_open (gone_held h.read) 0 k h.streams hs held

-- nothing that is held open is handed in
pub closed_edit : (hs : List StreamHandle) (k : ℕ) → None ≡ open_at hs k → edit k without_open hs ≡ hs
closed_edit [] k e = refl
closed_edit (StreamHandle.Open stream ∷ hs) zero e = cc
closed_edit (StreamHandle.Opening o ∷ hs) zero e = refl
closed_edit (StreamHandle.Spent ∷ hs) zero e = refl
closed_edit (h ∷ hs) (suc k) e = ap (λ xs. h ∷ xs) (closed_edit hs k e)

-- what was handed in is handed back
pub back_edit : (hs : List StreamHandle) (k n : ℕ) → Some n ≡ open_at hs k → slice_set (edit k without_open hs) k (StreamHandle.Open n) ≡ hs
back_edit [] k n e = cc
back_edit (StreamHandle.Open stream ∷ hs) zero n e = let same : n ≡ stream = cc in ap (λ m. StreamHandle.Open m ∷ hs) same
back_edit (StreamHandle.Opening o ∷ hs) zero n e = cc
back_edit (StreamHandle.Spent ∷ hs) zero n e = cc
back_edit (h ∷ hs) (suc k) n e = ap (λ xs. h ∷ xs) (back_edit hs k n e)

-- what is held open once another is handed in
none_here : (hs : List StreamHandle) (k : ℕ) → open_at (edit k without_open hs) k ≡ None
none_here [] k = refl
none_here (StreamHandle.Open stream ∷ hs) zero = refl
none_here (StreamHandle.Opening o ∷ hs) zero = refl
none_here (StreamHandle.Spent ∷ hs) zero = refl
none_here (h ∷ hs) (suc k) = none_here hs k

pub other_open : (hs : List StreamHandle) (k j : ℕ) → open_at (edit k without_open hs) j ≡ (if k == j then None else open_at hs j)
other_open hs k j = elim (cases_eq k j) as (λ _. open_at (edit k without_open hs) j ≡ (if k == j then None else open_at hs j)) [
  | inl e ↦ subst (λ n. open_at (edit k without_open hs) n ≡ None) e (none_here hs k) ∙ sym (ap (λ b. if b then None else open_at hs j) (eq-eqb k j e))
  | inr ne ↦ ap (option_and_then open_in) (edit_other without_open k j hs ne) ∙ sym (ap (λ b. if b then None else open_at hs j) (ne_eqb k j ne))
]

-- ---- it is asked whether a stream is open

reported_by : (open_reported gone since : Bool) → (open_reported && (not gone && since)) ≡ true → (gone || open_reported) ≡ true
reported_by true true since e = refl
reported_by true false since e = refl
reported_by false gone since e = cc

-- one that is open, or gone, is none for which the bus was asked
pub open_unknown : (h : Past) (k : ℕ) (s : Stream) → slice_get h.streams k ≡ Some s → runs h.read s ≡ true → opening_answer h k ≡ OpenState.Unknown
unfolding runs streams_opening_answer
open_unknown h k s at e =
    ap (opening_at h.read h.closing) at ∙ ap (λ b. if b then OpenState.Unknown else opening_by (phase h.read s) h.closing) (reported_by s.open_reported s.gone (is_since (phase h.read s)) e)

pub gone_unknown : (h : Past) (k : ℕ) (s : Stream) → slice_get h.streams k ≡ Some s → s.gone ≡ true → opening_answer h k ≡ OpenState.Unknown
unfolding streams_opening_answer
gone_unknown h k s at e = ap (opening_at h.read h.closing) at ∙ ap (λ b. if b || s.open_reported then OpenState.Unknown else opening_by (phase h.read s) h.closing) e

-- what is held of one that waited is what it is told
opened_by : (ms : List MessageView) (k : ℕ) (s : Stream) (o : OpeningView) (shut : Option Error) (p : Phase) (gone : Bool) → o.stream ≡ k → s.open_reported ≡ false → phase ms s ≡ p → s.gone ≡ gone
    → let state = (if gone || s.open_reported then OpenState.Unknown else opening_by p shut) in IsHandleOf ms k (did_all (opening_deeds state) s) (held_after state o)
unfolding runs phase
opened_by ms k s o shut p true e un at gone = gone
opened_by ms k s o shut p false e un at gone =
    subst (λ b. let state = (if b then OpenState.Unknown else opening_by p shut) in IsHandleOf ms k (did_all (opening_deeds state) s) (held_after state o)) (sym un) (by shut p at)
  where
    open_now : (p : Phase) → is_since p ≡ true → phase ms s ≡ p → runs ms (done_by Opened s) ≡ true
    open_now p is at = ap (λ b. not b && is_since (phase ms s)) gone ∙ ap is_since at ∙ is

    by : (shut : Option Error) (p : Phase) → phase ms s ≡ p → IsHandleOf ms k (did_all (opening_deeds (opening_by p shut)) s) (held_after (opening_by p shut) o)
    by None (Asking add) at = (e, un)
    by (Some error) (Asking add) at = refl
    by shut (Denied m) at = refl
    by shut (Since xs) at = (e, open_now (Since xs) refl at)

pub opened_held : (h : Past) (k : ℕ) (s : Stream) (o : OpeningView) → slice_get h.streams k ≡ Some s → o.stream ≡ k → s.open_reported ≡ false
    → IsHandleOf h.read k (did_all (opening_deeds (opening_answer h k)) s) (held_after (opening_answer h k) o)
unfolding streams_opening_answer
opened_held h k s o at e un =
    rw (at) (opened_by h.read k s o h.closing (phase h.read s) s.gone e un refl refl)

-- and so of all
pub held_opened : (h : Past) (hs : List StreamHandle) (k : ℕ) (s : Stream) (x : StreamHandle) (state : OpenState) → slice_get h.streams k ≡ Some s → IsHandleOf h.read k (did_all (opening_deeds state) s) x → HasHandles h hs
    → HasHandles (after_all (opening_events k state) h) (slice_set hs k x)
held_opened h hs k s x state at is held = by state is
  where
    here : k ≡ 0 + k
    here = omega arith

    still : AreHandles h.read 0 (edit k (λ s. s) h.streams) (slice_set hs k x) → HasHandles h (slice_set hs k x)
    still are = subst (λ ss. AreHandles h.read 0 ss (slice_set hs k x)) (edit_id k h.streams) are

    by : (state : OpenState) → IsHandleOf h.read k (did_all (opening_deeds state) s) x → HasHandles (after_all (opening_events k state) h) (slice_set hs k x)
    by OpenState.Unknown is = still (held_set h.read (λ s. s) s x 0 k h.streams hs at (subst (λ n. IsHandleOf h.read n s x) here is) held)
    by OpenState.NotYet is = still (held_set h.read (λ s. s) s x 0 k h.streams hs at (subst (λ n. IsHandleOf h.read n s x) here is) held)
    by OpenState.Open is = held_set h.read (done_by Opened) s x 0 k h.streams hs at (subst (λ n. IsHandleOf h.read n (done_by Opened s) x) here is) held
    by (OpenState.Refused m) is = held_set h.read (done_by Gone) s x 0 k h.streams hs at (subst (λ n. IsHandleOf h.read n (done_by Gone s) x) here is) held
    by (OpenState.Over error) is = held_set h.read (done_by Gone) s x 0 k h.streams hs at (subst (λ n. IsHandleOf h.read n (done_by Gone s) x) here is) held

pub past_unknown : (h : Past) (hs : List StreamHandle) (k : ℕ) → HasHandles h hs → slice_get hs k ≡ None → opening_answer h k ≡ OpenState.Unknown
unfolding streams_opening_answer
past_unknown h hs k held at = ap (opening_at h.read h.closing) (held_at h.read 0 h.streams hs k None at held)

-- the stream whose handle stands at a place
pub its_handle : (h : Past) (hs : List StreamHandle) (k : ℕ) (x : StreamHandle) → HasHandles h hs → slice_get hs k ≡ Some x → (s : Stream) × (slice_get h.streams k ≡ Some s) × IsHandleOf h.read k s x
its_handle h hs k x held at =
    let there = held_at h.read 0 h.streams hs k (Some x) at held in
    let here : 0 + k ≡ k = omega arith in
    (there.0, there.1, subst (λ n. IsHandleOf h.read n there.0 x) here there.2)
