-- What is kept of streams after a take, and after one that is being opened was asked.
use Rattle.peer_streams.specs.{History.{Gave, Opened, Told, done_by, Did, Stream, Phase, Asking, Denied, Since, phase, StreamsPast, after, after_all}, Names.{OpenState, MessageView, Error, Rule}, Streams.{matched, held, runs, take_by, take_events, opening_by, opening_at, opening_answer, opening_events}, Refinement.{StreamView, kept_by, kept, after_by, asked_by, after_ask, RefinesStreams, IsWithin}}
use Rattle.wire_message.specs.Plain.{edit}
use Rattle.std.proofs.Common.{◌≡◌, ℕ, ◌+◌, refl, sym, ◌∙◌, ap, arith, Bool, true, false, ◌||◌, if◌then◌else◌, List, [], ◌∷◌, drop, Option, Some, None, Ok}
use Rattle.std.specs.List.{slice_get}
use Rattle.wire_message.proofs.Edits.{edit-same, drop_next, edit-none, all_at}
use Rattle.peer_streams.proofs.{Matched.held_matched, StreamsMade.{runs_so, open_held, kept_runs, edited, streams_ended}}

-- ---- takes

-- an item
gave : (v : List StreamView) (h : StreamsPast) (k : ℕ) (s : Stream) (m : MessageView) (ms : List MessageView) → slice_get h.streams k ≡ Some s → runs h.read s ≡ true → held h.read s ≡ m ∷ ms
    → RefinesStreams v h → RefinesStreams (edit k (λ q. record q { items = ms }) v) (after (Did k Gave) h)
unfolding matched runs phase
gave v h k s m ms at is e left =
    let limits = h.capacities.rules in
    let next = drop_next (s.skip + s.taken) (matched h.read s) m ms (sym (held_matched h s) ∙ e) in
    let before = all_at (IsWithin h.read) h.streams k s at left.within in
    let one_more : s.skip + (s.taken + 1) ≡ s.skip + s.taken + 1 = omega arith in
    let items : held h.read (done_by Gave s) ≡ ms = held_matched h (done_by Gave s) ∙ ap (λ n. drop n (matched h.read s)) one_more ∙ next.0 in
    let one : kept limits h.read (done_by Gave s) ≡ record (kept limits h.read s) { items = ms } =
    kept_runs limits h (done_by Gave s) is ∙ ap (λ xs. record (open_held limits h.read s) { items = xs }) items ∙ ap (λ (q : StreamView). record q { items = ms }) (sym (kept_runs limits h s is)) in
    edited v h k s (done_by Gave) (λ q. record q { items = ms }) at one (record { start = before.start; passed = rw one_more next.1 }) left

-- the closing error
told_error : (v : List StreamView) (h : StreamsPast) (k : ℕ) (s : Stream) → slice_get h.streams k ≡ Some s → s.gone ≡ false → RefinesStreams v h → RefinesStreams (edit k (λ q. record q { closing_delivered = true }) v) (after (Did k Told) h)
unfolding kept matched phase
told_error v h k s at still left =
    let before = all_at (IsWithin h.read) h.streams k s at left.within in
    edited v h k s (done_by Told) (λ q. record q { closing_delivered = true }) at (by s.gone (phase h.read s) still) (record { start = before.start; passed = before.passed }) left
  where
    by : (gone : Bool) (p : Phase) → gone ≡ false → kept_by h.capacities.rules (done_by Told s) gone p ≡ record (kept_by h.capacities.rules s gone p) { closing_delivered = true }
    by true p e = cc
    by false (Since xs) e = refl
    by false (Asking add) e = refl
    by false (Denied m) e = refl

taken_by : (v : List StreamView) (h : StreamsPast) (k : ℕ) (s : Stream) (q : StreamView) (items : List MessageView) (closing_delivered : Bool) (o : Option Error) → slice_get h.streams k ≡ Some s → slice_get v k ≡ Some q → q.closing_delivered ≡ closing_delivered
    → runs h.read s ≡ true → held h.read s ≡ items → RefinesStreams v h
    → RefinesStreams (edit k (after_by items o) v) (after_all (take_events k (Ok (take_by items o closing_delivered))) h)
taken_by v h k s q (m ∷ ms) closing_delivered o at there t is e left = gave v h k s m ms at is e left
taken_by v h k s q [] closing_delivered None at there t is e left = subst_same (edit-none (λ q. q) (λ q. refl) v k)
  where
    subst_same : edit k (λ x. x) v ≡ v → RefinesStreams (edit k (λ x. x) v) h
    subst_same same = record { shown = same ∙ left.shown; within = left.within }
taken_by v h k s q [] false (Some error) at there t is e left = told_error v h k s at (runs_so h s is).still left
taken_by v h k s q [] true (Some error) at there t is e left = record {
  shown = edit-same (λ (x : StreamView). record x { closing_delivered = true }) v k q there (ap (λ b. record q { closing_delivered = b }) (sym t)) ∙ left.shown;
  within = left.within;
}

-- what is left once an open stream was asked
pub streams_taken : (v : List StreamView) (h : StreamsPast) (k : ℕ) (s : Stream) (q : StreamView) (o : Option Error) → slice_get h.streams k ≡ Some s → slice_get v k ≡ Some q → q ≡ kept h.capacities.rules h.read s
    → runs h.read s ≡ true → RefinesStreams v h → RefinesStreams (edit k (after_by q.items o) v) (after_all (take_events k (Ok (take_by q.items o q.closing_delivered))) h)
streams_taken v h k s q o at there kept_is is left =
    taken_by v h k s q q.items q.closing_delivered o at there refl is (sym (ap (λ (x : StreamView). x.items) (kept_is ∙ kept_runs h.capacities.rules h s is))) left

-- ---- opening

asking_by : (limits : Rule → ℕ) (s : Stream) (gone open_reported : Bool) (p : Phase) (closing : Option Error) → s.open_reported ≡ open_reported
    → asked_by (kept_by limits s gone p).open_reported (kept_by limits s gone p).standing (kept_by limits s gone p).items closing ≡ (if gone || open_reported then OpenState.Unknown else opening_by p closing)
asking_by limits s true r p closing e = refl
asking_by limits s false true (Since ms) closing e = rw e refl
asking_by limits s false true (Asking add) closing e = rw e refl
asking_by limits s false true (Denied m) closing e = rw e refl
asking_by limits s false false (Since ms) closing e = rw e refl
asking_by limits s false false (Asking add) None e = rw e refl
asking_by limits s false false (Asking add) (Some error) e = rw e refl
asking_by limits s false false (Denied m) closing e = rw e refl

asking_so : (limits : Rule → ℕ) (ms : List MessageView) (s : Stream) (q : StreamView) (closing : Option Error) → q ≡ kept limits ms s → asked_by q.open_reported q.standing q.items closing ≡ opening_at ms closing (Some s)
unfolding kept
asking_so limits ms s q closing e =
    ap (λ (x : StreamView). asked_by x.open_reported x.standing x.items closing) e ∙ asking_by limits s s.gone s.open_reported (phase ms s) closing refl

pub asked_so : (h : StreamsPast) (k : ℕ) (s : Stream) (q : StreamView) (closing : Option Error) → slice_get h.streams k ≡ Some s → q ≡ kept h.capacities.rules h.read s → closing ≡ h.closing
    → asked_by q.open_reported q.standing q.items closing ≡ opening_answer h k
unfolding opening_answer
asked_so h k s q closing at is same =
    asking_so h.capacities.rules h.read s q closing is ∙ ap (λ (c : Option Error). opening_at h.read c (Some s)) same ∙ ap (opening_at h.read h.closing) (sym at)

pub asked_past : (h : StreamsPast) (k : ℕ) → slice_get h.streams k ≡ None → OpenState.Unknown ≡ opening_answer h k
unfolding opening_answer
asked_past h k at = ap (opening_at h.read h.closing) (sym at)

-- one that is told so was not closed
told_open : (ms : List MessageView) (closing : Option Error) (s : Stream) (gone : Bool) → (if gone || s.open_reported then OpenState.Unknown else opening_by (phase ms s) closing) ≡ OpenState.Open → gone ≡ false
told_open ms closing s true e = cc
told_open ms closing s false e = refl

-- and what is left
pub streams_opened : (v : List StreamView) (h : StreamsPast) (k : ℕ) (s : Stream) (state : OpenState) → slice_get h.streams k ≡ Some s → opening_at h.read h.closing (Some s) ≡ state → RefinesStreams v h
    → RefinesStreams (edit k (after_ask state) v) (after_all (opening_events k state) h)
unfolding kept matched phase
streams_opened v h k s OpenState.Open at is left =
    let before = all_at (IsWithin h.read) h.streams k s at left.within in
    edited v h k s (done_by Opened) (λ q. record q { open_reported = true }) at (by s.gone (phase h.read s) (told_open h.read h.closing s s.gone is)) (record { start = before.start; passed = before.passed }) left
  where
    by : (gone : Bool) (p : Phase) → gone ≡ false → kept_by h.capacities.rules (done_by Opened s) gone p ≡ record (kept_by h.capacities.rules s gone p) { open_reported = true }
    by true p e = cc
    by false (Since xs) e = refl
    by false (Asking add) e = refl
    by false (Denied m) e = refl
streams_opened v h k s (OpenState.Refused m) at is left = streams_ended k v h left
streams_opened v h k s (OpenState.Over error) at is left = streams_ended k v h left
streams_opened v h k s OpenState.Unknown at is left = record { shown = edit-none (λ q. q) (λ q. refl) v k ∙ left.shown; within = left.within }
streams_opened v h k s OpenState.NotYet at is left = record { shown = edit-none (λ q. q) (λ q. refl) v k ∙ left.shown; within = left.within }
