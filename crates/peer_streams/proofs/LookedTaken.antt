-- What a take, and who asks whether a stream is open, are told; and what is kept then.
use Rattle.std.proofs.{Common.{◌≡◌, ◌≢◌, ℕ, inl, inr, refl, sym, ◌∙◌, ap, subst, Bool, true, false, ◌&&◌, List, [], Option, Some, None, Ok}, lemmas.Bool.cases_lt}
use Rattle.wire_message.specs.Plain.{edit}
use Rattle.peer_streams.specs.{Names.{MessageView, Error, StreamState, Progress, OpenState}, History.{Gone, Opened, Did, StreamsPast, after, after_all}, Streams.{runs, take_by, take_events, opening_at, opening_answer, opening_events}, Refinement.{StreamView, kept, gone_view, after_by, asked_by, RefinesStreams}, Keeping.{Parts, AreKept, state_at, held_of, messages_of, shown, shown_by, view_at, views, waits, is_active, refusal_of, once_told}}
use Rattle.peer_streams.proofs.{Views.{views_length, views_at}, StreamsMade.{is_usable, usable_runs, past_read}, StreamsTaken.{streams_taken, asked_so, asked_past, streams_opened}, LookedUp.{IsUsable, IsThere, there_view, known_view}, HeldChanges.{views_changed}}

-- ---- takes

runs_there : (p : Parts) (h : StreamsPast) (k : ℕ) (st : StreamState) → IsUsable p k st → (is : IsThere (views p) h k (view_at p k)) → runs h.read is.stream ≡ true
runs_there p h k st usable is =
    sym (usable_runs h.capacities.rules h.read is.stream) ∙ ap is_usable (sym is.kept_is ∙ usable.view) ∙ ap (λ b. b && true) usable.reported

-- what is left once an open stream was taken from that holds these
pub taken_left : {p : Parts} {waiting : List ℕ} → AreKept p waiting → (h : StreamsPast) → RefinesStreams (views p) h → (k : ℕ) (st : StreamState) → IsUsable p k st → (items : List MessageView) (closing : Option Error)
    → messages_of (held_of p.lists st.rule k) ≡ items → RefinesStreams (edit k (after_by items closing) (views p)) (after_all (take_events k (Ok (take_by items closing st.closing_delivered))) h)
taken_left {p} {waiting} kept h left k st usable items closing has =
    let is = there_view (views p) h k (view_at p k) left (known_view kept k st usable.known) in
    subst (λ xs. RefinesStreams (edit k (after_by xs closing) (views p)) (after_all (take_events k (Ok (take_by xs closing st.closing_delivered))) h)) has
    (subst (λ (q : StreamView). RefinesStreams (edit k (after_by q.items closing) (views p)) (after_all (take_events k (Ok (take_by q.items closing q.closing_delivered))) h)) usable.view
    (streams_taken (views p) h k is.stream (view_at p k) closing is.at is.view is.kept_is (runs_there p h k st usable is) left))

told_by : (p : Parts) (states : List (ℕ × StreamState)) (k : ℕ) (st : StreamState) (closing : Option Error) → IsUsable p k st → state_at (record p { states = states }) k ≡ Some (once_told closing st)
    → view_at (record p { states = states }) k ≡ after_by [] closing (view_at p k)
told_by p states k st None usable new =
    let q : Parts = record p { states = states } in ap (shown q k) new ∙ ap (shown_by q k st) usable.active ∙ sym usable.view
told_by p states k st (Some error) usable new =
    let q : Parts = record p { states = states } in
    ap (shown q k) new ∙ ap (shown_by q k (record st { closing_delivered = true })) usable.active ∙ ap (λ (x : StreamView). record x { closing_delivered = true }) (sym usable.view)

-- one that holds nothing is told what closed the peer
pub told_view : (p : Parts) (states : List (ℕ × StreamState)) (k : ℕ) (st : StreamState) (closing : Option Error) → IsUsable p k st → state_at (record p { states = states }) k ≡ Some (once_told closing st)
    → ((j : ℕ) → k ≢ j → state_at (record p { states = states }) j ≡ state_at p j) → views (record p { states = states }) ≡ edit k (after_by [] closing) (views p)
told_view p states k st closing usable new others = views_changed (after_by [] closing) p states k (told_by p states k st closing usable new) others

pub told_alike : (closing : Option Error) (st : StreamState) → ((once_told closing st).rule ≡ st.rule) × ((once_told closing st).progress ≡ st.progress)
told_alike None st = (refl, refl)
told_alike (Some error) st = (refl, refl)

-- ---- whether it is open

-- by whether it was told so, and how far it is opened
abbrev pub asked_known : Bool → Progress → Option Error → OpenState
asked_known true pr closing = OpenState.Unknown
asked_known false (Progress.AwaitingReply serial index denial) None = OpenState.NotYet
asked_known false (Progress.AwaitingReply serial index denial) (Some error) = OpenState.Over error
asked_known false (Progress.Denied m) closing = OpenState.Refused m
asked_known false Progress.Active closing = OpenState.Open

asked_of : (p : Parts) (k : ℕ) (st : StreamState) (pr : Progress) (b : Bool) (closing : Option Error) → st.open_reported ≡ b
    → asked_known b pr closing ≡ asked_by (shown_by p k st pr).open_reported (shown_by p k st pr).standing (shown_by p k st pr).items closing
asked_of p k st (Progress.AwaitingReply serial index denial) true closing e = rw e refl
asked_of p k st (Progress.Denied m) true closing e = rw e refl
asked_of p k st Progress.Active true closing e = rw e refl
asked_of p k st (Progress.AwaitingReply serial index denial) false None e = rw e refl
asked_of p k st (Progress.AwaitingReply serial index denial) false (Some error) e = rw e refl
asked_of p k st (Progress.Denied m) false closing e = rw e refl
asked_of p k st Progress.Active false closing e = rw e refl

pub asked_answer : {p : Parts} {waiting : List ℕ} → AreKept p waiting → (h : StreamsPast) → RefinesStreams (views p) h → (k : ℕ) (st : StreamState) → state_at p k ≡ Some st → (closing : Option Error) → closing ≡ h.closing
    → asked_known st.open_reported st.progress closing ≡ opening_answer h k
asked_answer {p} {waiting} kept h left k st known closing same =
    let is = there_view (views p) h k (view_at p k) left (known_view kept k st known) in
    asked_of p k st st.progress st.open_reported closing refl
    ∙ ap (λ (q : StreamView). asked_by q.open_reported q.standing q.items closing) (sym (ap (shown p k) known))
    ∙ asked_so h k is.stream (view_at p k) closing is.at is.kept_is same

pub asked_unknown : {p : Parts} {waiting : List ℕ} → AreKept p waiting → (h : StreamsPast) → RefinesStreams (views p) h → (k : ℕ) → state_at p k ≡ None → OpenState.Unknown ≡ opening_answer h k
asked_unknown {p} {waiting} kept h left k none = elim (cases_lt k p.made) [
  | inl lt ↦
      let is = there_view (views p) h k (view_at p k) left (views_at p k lt) in
      ap (λ (q : StreamView). asked_by q.open_reported q.standing q.items h.closing) (sym (ap (shown p k) none)) ∙ asked_so h k is.stream (view_at p k) h.closing is.at is.kept_is refl
  | inr le ↦ asked_past h k (past_read (views p) h p.made k left (sym (views_length p)) le)
]

-- each case
pub asked_reported : (pr : Progress) (closing : Option Error) (b : Bool) → b ≡ true → OpenState.Unknown ≡ asked_known b pr closing
asked_reported pr closing b e = ap (λ x. asked_known x pr closing) (sym e)

pub asked_active : (pr : Progress) (closing : Option Error) (b : Bool) → b ≡ false → is_active pr ≡ true → OpenState.Open ≡ asked_known b pr closing
asked_active (Progress.AwaitingReply serial index denial) closing b e f = cc
asked_active (Progress.Denied m) closing b e f = cc
asked_active Progress.Active closing b e f = ap (λ x. asked_known x Progress.Active closing) (sym e)

abbrev pub asked_waiting : Option Error → OpenState
asked_waiting None = OpenState.NotYet
asked_waiting (Some error) = OpenState.Over error

pub asked_waits : (pr : Progress) (closing : Option Error) (b : Bool) → b ≡ false → waits pr ≡ true → asked_waiting closing ≡ asked_known b pr closing
asked_waits (Progress.AwaitingReply serial index denial) None b e f = ap (λ x. asked_known x (Progress.AwaitingReply serial index denial) None) (sym e)
asked_waits (Progress.AwaitingReply serial index denial) (Some error) b e f = ap (λ x. asked_known x (Progress.AwaitingReply serial index denial) (Some error)) (sym e)
asked_waits (Progress.Denied m) closing b e f = cc
asked_waits Progress.Active closing b e f = cc

pub asked_denied : (pr : Progress) (closing : Option Error) (b : Bool) → b ≡ false → is_active pr ≡ false → waits pr ≡ false → refusal_of pr ≡ asked_known b pr closing
asked_denied (Progress.AwaitingReply serial index denial) closing b e f g = cc
asked_denied (Progress.Denied m) closing b e f g = ap (λ x. asked_known x (Progress.Denied m) closing) (sym e)
asked_denied Progress.Active closing b e f g = cc

-- an answer that changes nothing, and one that closes it
pub refused_gone : (pr : Progress) (h : StreamsPast) (k : ℕ) → is_active pr ≡ false → waits pr ≡ false → after (Did k Gone) h ≡ after_all (opening_events k (refusal_of pr)) h
refused_gone (Progress.AwaitingReply serial index denial) h k e f = cc
refused_gone (Progress.Denied m) h k e f = refl
refused_gone Progress.Active h k e f = cc

-- who asked for it is told that it is open
pub opened_left : {p : Parts} {waiting : List ℕ} → AreKept p waiting → (h : StreamsPast) → RefinesStreams (views p) h → (k : ℕ) (st : StreamState) → state_at p k ≡ Some st → OpenState.Open ≡ opening_answer h k
    → RefinesStreams (edit k (λ q. record q { open_reported = true }) (views p)) (after (Did k Opened) h)
unfolding opening_answer
opened_left {p} {waiting} kept h left k st known told =
    let is = there_view (views p) h k (view_at p k) left (known_view kept k st known) in
    streams_opened (views p) h k is.stream OpenState.Open is.at (ap (opening_at h.read h.closing) (sym is.at) ∙ sym told) left

reported_by : (p : Parts) (states : List (ℕ × StreamState)) (k : ℕ) (st : StreamState) (pr : Progress) → shown_by (record p { states = states }) k (record st { open_reported = true }) pr ≡ record (shown_by p k st pr) { open_reported = true }
reported_by p states k st (Progress.AwaitingReply serial index denial) = refl
reported_by p states k st (Progress.Denied m) = refl
reported_by p states k st Progress.Active = refl

pub reported_view : (p : Parts) (states : List (ℕ × StreamState)) (k : ℕ) (st : StreamState) → state_at p k ≡ Some st → state_at (record p { states = states }) k ≡ Some (record st { open_reported = true })
    → ((j : ℕ) → k ≢ j → state_at (record p { states = states }) j ≡ state_at p j) → views (record p { states = states }) ≡ edit k (λ q. record q { open_reported = true }) (views p)
reported_view p states k st known new others =
    views_changed (λ q. record q { open_reported = true }) p states k
    (ap (shown (record p { states = states }) k) new ∙ reported_by p states k st st.progress ∙ ap (λ (q : StreamView). record q { open_reported = true }) (sym (ap (shown p k) known))) others

-- and of one that was denied nothing is kept
pub refused_view : (p : Parts) (states : List (ℕ × StreamState)) (k : ℕ) → state_at (record p { states = states }) k ≡ None → ((j : ℕ) → k ≢ j → state_at (record p { states = states }) j ≡ state_at p j)
    → views (record p { states = states }) ≡ edit k (λ q. gone_view) (views p)
refused_view p states k new others = views_changed (λ q. gone_view) p states k (ap (shown (record p { states = states }) k) new) others
