-- The serials of a command's messages are drawn one after another, and their calls made.
use Rattle.wire_message.proofs.Edits.{all_push}
use Rattle.peer_calls.proofs.{CallsMade.Early, Slots.pending-left, NextSerial.{next_serial-next, next_serial-none}}
use Rattle.std.proofs.{Common.{◌≤◌, ◌≡◌, ℕ, suc, ◌+◌, get_or, drop, refl, sym, ◌∙◌, ap, subst, arith, Bool, true, false, List, [], ◌∷◌, ◌++◌, length, map, find, Option, None, Some, Ok, Err, ◌<◌, append_assoc, option_map, ◌&&◌, if◌then◌else◌, Result}, Math.Seq.{drop-length, drop-cons}, lemmas.List.{append-nil, map-append}}
use Rattle.peer_calls.specs.Placing.{Draws as Draws_}
use Rattle.peer_calls.specs.{Names.{MessageView, IsNext, AllTaken, Draws, Error, Slot}, History.{Call, Put, call_by, CallsPast, after, Purpose, RemoveMatch, OfLane}, Calls.{reply, pending}, Issuing.{Posting, posted, put_of, put_each, next_serial, drawn}, Refinement.{slot_of, slot_by, CallsView, waiting_serial, RefinesCalls}, Placing.{IsCounted, posts, AreMade}}
use Rattle.wire_message.specs.{Replying.replies_to, Outgoing.{OutgoingMessageView, message_of, sent_by, expects}, BuilderView.built}

-- ---- a call is made

slot_new : (h : CallsPast) (m : MessageView) (internal : Bool) → slot_of h.read (call_by h m internal) ≡ Slot.Waiting m.serial internal
unfolding slot_of reply
slot_new h m internal = ap (λ ms. slot_by internal m.serial (find (replies_to m.serial) ms)) (drop-length h.read)

-- one call more, which waits for a reply to this serial
abbrev pub with_call : Bool → ℕ → CallsView → CallsView
with_call internal serial v = record v { slots = v.slots ++ Slot.Waiting serial internal ∷ [] }

-- a call more, after an event that reads nothing, closes nothing, and makes one call
pub called : (m : MessageView) (internal : Bool) (v new : CallsView) (g h : CallsPast) → new ≡ with_call internal m.serial v → g.read ≡ h.read → g.closing ≡ h.closing → g.calls ≡ h.calls ++ call_by h m internal ∷ []
    → waiting_serial v m.serial ≡ false → RefinesCalls v h → RefinesCalls new g
called m internal v new g h e reads shut_ made free left = record {
  slots = ap (λ (w : CallsView). w.slots) e ∙ ap (λ ss. ss ++ Slot.Waiting m.serial internal ∷ []) left.slots
      ∙ sym (map-append (slot_of h.read) h.calls (call_by h m internal ∷ []) ∙ ap (λ s. map (slot_of h.read) h.calls ++ s ∷ []) (slot_new h m internal))
      ∙ ap (map (slot_of h.read)) (sym made) ∙ ap (λ (ms : List MessageView). map (slot_of ms) g.calls) (sym reads);
  closing = ap (λ (w : CallsView). w.closing) e ∙ left.closing ∙ sym shut_;
  early =
      let one : Early (length h.read) (h.calls ++ call_by h m internal ∷ []) = all_push (λ (c : Call). c.from ≤ length h.read) h.calls (call_by h m internal) (omega arith) left.early in
      subst (λ (ms : List MessageView). Early (length ms) g.calls) (sym reads) (subst (Early (length h.read)) (sym made) one);
}

-- why a message is put that makes no stream
abbrev pub purpose_of : Bool → Bool → Purpose
purpose_of internal waits = if internal && waits then RemoveMatch else OfLane waits

-- ---- one serial

pub message_serial : (outgoing : OutgoingMessageView) (serial : ℕ) → (message_of outgoing serial).serial ≡ serial
unfolding message_of built
message_serial outgoing serial = refl

IsNext-along : (f g : ℕ → Bool) (last serial : ℕ) → ((n : ℕ) → f n ≡ g n) → IsNext f last serial → IsNext g last serial
IsNext-along f g last serial e x = record {
  place = x.place;
  one = x.one;
  round = x.round;
  there = x.there;
  free = sym (e serial) ∙ x.free;
  first = λ k a b. sym (e _) ∙ x.first k a b;
}

-- the serial that is drawn by the calls that are kept is the next
pub next_so : (v : CallsView) (last serial : ℕ) (h : CallsPast) → IsCounted v last h → IsNext (waiting_serial v) last serial → next_serial h ≡ Some serial
next_so v last serial h left next =
    next_serial-next h serial
    (subst (λ n. IsNext (pending h) n serial) left.1 (IsNext-along (waiting_serial v) (pending h) last serial (λ n. sym (pending-left v h left.0 n)) next))

pub none_so : (v : CallsView) (last : ℕ) (h : CallsPast) → IsCounted v last h → AllTaken (waiting_serial v) → next_serial h ≡ None
none_so v last h left all = next_serial-none h (λ serial a b. pending-left v h left.0 serial ∙ all serial a b)

pub drawn_not : (d : Posting) (v : CallsView) (last new : ℕ) (h : CallsPast) (error : Error) → IsCounted v last h → Draws (waiting_serial v) last new (Err error) → Draws_ (λ serial. serial) (next_serial h) (λ serial. after (put_of d serial) h) v new (Err error)
drawn_not d v last new h Error.SerialsSpent left x = none_so v last h left x.0
drawn_not d v last new h Error.Memory left x = tt
drawn_not d v last new h other left x = absurd x

calls_put : (internal : Bool) (m : MessageView) (v : CallsView) (h : CallsPast) → waiting_serial v m.serial ≡ false → RefinesCalls v h → RefinesCalls (with_call internal m.serial v) (after (Put m (purpose_of internal true)) h)
calls_put false m v h free left = called m false v (with_call false m.serial v) (after (Put m (purpose_of false true)) h) h refl refl refl refl free left
calls_put true m v h free left = called m true v (with_call true m.serial v) (after (Put m (purpose_of true true)) h) h refl refl refl refl free left

calls_kept : (internal : Bool) (m : MessageView) (v : CallsView) (h : CallsPast) → RefinesCalls v h → RefinesCalls v (after (Put m (purpose_of internal false)) h)
calls_kept false m v h left = left
calls_kept true m v h left = left

-- a message that expects a reply, with its call
pub counted_call : (internal : Bool) (outgoing : OutgoingMessageView) (serial last : ℕ) (v new : CallsView) (h : CallsPast) → expects outgoing ≡ true → waiting_serial v serial ≡ false → new ≡ with_call internal serial v
    → IsCounted v last h → IsCounted new serial (after (put_of (posted internal outgoing) serial) h)
counted_call internal outgoing serial last v new h waits free made left =
    let m = message_of outgoing serial in
    let own = message_serial outgoing serial in
    let whole = calls_put internal m v h (ap (waiting_serial v) own ∙ free) left.0 in (
      rw (made, waits) (subst (λ n. RefinesCalls (with_call internal n v) (after (Put m (purpose_of internal true)) h)) own whole),
      sym own,
    )

-- one that doesn't
pub counted_quiet : (internal : Bool) (outgoing : OutgoingMessageView) (serial last : ℕ) (v : CallsView) (h : CallsPast) → expects outgoing ≡ false
    → IsCounted v last h → IsCounted v serial (after (put_of (posted internal outgoing) serial) h)
counted_quiet internal outgoing serial last v h waits left = (rw waits (calls_kept internal (message_of outgoing serial) v h left.0), sym (message_serial outgoing serial))

-- ---- several

-- what drawing the serials of several messages gives
abbrev pub DrawsEach : {A : Type 0} → (A → List ℕ) → List Posting → CallsPast → CallsView → ℕ → Result A Error → Type 0
DrawsEach read ds p calls last result = Draws_ read (drawn p ds) (λ serials. put_each ds serials p) calls last result

abbrev pub behind : List ℕ → Option (List ℕ) → Option (List ℕ)
behind serials rest = option_map (λ more. serials ++ more) rest

-- Some messages have these serials, and the rest are left, by the past `now` that the first leave.
pub record Drawing (ds : List Posting) (p : CallsPast) (serials : List ℕ) (rest : List Posting) (v : CallsView) (last : ℕ) : Type 0 where
  pub now : CallsPast
  pub counted : IsCounted v last now
  pub due : drawn p ds ≡ behind serials (drawn now rest)
  pub ends : (more : List ℕ) → put_each ds (serials ++ more) p ≡ put_each rest more now

behind_none : (o : Option (List ℕ)) → o ≡ behind [] o
behind_none None = refl
behind_none (Some serials) = refl

behind_more : (serials : List ℕ) (serial : ℕ) (o : Option (List ℕ)) → behind serials (option_map (λ more. serial ∷ more) o) ≡ behind (serials ++ serial ∷ []) o
behind_more serials serial None = refl
behind_more serials serial (Some more) = ap Some (sym (append_assoc serials (serial ∷ []) more))

pub drawing_start : (ds : List Posting) (p : CallsPast) (v : CallsView) (last : ℕ) → IsCounted v last p → Drawing ds p [] ds v last
drawing_start ds p v last counted = record { now = p; counted = counted; due = behind_none (drawn p ds); ends = λ more. refl }

pub drawing_more : (ds : List Posting) (p : CallsPast) (serials : List ℕ) (d : Posting) (rest : List Posting) (v w : CallsView) (last then_last serial : ℕ) (x : Drawing ds p serials (d ∷ rest) v last)
    → next_serial x.now ≡ Some serial → IsCounted w then_last (after (put_of d serial) x.now) → Drawing ds p (serials ++ serial ∷ []) rest w then_last
drawing_more ds p serials d rest v w last then_last serial x next counted =
    let then_ = after (put_of d serial) x.now in
    let due_ : drawn x.now (d ∷ rest) ≡ option_map (λ more. serial ∷ more) (drawn then_ rest) = rw next refl in
    record {
      now = then_;
      counted = counted;
      due = x.due ∙ ap (behind serials) due_ ∙ behind_more serials serial (drawn then_ rest);
      ends = λ more. ap (λ ns. put_each ds ns p) (append_assoc serials (serial ∷ []) more) ∙ x.ends (serial ∷ more);
    }

drawing_spent : (ds : List Posting) (p : CallsPast) (serials : List ℕ) (d : Posting) (rest : List Posting) (v : CallsView) (last : ℕ) (x : Drawing ds p serials (d ∷ rest) v last)
    → next_serial x.now ≡ None → drawn p ds ≡ None
drawing_spent ds p serials d rest v last x none = x.due ∙ ap (behind serials) (let e : drawn x.now (d ∷ rest) ≡ None = rw none refl in e)

-- a message that isn't numbered refuses them all
pub drawing_refused : {A : Type 0} (items : A → List ℕ) (ds : List Posting) (p : CallsPast) (serials : List ℕ) (d : Posting) (rest : List Posting) (v w : CallsView) (last then_last : ℕ) (error : Error) (x : Drawing ds p serials (d ∷ rest) v last)
    → Draws_ (λ serial. serial) (next_serial x.now) (λ serial. after (put_of d serial) x.now) w then_last (Err error)
    → DrawsEach items ds p w then_last (Err error)
drawing_refused items ds p serials d rest v w last then_last Error.SerialsSpent x none = drawing_spent ds p serials d rest v last x none
drawing_refused items ds p serials d rest v w last then_last Error.Memory x none = tt
drawing_refused items ds p serials d rest v w last then_last other x none = absurd none

pub drawing_done : (ds : List Posting) (p : CallsPast) (serials : List ℕ) (v : CallsView) (last : ℕ) → Drawing ds p serials [] v last → (drawn p ds ≡ Some serials) × IsCounted v last (put_each ds serials p)
drawing_done ds p serials v last x =
    let all = append-nil serials in
    (x.due ∙ ap Some all, subst (IsCounted v last) (sym (ap (λ ns. put_each ds ns p) (sym all) ∙ x.ends [])) x.counted)

-- ---- the loop

pub next_dropped : {A : Type 0} (xs : List A) (i : ℕ) (x : A) → i < length xs → x ≡ get_or xs i x → drop i xs ≡ x ∷ drop (i + 1) xs
next_dropped xs i x less e = let n : suc i ≡ i + 1 = omega arith in drop-cons xs i x less ∙ ap (λ y. y ∷ drop (suc i) xs) (sym e) ∙ ap (λ k. x ∷ drop k xs) n

pub made_more : (u v w : CallsView) → AreMade u v → AreMade v w → AreMade u w
made_more u v w a b =
    (a.0 ++ b.0, b.1 ∙ ap (λ (x : CallsView). record { slots = x.slots ++ b.0; closing = x.closing }) a.1 ∙ ap (λ ss. record { slots = ss; closing = u.closing }) (append_assoc u.slots a.0 b.0))

-- the next of the messages that are left
pub next_posted : (internal : Bool) (name : Option (List ℕ)) (served : Bool) (rest : List OutgoingMessageView) (p : OutgoingMessageView) (more : List OutgoingMessageView) → rest ≡ p ∷ more
    → posts internal name served rest ≡ posted internal (sent_by name served p) ∷ posts internal name served more
next_posted internal name served rest p more e = ap (posts internal name served) e
