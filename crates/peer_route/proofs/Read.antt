-- What answers a call, where that stands among the messages read, and that the call is over for good then; and that a message that isn't
-- for it, and a poll or a drop of another, leave its answer as it was.
use Rattle.peer_calls.specs.Calls.{drop_answer as calls_drop_answer}
use Rattle.peer_calls.specs.Calls.{pending as calls_pending}
use Rattle.peer_calls.specs.Calls.{poll_answer as calls_poll_answer}
use Rattle.std.proofs.{Common.{inl, inr, ◌≡◌, ◌⊎◌, ℕ, zero, suc, ◌+◌, ◌<◌, cond, if◌then◌else◌, arith, refl, sym, ◌∙◌, subst, Bool, true, false, List, [], ◌∷◌, ◌++◌, length, drop, Option, Some, None, Result, Ok, Err, ◌||◌, ◌==◌, ap, option_map, ◌≢◌, ◌&&◌, not, is_some, is_none, IfSome}, lemmas.Option.slice_get-map, lemmas.List.drop-drop, Math.Seq.{drop-append_seam, drop-nil}, lemmas.Bool.{eqb-true, cases_Bool, eq-eqb, or_parts, and_parts}}
use Rattle.std.specs.List.{slice_get, find, AllByRecursion, list_any}
use Rattle.peer_route.specs.{Names.{MessageView, MessageType, Error, Polled, Words, CallOp, Answer, Entry}, Replay.{Setting, Replay, handle_index, Owners}, Answers.{error_answer, reply_by, answer_of_poll, reply_answer, answer_of_drop}, Plan.{Plan, Reads, where_named, on_call, plan, refuses, Says}, Entries.{IsMeant, IsRead, Legal, replay, read_events, deeds, past_after, IsEntry, IsQuiet, more, more_by}, Laws.{IsPoll, IsReplyAt, IsFirstReply, IsCutOff, IsFinal, IsUnknown, SameCall, IsPast}, Environment.left_after}
use Rattle.peer_core.specs.{History.{Event, Received, Passed, Past, after, after_all, Put, WriteFailed, CallFinished}, Asked.{poll_answer, drop_answer, drop_events, poll_events, pending}}
use Rattle.peer_calls.specs.{History.{Call, OfLane, AddMatch, RemoveMatch, spend, fail_at}, Calls.{reply, is_nobodys, polled_by, is_gone, is_awaited}}
use Rattle.wire_message.specs.{Replying.{replies_to, is_reply, is_serial}, Plain.edit, Polls.by_position}
use Rattle.peer_route.proofs.{Plans.{IsDeed, legal_from}, Kept.{at_start, Keeps, entry_keeps, deeds_all, every_entry, later, quiet_past, quiet_more}, Places.{place_append, one_place}}
use Rattle.wire_message.proofs.Edits.{edit_here, get_append, edit_other}
use Rattle.peer_calls.proofs.Looks.{dropped_at, polled_at}

-- ---- positions

-- each message that was read has the position of its place, from 1 on
abbrev Ranked : List MessageView → Type 0
Ranked ms = (i : ℕ) (m : MessageView) → slice_get ms i ≡ Some m → m.position ≡ i + 1

ranked_push : (ms : List MessageView) (n i : ℕ) (m x : MessageView) → ((j : ℕ) (y : MessageView) → slice_get ms j ≡ Some y → y.position ≡ n + j + 1) → m.position ≡ n + length ms + 1 → slice_get (ms ++ m ∷ []) i ≡ Some x → x.position ≡ n + i + 1
ranked_push [] n zero m x r e at = let same : m ≡ x = cc in subst (λ (y : MessageView). y.position ≡ n + 0 + 1) same e
ranked_push [] n (suc i) m x r e at = cc
ranked_push (y ∷ ms) n zero m x r e at = r 0 x at
ranked_push (y ∷ ms) n (suc i) m x r e at =
    let rest : x.position ≡ n + 1 + i + 1 = ranked_push ms (n + 1) i m x (λ j z is. let rank : z.position ≡ n + suc j + 1 = r (suc j) z is in omega arith) (omega arith) at in omega arith

ranked_read : (h : Past) (m : Option MessageView) (a : Answer) → IsRead (length h.read) m a → Ranked h.read → Ranked (after_all (read_events m a) h).read
ranked_read h (Some m) a is r = λ i x at. ranked_push h.read 0 i m x (λ j y q. r j y q ∙ omega arith) (is.2 ∙ omega arith) at ∙ omega arith
ranked_read h None (Answer.Closed error) is r = r
ranked_read h None (Answer.Passed bytes) is r = r
ranked_read h None a is r = r

-- all but a read leave the messages that were read
ranked_more : (t : Replay) (lane : ℕ) (w : Words) (pl : Plan) (e : Entry) → plan t lane w ≡ pl → IsMeant t.past pl e → Ranked t.past.read → Ranked (past_after pl e t.past).read
ranked_more t lane w Reads e at is r = subst (λ (q : Past). Ranked q.read) (sym (quiet_past Reads e t.past is.1)) (ranked_read t.past e.read e.answer is.0 r)
ranked_more t lane w pl e at is r =
    let done = deeds_all (Keeps (λ q. q.read)) read_kept (λ error h. refl) t lane e w (λ reads. cc) (λ line. (λ h. refl, λ h. refl)) in
    subst Ranked (sym (entry_keeps (λ q. q.read) pl e t.past (subst (λ x. AllByRecursion (Keeps (λ q. q.read)) (deeds x e)) at done) (λ m purpose h. refl) (λ h. refl) (λ h. refl))) r
  where
    read_kept : (e : Event) → IsDeed e → (h : Past) → (after e h).read ≡ h.read
    read_kept (Received m) is h = absurd is
    read_kept e is h = refl

ranked : (setting : Setting) (es : List Entry) → Legal setting es → Ranked (replay setting es).past.read
ranked setting [] legal = at_start (λ h. Ranked h.read) (λ i m at. cc) (λ limit h r. r) (λ h r. r) (λ name h r. r) setting
ranked setting (e ∷ es) legal = let t = replay setting es in ranked_more t e.lane e.words (plan t e.lane e.words) e refl legal.0 (ranked setting es legal.1)

-- a message that was read has the position of its place
pub at_place : (setting : Setting) (es : List Entry) (i : ℕ) (m : MessageView) → Legal setting es → slice_get (replay setting es).past.read i ≡ Some m → m.position ≡ i + 1
at_place setting es i m legal at = ranked setting es legal i m at

pub in_order : (setting : Setting) (es : List Entry) (i j : ℕ) (m n : MessageView) → Legal setting es → i < j → slice_get (replay setting es).past.read i ≡ Some m
    → slice_get (replay setting es).past.read j ≡ Some n → m.position < n.position
in_order setting es i j m n legal less at at₂ =
    let p = at_place setting es i m legal at in
    let q = at_place setting es j n legal at₂ in
    omega (arith, less, p, q)

-- ---- what is left of the source's bytes after one front more

-- so many bytes more were taken
dropped_more : (bytes left own : List ℕ) (taken : ℕ) → drop taken bytes ≡ own ++ left → drop (taken + length own) bytes ≡ left
dropped_more bytes left own taken e = sym (drop-drop (length own) taken bytes) ∙ ap (λ ys. drop (length own) ys) e ∙ drop-append_seam own left

pub left_after-took : (bytes left : List ℕ) (h : Past) (m : MessageView) → left_after bytes h ≡ m.bytes ++ left → left_after bytes (after (Received m) h) ≡ left
left_after-took bytes left h m e = dropped_more bytes left m.bytes h.taken e

pub left_after-passed : (bytes left : List ℕ) (h : Past) (front : List ℕ) → left_after bytes h ≡ front ++ left → left_after bytes (after (Passed front) h) ≡ left
left_after-passed bytes left h front e = dropped_more bytes left front h.taken e

-- ---- what a search finds

stands_by : {A : Type 0} (p : A → Bool) (xs : List A) (m : A) → find p xs ≡ Some m → (i : ℕ) × (slice_get xs i ≡ Some m)
stands_by p [] m e = cc
stands_by {A} p (x ∷ xs) m e =
    elim (p x) as (λ b. cond b (Some x) (find p xs) ≡ Some m → (i : ℕ) × (slice_get (x ∷ xs) i ≡ Some m)) [
      | true ↦ λ q. (0, q)
      | false ↦ λ q. let rest = stands_by p xs m q in (suc rest.0, rest.1)
    ] e

stands : {A : Type 0} (p : A → Bool) (n : ℕ) (xs : List A) (m : A) → find p (drop n xs) ≡ Some m → (i : ℕ) × (slice_get xs i ≡ Some m)
stands p zero xs m e = stands_by p xs m e
stands p (suc n) [] m e = cc
stands p (suc n) (x ∷ xs) m e = let rest = stands p n xs m e in (suc rest.0, rest.1)

none_passes : {A : Type 0} (p : A → Bool) (xs : List A) → find p xs ≡ None → AllByRecursion (λ x. p x ≡ false) xs
none_passes p [] e = tt
none_passes p (x ∷ xs) e =
    elim (p x) as (λ b. p x ≡ b → cond b (Some x) (find p xs) ≡ None → (p x ≡ false) × AllByRecursion (λ y. p y ≡ false) xs) [
      | true ↦ λ at q. cc
      | false ↦ λ at q. (at, none_passes p xs q)
    ] refl e

-- ---- what a poll shows

-- what shows a reply says its position, and isn't the closing error
error_shows : (m : MessageView) (name : Option (List ℕ)) → ((q : ℕ) → IsReplyAt q (error_answer m name) → m.position ≡ q) × ((error : Error) → error_answer m name ≡ Answer.Closed error → ⊥)
error_shows m (Some name) = (λ q is. is, λ error e. cc)
error_shows m None = (λ q is. is, λ error e. cc)

reply_shows : (m : MessageView) (kind : MessageType) → ((q : ℕ) → IsReplyAt q (reply_by m kind) → m.position ≡ q) × ((error : Error) → reply_by m kind ≡ Answer.Closed error → ⊥)
reply_shows m MessageType.Error = error_shows m m.error_name
reply_shows m kind = (λ q is. is, λ error e. cc)

-- what a poll of the lane's call with this number is answered: neither a reply nor the closing error; or what the call's state says
data Polls (t : Replay) (lane number : ℕ) (a : Answer) : Type 0 where
  Dull : ((q : ℕ) → IsReplyAt q a → ⊥) → ((error : Error) → a ≡ Answer.Closed error → ⊥) → Polls t lane number a
  Replied : (k : ℕ) (c : Call) (m : MessageView) → handle_index 0 lane number t.calls ≡ Some k → slice_get t.past.calls k ≡ Some c → reply t.past.read c ≡ Some m → a ≡ reply_answer m → Polls t lane number a
  Cut : (k : ℕ) (c : Call) (error : Error) → handle_index 0 lane number t.calls ≡ Some k → slice_get t.past.calls k ≡ Some c → reply t.past.read c ≡ None → t.past.closing ≡ Some error → a ≡ Answer.Closed error
      → Polls t lane number a

polls_by : (t : Replay) (lane number k : ℕ) (c : Call) (b : Bool) (f : Option MessageView) (o : Option Error) → handle_index 0 lane number t.calls ≡ Some k → slice_get t.past.calls k ≡ Some c → reply t.past.read c ≡ f → t.past.closing ≡ o
    → Polls t lane number (answer_of_poll (if b then Err Error.UnknownHandle else polled_by f o))
polls_by t lane number k c true f o named made at shut = Dull (λ q is. is) (λ error e. cc)
polls_by t lane number k c false (Some m) o named made at shut = Replied k c m named made at refl
polls_by t lane number k c false None (Some error) named made at shut = Cut k c error named made at shut refl
polls_by t lane number k c false None None named made at shut = Dull (λ q is. is) (λ error e. cc)

polls_at : (t : Replay) (lane number k : ℕ) (o : Option Call) → handle_index 0 lane number t.calls ≡ Some k → slice_get t.past.calls k ≡ o → Polls t lane number (answer_of_poll (polled_at t.past.read t.past.closing o))
polls_at t lane number k None named made = Dull (λ q is. is) (λ error e. cc)
polls_at t lane number k (Some c) named made = polls_by t lane number k c (is_nobodys c) (reply t.past.read c) t.past.closing named made refl refl

-- by position it is the same, or that there is none before it
polls_before : (t : Replay) (lane number : ℕ) (r : Result (Polled MessageView) Error) → Polls t lane number (answer_of_poll r) → Polls t lane number (answer_of_poll (by_position r))
polls_before t lane number (Ok Polled.NotYet) p = Dull (λ q is. is) (λ error e. cc)
polls_before t lane number r p = p

polls_named : (t : Replay) (lane number : ℕ) (op : CallOp) (p : Option ℕ) (e : Entry) → handle_index 0 lane number t.calls ≡ p → op ≢ CallOp.Drop → IsMeant t.past (where_named (on_call t.past op) p) e → Polls t lane number e.answer
unfolding calls_poll_answer
polls_named t lane number op None e named poll is = subst (Polls t lane number) (sym is.1) (Dull (λ q r. r) (λ error a. cc))
polls_named t lane number CallOp.Poll (Some k) e named poll is = subst (Polls t lane number) (sym is.1) (polls_at t lane number k (slice_get t.past.calls k) named refl)
polls_named t lane number (CallOp.Before before) (Some k) e named poll is =
    subst (Polls t lane number) (sym is.1) (polls_before t lane number (poll_answer t.past k) (polls_at t lane number k (slice_get t.past.calls k) named refl))
polls_named t lane number CallOp.Drop (Some k) e named poll is = absurd (poll refl)

polls : (t : Replay) (e : Entry) (number : ℕ) → IsMeant t.past (plan t e.lane e.words) e → IsPoll number e.words → Polls t e.lane number e.answer
polls t e number is poll = polls_named t e.lane number poll.0 (handle_index 0 e.lane number t.calls) e refl poll.2 (subst (λ w. IsMeant t.past (plan t e.lane w) e) poll.1 is)

-- the first reply
first_by : (t : Replay) (lane number q : ℕ) (a : Answer) → Ranked t.past.read → Polls t lane number a → IsReplyAt q a → IsFirstReply t lane number q a
unfolding reply
first_by t lane number q a r (Dull neither other) is = absurd (neither q is)
first_by t lane number q a r (Cut k c error named made none shut e) is = absurd (subst (IsReplyAt q) e is)
first_by t lane number q a r (Replied k c m named made first e) is =
    let at = stands (replies_to c.serial) c.from t.past.read m first in
    let position : m.position ≡ q = (reply_shows m m.kind).0 q (subst (IsReplyAt q) e is) in
    let rank : m.position ≡ at.0 + 1 = r at.0 m at.1 in
    record { k = k; call = c; message = m; place_before = at.0; named = named; made = made; first = first; shown = e; position = position; rank = omega arith; stands = at.1 }

pub by_the_first : (setting : Setting) (older : List Entry) (e : Entry) (number q : ℕ) → Legal setting (e ∷ older) → IsPoll number e.words → IsReplyAt q e.answer → IsFirstReply (replay setting older) e.lane number q e.answer
by_the_first setting older e number q legal poll is =
    let t = replay setting older in first_by t e.lane number q e.answer (ranked setting older legal.1) (polls t e number legal.0 poll) is

-- the closing error
cut_by : (t : Replay) (lane number : ℕ) (error : Error) (a : Answer) → Polls t lane number a → a ≡ Answer.Closed error → IsCutOff t lane number error
unfolding reply
cut_by t lane number error a (Dull other neither) is = absurd (neither error is)
cut_by t lane number error a (Replied k c m named made first e) is = absurd ((reply_shows m m.kind).1 error (sym e ∙ is))
cut_by t lane number error a (Cut k c cause named made none shut e) is =
    let same : cause ≡ error = (let q : Answer.Closed cause ≡ Answer.Closed error = sym e ∙ is in cc) in
    record { k = k; call = c; named = named; made = made; unanswered = none_passes (replies_to c.serial) (drop c.from t.past.read) none; first = shut ∙ ap (λ x. Some x) same }

pub by_the_closing_error : (setting : Setting) (older : List Entry) (e : Entry) (number : ℕ) (error : Error) → Legal setting (e ∷ older) → IsPoll number e.words → e.answer ≡ Answer.Closed error → IsCutOff (replay setting older) e.lane number error
by_the_closing_error setting older e number error legal poll is = cut_by (replay setting older) e.lane number error e.answer (polls (replay setting older) e number legal.0 poll) is

-- ---- a call that is over

-- the call with this number was made and is over
abbrev pub IsGone : List Call → ℕ → Type 0
IsGone cs k = (c : Call) × (slice_get cs k ≡ Some c) × (is_gone c ≡ true)

gone_edit : (j k : ℕ) (cs : List Call) → IsGone cs k → IsGone (edit j spend cs) k
gone_edit j k [] gone = gone
gone_edit zero zero (c ∷ cs) gone = (spend c, refl, refl)
gone_edit zero (suc k) (c ∷ cs) gone = gone
gone_edit (suc j) zero (c ∷ cs) gone = gone
gone_edit (suc j) (suc k) (c ∷ cs) gone = gone_edit j k cs gone

gone_by : (spent failed more : Bool) → (spent || failed) ≡ true → (spent || (failed || more)) ≡ true
gone_by true failed more g = refl
gone_by false true more g = refl
gone_by false false more g = cc

gone_event : (k : ℕ) (e : Event) (h : Past) → IsGone h.calls k → IsGone (after e h).calls k
gone_event k (Put m (OfLane true)) h gone = (gone.0, get_append k h.calls _ gone.0 gone.1, gone.2)
gone_event k (Put m (AddMatch rule asked)) h gone = (gone.0, get_append k h.calls _ gone.0 gone.1, gone.2)
gone_event k (Put m RemoveMatch) h gone = (gone.0, get_append k h.calls _ gone.0 gone.1, gone.2)
gone_event k WriteFailed h gone =
    let fail = fail_at h.outbox.done in
    let c = gone.0 in (fail c, slice_get-map fail h.calls k ∙ ap (option_map fail) gone.1, gone_by c.spent c.failed (c.index == h.outbox.done) gone.2)
gone_event k (CallFinished j) h gone = gone_edit j k h.calls gone
gone_event k e h gone = gone

-- what is asked of a call that was made ends it
gone_spent : {A : Type 0} (asked : Option Call → Result A Error) (cs : List Call) (k : ℕ) (o : Option Call) (x : A) → asked None ≡ Err Error.UnknownHandle → slice_get cs k ≡ o → asked o ≡ Ok x → IsGone (edit k spend cs) k
gone_spent asked cs k None x none at e = cc
gone_spent asked cs k (Some c) x none at e = (spend c, edit_here spend k cs c at, refl)

-- and of one that is over is refused
gone_plan : (h : Past) (op : CallOp) (k : ℕ) → IsGone h.calls k → on_call h op k ≡ refuses Error.UnknownHandle
unfolding calls_poll_answer calls_drop_answer
gone_plan h CallOp.Poll k gone = rw (gone.1, gone.2) refl
gone_plan h (CallOp.Before before) k gone = rw (gone.1, gone.2) refl
gone_plan h CallOp.Drop k gone = rw (gone.1, gone.2) refl

-- ---- the entry that ends it

-- the answer ends the call: its last word, or that it is dropped
abbrev pub Ends : CallOp → Answer → Type 0
Ends CallOp.Drop a = a ≡ Answer.Dropped
Ends op a = IsFinal a

before_final : (r : Result (Polled MessageView) Error) → IsFinal (answer_of_poll (by_position r)) → IsFinal (answer_of_poll r)
before_final (Ok Polled.NotYet) f = absurd f
before_final r f = f

-- what it does, and that the call was made
abbrev pub Spends : Past → ℕ → List Event → Type 0
Spends h k es = (es ≡ CallFinished k ∷ []) × IsGone (edit k spend h.calls) k

-- it does nothing, and its answer doesn't end the call; or it does
abbrev pub EndsOr : Past → ℕ → CallOp → Answer → List Event → Type 0
EndsOr h k op a es = ((es ≡ []) × (Ends op a → ⊥)) ⊎ Spends h k es

poll_spends : (h : Past) (k : ℕ) (op : CallOp) (a : Answer) (r : Result (Polled MessageView) Error) → poll_answer h k ≡ r → (Ends op a → IsFinal (answer_of_poll r)) → EndsOr h k op a (poll_events k r)
unfolding calls_poll_answer
poll_spends h k op a (Ok (Polled.Now m)) at so = inr (refl, gone_spent (polled_at h.read h.closing) h.calls k (slice_get h.calls k) (Polled.Now m) refl refl at)
poll_spends h k op a (Ok (Polled.Closed error)) at so = inr (refl, gone_spent (polled_at h.read h.closing) h.calls k (slice_get h.calls k) (Polled.Closed error) refl refl at)
poll_spends h k op a r at so = inl (refl, so)

drop_spends : (h : Past) (k : ℕ) (a : Answer) (r : Result (Unit {0}) Error) → drop_answer h k ≡ r → a ≡ answer_of_drop r → EndsOr h k CallOp.Drop a (drop_events k r)
unfolding calls_drop_answer
drop_spends h k a (Ok done) at is = inr (refl, gone_spent dropped_at h.calls k (slice_get h.calls k) done refl refl at)
drop_spends h k a (Err error) at is = inl (refl, λ f. cc)

pub ending : (h : Past) (op : CallOp) (k : ℕ) (e : Entry) → IsMeant h (on_call h op k) e → IsQuiet e × EndsOr h k op e.answer (deeds (on_call h op k) e)
ending h CallOp.Poll k e is = (is.2, poll_spends h k CallOp.Poll e.answer (poll_answer h k) refl (λ f. subst IsFinal is.1 f))
ending h (CallOp.Before before) k e is = (is.2, poll_spends h k (CallOp.Before before) e.answer (poll_answer h k) refl (λ f. before_final (poll_answer h k) (subst IsFinal is.1 f)))
ending h CallOp.Drop k e is = (is.2, drop_spends h k e.answer (drop_answer h k) refl is.1)

spends_now : (h : Past) (k : ℕ) (op : CallOp) (a : Answer) (es : List Event) → EndsOr h k op a es → Ends op a → IsGone (after_all es h).calls k
spends_now h k op a es (inl none) f = absurd (none.1 f)
spends_now h k op a es (inr spends) f = subst (λ xs. IsGone (after_all xs h).calls k) (sym spends.0) spends.1

no_end : (op : CallOp) (error : Error) → Ends op (Answer.Refused error) → ⊥
no_end CallOp.Drop error f = cc
no_end op error f = f

-- the number names a call, and the call is over
abbrev IsOver : Replay → ℕ → ℕ → Type 0
IsOver t lane number = (k : ℕ) × (handle_index 0 lane number t.calls ≡ Some k) × IsGone t.past.calls k

over_now : (h : Past) (op : CallOp) (p : Option ℕ) (e : Entry) → IsMeant h (where_named (on_call h op) p) e → Ends op e.answer
    → (k : ℕ) × (p ≡ Some k) × IsGone (past_after (where_named (on_call h op) p) e h).calls k
over_now h op None e is f = absurd (no_end op _ (subst (Ends op) is.1 f))
over_now h op (Some k) e is f =
    let ends = ending h op k e is in
    (k, refl, subst (λ (q : Past). IsGone q.calls k) (sym (quiet_past (on_call h op k) e h ends.0)) (spends_now h k op e.answer (deeds (on_call h op k) e) ends.1 f))

over_after : (t : Replay) (e : Entry) (number : ℕ) (op : CallOp) → IsEntry t e → e.words ≡ Words.OfCall number op → Ends op e.answer → IsOver (more t e) e.lane number
over_after t e number op is w f =
    let meant = subst (λ x. IsMeant t.past (plan t e.lane x) e) w is in
    let now = over_now t.past op (handle_index 0 e.lane number t.calls) e meant f in
    (now.0, place_append 0 e.lane number t.calls _ now.0 now.1, subst (λ x. IsGone (past_after (plan t e.lane x) e t.past).calls now.0) (sym w) now.2)

-- ---- later entries

over_more : (t : Replay) (e : Entry) (lane number : ℕ) → IsOver t lane number → IsOver (more t e) lane number
over_more t e lane number over =
    (over.0, place_append 0 lane number t.calls _ over.0 over.1, every_entry (λ h. IsGone h.calls over.0) (gone_event over.0) (plan t e.lane e.words) e t.past over.2)

unknown_entry : (t : Replay) (e : Entry) (lane number : ℕ) → IsOver t lane number → IsEntry t e → IsUnknown lane number e
unknown_entry t e lane number over is same op w =
    let means : plan t e.lane e.words ≡ refuses Error.UnknownHandle =
    ap (plan t e.lane) w ∙ ap (λ l. where_named (on_call t.past op) (handle_index 0 l number t.calls)) same ∙ ap (where_named (on_call t.past op)) over.1 ∙ gone_plan t.past op over.0 over.2 in
    (subst (λ pl. IsMeant t.past pl e) means is).1

ended : (setting : Setting) (newer older : List Entry) (e : Entry) (number : ℕ) (op : CallOp) → Legal setting (newer ++ e ∷ older) → e.words ≡ Words.OfCall number op → Ends op e.answer
    → AllByRecursion (IsUnknown e.lane number) newer
ended setting newer older e number op legal w f =
    (later setting (λ t. IsOver t e.lane number) (IsUnknown e.lane number) (λ t x is over. (over_more t x e.lane number over, unknown_entry t x e.lane number over is)) newer (e ∷ older) legal
    (over_after (replay setting older) e number op (legal_from setting newer (e ∷ older) legal).0 w f)).1

poll_ends : (op : CallOp) (a : Answer) → op ≢ CallOp.Drop → IsFinal a → Ends op a
poll_ends CallOp.Drop a poll f = absurd (poll refl)
poll_ends op a poll f = f

pub once : (setting : Setting) (newer older : List Entry) (e : Entry) (number : ℕ) → Legal setting (newer ++ e ∷ older) → IsPoll number e.words → IsFinal e.answer → AllByRecursion (IsUnknown e.lane number) newer
once setting newer older e number legal poll f = ended setting newer older e number poll.0 legal poll.1 (poll_ends poll.0 e.answer poll.2 f)

pub dropped : (setting : Setting) (newer older : List Entry) (e : Entry) (number : ℕ) → Legal setting (newer ++ e ∷ older) → e.words ≡ Words.OfCall number CallOp.Drop → e.answer ≡ Answer.Dropped → AllByRecursion (IsUnknown e.lane number) newer
dropped setting newer older e number legal w f = ended setting newer older e number CallOp.Drop legal w f

-- ---- a message comes

-- one more that doesn't pass, or comes behind one that does, changes nothing
find_more : {A : Type 0} (p : A → Bool) (n : ℕ) (xs : List A) (x : A) → (p x ≡ false) ⊎ (is_some (find p (drop n xs)) ≡ true) → find p (drop n (xs ++ x ∷ [])) ≡ find p (drop n xs)
find_more p zero [] x (inl other) = rw other refl
find_more p zero [] x (inr some) = cc
find_more {A} p zero (y ∷ ys) x so =
    elim (p y) as (λ b. (p x ≡ false) ⊎ (is_some (cond b (Some y) (find p ys)) ≡ true) → cond b (Some y) (find p (ys ++ x ∷ [])) ≡ cond b (Some y) (find p ys)) [
      | true ↦ λ q. refl
      | false ↦ λ q. find_more p zero ys x q
    ] so
find_more p (suc n) [] x so = ap (find p) (drop-nil n)
find_more p (suc n) (y ∷ ys) x so = find_more p n ys x so

-- a call that isn't over
past_by : (gone internal : Bool) (f g : Option MessageView) (o : Option Error) → (gone ≡ false → g ≡ f) → (if gone || internal then Err Error.UnknownHandle else polled_by g o) ≡ (if gone || internal then Err Error.UnknownHandle else polled_by f o)
past_by true internal f g o same = refl
past_by false internal f g o same = ap (λ x. if internal then Err Error.UnknownHandle else polled_by x o) (same refl)

or_some : (gone some : Bool) → gone ≡ false → (gone || some) ≡ true → some ≡ true
or_some true some none e = cc
or_some false some none e = e

past_call : (h : Past) (m : MessageView) (c : Call) → IsPast h m c → polled_at (after (Received m) h).read (after (Received m) h).closing (Some c) ≡ polled_at h.read h.closing (Some c)
unfolding reply
past_call h m c (inl other) = past_by (is_gone c) c.internal (reply h.read c) (reply (after (Received m) h).read c) h.closing (λ open_. find_more (replies_to c.serial) c.from h.read m (inl other))
past_call h m c (inr over) =
    past_by (is_gone c) c.internal (reply h.read c) (reply (after (Received m) h).read c) h.closing (λ open_. find_more (replies_to c.serial) c.from h.read m (inr (or_some (is_gone c) (is_some (reply h.read c)) open_ over)))

past_at : (h : Past) (m : MessageView) (o : Option Call) → IfSome o (IsPast h m) → polled_at (after (Received m) h).read (after (Received m) h).closing o ≡ polled_at h.read h.closing o
past_at h m None past = refl
past_at h m (Some c) past = past_call h m c past

pub took_other : (h : Past) (m : MessageView) (k : ℕ) → IfSome (slice_get h.calls k) (IsPast h m) → poll_answer (after (Received m) h) k ≡ poll_answer h k
unfolding calls_poll_answer
took_other h m k past = past_at h m (slice_get h.calls k) past

-- ---- a message that comes late

fails_at : (p : Call → Bool) (cs : List Call) (k : ℕ) → list_any p cs ≡ false → IfSome (slice_get cs k) (λ c. p c ≡ false)
fails_at p [] k e = tt
fails_at p (c ∷ cs) zero e = (or_parts (p c) (list_any p cs) e).0
fails_at p (c ∷ cs) (suc k) e = fails_at p cs k (or_parts (p c) (list_any p cs) e).1

over_by : (gone : Bool) (f : Option MessageView) (same : Bool) → same ≡ true → (not gone && is_none f && same) ≡ false → (gone || is_some f) ≡ true
over_by true f same s e = refl
over_by false None same s e = cc
over_by false (Some r) same s e = refl

serial_one : (o : Option ℕ) (a b : ℕ) → is_serial o a ≡ true → is_serial o b ≡ true → a ≡ b
serial_one None a b p q = cc
serial_one (Some n) a b p q = sym (eqb-true n a p) ∙ eqb-true n b q

late_call : (h : Past) (m : MessageView) (serial : ℕ) (c : Call) → is_serial m.reply_serial serial ≡ true → (is_awaited h.read c && (c.serial == serial)) ≡ false → IsPast h m c
unfolding replies_to
late_call h m serial c is waits = elim (cases_Bool (replies_to c.serial m)) [
  | inl bears_it ↦ inr (over_by (is_gone c) (reply h.read c) (c.serial == serial) (eq-eqb c.serial serial (serial_one m.reply_serial c.serial serial (and_parts (is_reply m.kind) (is_serial m.reply_serial c.serial) bears_it).1 is)) waits)
  | inr other ↦ inl other
]

late_at : (h : Past) (m : MessageView) (serial : ℕ) (o : Option Call) → is_serial m.reply_serial serial ≡ true → IfSome o (λ c. (is_awaited h.read c && (c.serial == serial)) ≡ false) → IfSome o (IsPast h m)
late_at h m serial None is waits = tt
late_at h m serial (Some c) is waits = late_call h m serial c is waits

none_waits : (h : Past) (serial : ℕ) → h.closing ≡ None → pending h serial ≡ false → list_any (λ c. is_awaited h.read c && (c.serial == serial)) h.calls ≡ false
unfolding calls_pending
none_waits h serial open_ e = rw open_ at e

pub took_late : (h : Past) (m : MessageView) (serial : ℕ) → h.closing ≡ None → is_serial m.reply_serial serial ≡ true → pending h serial ≡ false → (k : ℕ) → poll_answer (after (Received m) h) k ≡ poll_answer h k
took_late h m serial open_ is e k =
    took_other h m k (late_at h m serial (slice_get h.calls k) is (fails_at (λ c. is_awaited h.read c && (c.serial == serial)) h.calls k (none_waits h serial open_ e)))

-- ---- a poll

pub spent_other : (h : Past) (j k : ℕ) → j ≢ k → poll_answer (after (CallFinished j) h) k ≡ poll_answer h k
unfolding calls_poll_answer
spent_other h j k ne = ap (polled_at h.read h.closing) (edit_other spend j k h.calls ne)

pub dropped_other : (h : Past) (j k : ℕ) → j ≢ k → drop_answer (after (CallFinished j) h) k ≡ drop_answer h k
unfolding calls_drop_answer
dropped_other h j k ne = ap dropped_at (edit_other spend j k h.calls ne)

-- ---- a number names one call

pub apart : (owners : Owners) (lane number lane₂ number₂ j k : ℕ) → handle_index 0 lane number owners ≡ Some j → handle_index 0 lane₂ number₂ owners ≡ Some k → (lane₂ ≡ lane → number₂ ≢ number) → j ≢ k
apart owners lane number lane₂ number₂ j k p q differ same = let one = one_place owners lane number lane₂ number₂ k (p ∙ ap Some same) q in differ one.0 one.1

-- ---- what a poll or a drop leaves

-- what is asked of another call is the same
same_after : (h : Past) (j k : ℕ) (op : CallOp) (es : List Event) → j ≢ k → (es ≡ []) ⊎ (es ≡ CallFinished j ∷ []) → on_call (after_all es h) op k ≡ on_call h op k
same_after h j k op es ne (inl e) = ap (λ xs. on_call (after_all xs h) op k) e
same_after h j k CallOp.Poll es ne (inr e) = ap (λ xs. on_call (after_all xs h) CallOp.Poll k) e ∙ ap (λ r. Says (answer_of_poll r) (poll_events k r)) (spent_other h j k ne)
same_after h j k (CallOp.Before before) es ne (inr e) =
    ap (λ xs. on_call (after_all xs h) (CallOp.Before before) k) e ∙ ap (λ r. Says (answer_of_poll (by_position r)) (poll_events k r)) (spent_other h j k ne)
same_after h j k CallOp.Drop es ne (inr e) = ap (λ xs. on_call (after_all xs h) CallOp.Drop k) e ∙ ap (λ r. Says (answer_of_drop r) (drop_events k r)) (dropped_other h j k ne)

same_named : (h : Past) (j : ℕ) (op done : CallOp) (a : Answer) (es : List Event) (q : Option ℕ) → ((k : ℕ) → q ≡ Some k → j ≢ k) → EndsOr h j done a es → where_named (on_call (after_all es h) op) q ≡ where_named (on_call h op) q
same_named h j op done a es None ne ends = refl
same_named h j op done a es (Some k) ne (inl none) = same_after h j k op es (ne k refl) (inl none.0)
same_named h j op done a es (Some k) ne (inr spends) = same_after h j k op es (ne k refl) (inr spends.0)

-- a poll or a drop of another number
other_call : (t : Replay) (e : Entry) (number lane other : ℕ) (op : CallOp) (p : Option ℕ) → handle_index 0 e.lane number t.calls ≡ p → IsMeant t.past (where_named (on_call t.past op) p) e → (lane ≡ e.lane → other ≢ number)
    → SameCall (more_by (where_named (on_call t.past op) p) e t) t lane other
other_call t e number lane other op None at is differ asked =
    ap (λ (u : Replay). where_named (on_call u.past asked) (handle_index 0 lane other u.calls)) (quiet_more (where_named (on_call t.past op) None) e t is.2)
other_call t e number lane other op (Some j) at is differ asked =
    let done = ending t.past op j e is in
    ap (λ (u : Replay). where_named (on_call u.past asked) (handle_index 0 lane other u.calls)) (quiet_more (on_call t.past op j) e t done.0)
    ∙ same_named t.past j asked op e.answer (deeds (on_call t.past op j) e) (handle_index 0 lane other t.calls) (λ k q. apart t.calls e.lane number lane other j k at q differ) done.1

pub poll_other : (setting : Setting) (older : List Entry) (e : Entry) (number lane other : ℕ) (op : CallOp) → Legal setting (e ∷ older) → e.words ≡ Words.OfCall number op → (lane ≡ e.lane → other ≢ number)
    → SameCall (replay setting (e ∷ older)) (replay setting older) lane other
poll_other setting older e number lane other op legal w differ =
    let t = replay setting older in
    let meant = subst (λ x. IsMeant t.past (plan t e.lane x) e) w legal.0 in
    subst (λ x. SameCall (more_by (plan t e.lane x) e t) t lane other) (sym w) (other_call t e number lane other op (handle_index 0 e.lane number t.calls) refl meant differ)
