-- What putting messages of whoever keeps the objects leaves; and a call that is handed on: how its entry goes on, as one whose messages are
-- sent beside a take.
use Rattle.std.proofs.{Common.{◌≡◌, ◌≢◌, ◌<◌, ◌^◌, ℕ, ◌⊎◌, inl, inr, refl, sym, ◌∙◌, ap, subst, arith, Bool, true, false, if◌then◌else◌, List, [], ◌∷◌, ◌++◌, length, drop, map, Option, Some, None, Result, Ok, Err, option_and_then, option_map, unwrap_or, slice_get}, Math.Seq.drop-append_seam, lemmas.List.append-nil}
use Rattle.std.specs.List.{AllByRecursion}
use Rattle.peer_conn.specs.{Names.{MessageView, Error, Polled, Words, Answer, Entry, Makes}, Handles.AreHandles, Invariant.{PeerStateView, Keeps, StateInvariant, SameOwners, AreTaken, IsToldOf, Untaken, call_owners, stream_owners, server_of}, Going.{GoingBy, Going}}
use Rattle.peer_core.specs.{History.{streams_of, calls_of, Event, Put, Did, Past, after, after_all}, Asked.{next_message, take_answer}, Refinement.{RouteView, Refines}, Issuing.{issued, put_each, IssuesBy}}
use Rattle.peer_streams.specs.{History.{Gave, Stream, StreamsPast}, Streams.{runs, held, take_by}}
use Rattle.peer_streams.specs.Streams as streams
use Rattle.peer_streams.specs.Streams.{next_message as streams_next_message, take_answer as streams_take_answer}
use Rattle.peer_calls.specs.{History.{OfLane, Outbox}, Issuing.{Posting, posted, outgoings, messages_of}}
use Rattle.wire_message.specs.Outgoing.{OutgoingMessageView, message_of, sent_by, expects}
use Rattle.peer_route.specs.{Replay.{Replay}, Plan.{Plan, Sends, Dispatches, next_call, call_answer, gives_call, serves_next, plan}, Entries.{IsDispatched, IsSending, IsLater, Delivers, object_postings, object_events, gave_next, writes, writes_of, past_after, unsent}}
use Rattle.peer_words.specs.declared.words.ObjectOp.TheVariants as ops
use Rattle.peer_calls.specs.Issuing.{issued as calls_issued}
use Rattle.peer_route.proofs.Objects.{delivered_events}
use Rattle.peer_core.proofs.Issues.{put_puts}
use Rattle.peer_conn.proofs.{Laid.outbox_puts, Posted.carried, Begun.begun_entry}

-- ---- what an object's messages are

-- they wait for no reply
abbrev pub AreUnawaited : List OutgoingMessageView → Type 0
AreUnawaited ps = AllByRecursion (λ p. expects p ≡ false) ps

-- they have no descriptors
abbrev pub AreBare : List OutgoingMessageView → Type 0
AreBare ps = AllByRecursion (λ p. p.fds ≡ []) ps

-- any sink takes them
objects_taken : (takes served : Bool) (name : Option (List ℕ)) (ps : List OutgoingMessageView) (serials : List ℕ) → AreBare ps → AreTaken takes (messages_of (outgoings (object_postings served name ps)) serials)
objects_taken takes served name [] serials bare = tt
objects_taken takes served name (p ∷ ps) [] bare = tt
objects_taken takes served name (p ∷ ps) (serial ∷ serials) bare = (carried (sent_by name served p) takes serial (inl bare.0), objects_taken takes served name ps serials bare.1)

-- the events of putting them
pub objects_each : (served : Bool) (name : Option (List ℕ)) (ps : List OutgoingMessageView) (serials : List ℕ) (h : Past) → AreUnawaited ps
    → after_all (object_events (messages_of (outgoings (object_postings served name ps)) serials)) h ≡ put_each (object_postings served name ps) serials h
objects_each served name [] serials h none = refl
objects_each served name (p ∷ ps) [] h none = refl
objects_each served name (p ∷ ps) (serial ∷ serials) h none =
    let m = message_of (sent_by name served p) serial in
    objects_each served name ps serials (after (Put m (OfLane false)) h) none.1 ∙ ap (λ b. put_each (object_postings served name ps) serials (after (Put m (OfLane b)) h)) (sym none.0)

-- no stream sees them
pub streams_put : (served : Bool) (name : Option (List ℕ)) (ps : List OutgoingMessageView) (serials : List ℕ) (h : Past) → streams_of (put_each (object_postings served name ps) serials h) ≡ streams_of h
streams_put served name [] serials h = refl
streams_put served name (p ∷ ps) [] h = refl
streams_put served name (p ∷ ps) (serial ∷ serials) h = streams_put served name ps serials (after (Put (message_of (sent_by name served p) serial) (OfLane (expects p))) h)

-- so a call may be taken before or after
taken_first : (name : Option (List ℕ)) (ps : List OutgoingMessageView) (serials : List ℕ) (k : ℕ) (h : Past) → gave_next k (put_each (object_postings true name ps) serials h) ≡ put_each (object_postings true name ps) serials (gave_next k h)
taken_first name [] serials k h = refl
taken_first name (p ∷ ps) [] k h = refl
taken_first name (p ∷ ps) (serial ∷ serials) k h = taken_first name ps serials k (after (Put (message_of (sent_by name true p) serial) (OfLane (expects p))) h)

-- what is kept but for them is kept once they were put
pub put_kept : (served : Bool) (old : PeerStateView) (mid : RouteView) (name : Option (List ℕ)) (ps : List OutgoingMessageView) (serials : List ℕ) (h : Past) → Keeps old h → Refines mid (put_each (object_postings served name ps) serials h)
    → Keeps (record old { core = mid }) (put_each (object_postings served name ps) serials h)
put_kept served old mid name ps serials h keeps left =
    let seen = streams_put served name ps serials h in
    record { left = left; held = subst (λ (x : StreamsPast). AreHandles x.read 0 x.streams old.handles) (sym seen) keeps.held; given = keeps.given ∙ ap streams.all_given (sym seen) }

-- ---- the next call

-- the command takes it
pub called_by : (t : Replay) (lane : ℕ) (m : MessageView) → next_call t.past t.server ≡ Some m → (k : ℕ) × (t.server ≡ Some k) × (next_message t.past k ≡ Some m) × (plan t lane (Words.Objects ops.Serve) ≡ Dispatches k m)
called_by t lane m next = by t.server refl next
  where
    by : (server : Option ℕ) → t.server ≡ server → next_call t.past server ≡ Some m → (k : ℕ) × (t.server ≡ Some k) × (next_message t.past k ≡ Some m) × (plan t lane (Words.Objects ops.Serve) ≡ Dispatches k m)
    by None is none = cc
    by (Some k) is some = (k, is, some, ap (serves_next t.past) is ∙ ap (gives_call t.past k) some)

take_first : (ms : List MessageView) (shut : Option Error) (told : Bool) (m : MessageView) → slice_get ms 0 ≡ Some m → (let r : Result (Polled MessageView) Error = Ok (take_by ms shut told) in r) ≡ Ok (Polled.Now m)
take_first [] shut told m e = cc
take_first (x ∷ xs) shut told m e = let same : x ≡ m = cc in ap (λ y. Ok (Polled.Now y)) same

take_open : (ms : List MessageView) (s : Stream) (shut : Option Error) (is_open : Bool) (m : MessageView) → (if is_open then slice_get (held ms s) 0 else None) ≡ Some m
    → (if is_open then Ok (take_by (held ms s) shut s.closing_delivered) else Err Error.UnknownHandle) ≡ Ok (Polled.Now m)
take_open ms s shut true m e = take_first (held ms s) shut s.closing_delivered m e
take_open ms s shut false m e = cc

take_made : (h : Past) (o : Option Stream) (m : MessageView) → option_and_then (λ s. if runs h.read s then slice_get (held h.read s) 0 else None) o ≡ Some m
    → unwrap_or (option_map (λ s. if runs h.read s then Ok (take_by (held h.read s) h.closing s.closing_delivered) else Err Error.UnknownHandle) o) (Err Error.UnknownHandle) ≡ Ok (Polled.Now m)
take_made h None m e = cc
take_made h (Some s) m e = take_open h.read s h.closing (runs h.read s) m e

-- a stream's next message is what a take gives
pub next_take : (h : Past) (k : ℕ) (m : MessageView) → next_message h k ≡ Some m → take_answer h k ≡ Ok (Polled.Now m)
unfolding streams_next_message streams_take_answer
next_take h k m e = take_made h (slice_get h.streams k) m e

-- a stream that isn't open gives none
unmade : (h : Past) (o : Option Stream) → unwrap_or (option_map (runs h.read) o) false ≡ false → None ≡ option_and_then (λ s. if runs h.read s then slice_get (held h.read s) 0 else None) o
unmade h None e = refl
unmade h (Some s) e = sym (ap (λ b. if b then slice_get (held h.read s) 0 else None) e)

pub closed_next : (h : Past) (k : ℕ) → streams.is_open (streams_of h) k ≡ false → None ≡ next_message h k
unfolding streams_next_message streams.is_open
closed_next h k e = unmade h (slice_get h.streams k) e

-- ---- its entry is one whose messages are sent

-- the same plan, where these are the messages
abbrev pub sending : Past → ℕ → MessageView → List OutgoingMessageView → Plan
sending h k m ps = Sends (Did k Gave ∷ []) (object_postings true h.name ps) (λ serials. call_answer m)

pub past_same : (h : Past) (k : ℕ) (m : MessageView) (e : Entry) (is : IsDispatched (gave_next k h) m e) → past_after (Dispatches k m) e h ≡ past_after (sending h k m is.0) e h
past_same h k m e is = ap (λ es. after_all (writes e) (after_all es (gave_next k h))) (delivered_events true (gave_next k h) [] is.0 (call_answer m) e is.1 is.2)

-- ---- the messages are put

-- What putting these messages left of the core, and what is answered then, by what putting them gives: all were put, and that is answered; or
-- none was, for the reason that is due.
abbrev pub PostsBy : RouteView → RouteView → List Posting → Past → Answer → Answer → Result (List ℕ) Error → Type 0
PostsBy old new ds p said answer (Ok serials) = (answer ≡ said) × Refines new (put_each ds serials p)
PostsBy old new ds p said answer (Err error) = (answer ≡ unsent error) × (new ≡ old)

same_postings : (served : Bool) (name : Option (List ℕ)) (ps : List OutgoingMessageView) → map (posted false) (map (sent_by name served) ps) ≡ object_postings served name ps
same_postings served name [] = refl
same_postings served name (p ∷ ps) = ap (λ ds. posted false (sent_by name served p) ∷ ds) (same_postings served name ps)

-- all were put
posts_all : {A : Type 0} (tells : A → List ℕ → Type 0) (served : Bool) (old new : RouteView) (p : Past) (ps : List OutgoingMessageView) (said : Answer) (a : A) → Refines old p
    → IssuesBy tells (new ≡ old) (Refines new) (map (posted false) (map (sent_by old.name served) ps)) p (Ok a) → PostsBy old new (object_postings served p.name ps) p said said (issued p (object_postings served p.name ps))
posts_all tells served old new p ps said a left (serials, is, told, leaves) =
    let same : map (posted false) (map (sent_by old.name served) ps) ≡ object_postings served p.name ps = same_postings served old.name ps ∙ ap (λ name. object_postings served name ps) left.name in
    subst (PostsBy old new (object_postings served p.name ps) p said said) (sym (ap (issued p) (sym same) ∙ is)) (refl, subst (λ ds. Refines new (put_each ds serials p)) same leaves)

-- or none was
posts_none : {A : Type 0} (tells : A → List ℕ → Type 0) (served : Bool) (old new : RouteView) (p : Past) (ps : List OutgoingMessageView) (said answer : Answer) (error : Error) → Refines old p → error ≢ Error.Memory → answer ≡ unsent error
    → IssuesBy tells (new ≡ old) (Refines new) (map (posted false) (map (sent_by old.name served) ps)) p (let r : Result A Error = Err error in r)
    → PostsBy old new (object_postings served p.name ps) p said answer (issued p (object_postings served p.name ps))
posts_none tells served old new p ps said answer Error.Memory left known is issues = absurd (known refl)
posts_none tells served old new p ps said answer error left known is issues =
    let same : map (posted false) (map (sent_by old.name served) ps) ≡ object_postings served p.name ps = same_postings served old.name ps ∙ ap (λ name. object_postings served name ps) left.name in
    subst (PostsBy old new (object_postings served p.name ps) p said answer) (sym (ap (issued p) (sym same) ∙ issues.0)) (is, issues.1)

-- by what was answered
pub posts_by : {A : Type 0} (E : Type 0) (tells : A → List ℕ → Type 0) (served : Bool) (old new : RouteView) (p : Past) (ps : List OutgoingMessageView) (said answer : Answer) (r : Result A Error) → Refines old p
    → IssuesBy tells (new ≡ old) (Refines new) (map (posted false) (map (sent_by old.name served) ps)) p r → IsToldOf r said (let told : Result Answer E = Ok answer in told)
    → PostsBy old new (object_postings served p.name ps) p said answer (issued p (object_postings served p.name ps))
posts_by E tells served old new p ps said answer (Ok a) left issues is =
    subst (λ x. PostsBy old new (object_postings served p.name ps) p said x (issued p (object_postings served p.name ps))) (sym is) (posts_all tells served old new p ps said a left issues)
posts_by E tells served old new p ps said answer (Err Error.Memory) left issues is = absurd is
posts_by E tells served old new p ps said answer (Err error) left issues is = posts_none tells served old new p ps said answer error left (λ same. cc) is issues

-- in want of memory as well
pub unissued : {A : Type 0} (tells : A → List ℕ → Type 0) (stays : Type 0) (leaves : Past → Type 0) (ds : List Posting) (p : Past) (error : Error) → IssuesBy tells stays leaves ds p (let r : Result A Error = Err error in r) → stays
unissued tells stays leaves ds p Error.Memory is = is
unissued tells stays leaves ds p error is = is.1

-- no message has many descriptors
pub bare_few : (ps : List OutgoingMessageView) → AreBare ps → AllByRecursion (λ p. length p.fds < 2 ^ 32) ps
bare_few [] bare = tt
bare_few (p ∷ ps) bare = let none : length p.fds ≡ 0 = ap length bare.0 in (omega (arith, none), bare_few ps bare.1)

-- ---- it is begun

drop_all : {A : Type 0} (xs : List A) → drop (length xs) xs ≡ []
drop_all xs = ap (drop (length xs)) (sym (append-nil xs)) ∙ drop-append_seam xs []

-- what was put is what the entry holds, and its answer is the one that is due; the deeds beside change neither the calls nor the outbox
pub delivered : (served : Bool) (old mid : RouteView) (p : Past) (done : List Event) (lane : ℕ) (w : Words) (ps : List OutgoingMessageView) (said answer : Answer) (put : List MessageView) → Refines old p → calls_of (after_all done p) ≡ calls_of p
    → PostsBy old mid (object_postings served p.name ps) p said answer (issued p (object_postings served p.name ps)) → put ≡ drop (length old.outbox) mid.outbox → Delivers served p done ps said (begun_entry lane w answer put)
delivered served old mid p done lane w ps said answer put left same posts is = subst (λ c. IsSending (calls_issued c ds) ds (λ serials. said) e) (sym same) (by (issued p ds) posts)
  where
    ds : List Posting
    ds = object_postings served p.name ps

    e : Entry
    e = begun_entry lane w answer put

    by : (r : Result (List ℕ) Error) → PostsBy old mid ds p said answer r → IsSending r ds (λ serials. said) e
    by (Ok serials) posts =
        let ms = messages_of (outgoings ds) serials in
        let now : mid.outbox ≡ old.outbox ++ ms = posts.1.outbox ∙ ap (λ (q : Past). q.outbox.put) (put_puts ds serials p) ∙ ap (λ (o : Outbox). o.put) (outbox_puts ds serials p).1 ∙ ap (λ xs. xs ++ ms) (sym left.outbox) in
        record { put = is ∙ ap (drop (length old.outbox)) now ∙ drop-append_seam old.outbox ms; answer = posts.0; written = omega arith; cut = λ failed. absurd (cc) }
    by (Err error) posts = (posts.0, record { put = is ∙ ap (λ (c : RouteView). drop (length old.outbox) c.outbox) posts.1 ∙ drop_all old.outbox; written = refl; failed = refl })

-- nothing is written yet
unwritten : (e : Entry) (q : Past) → IsLater e → after_all (writes e) q ≡ q
unwritten e q later = ap (λ es. after_all es q) (none e.written e.failed (length e.put) later.0 later.1)
  where
    none : (written : ℕ) (failed : Bool) (count : ℕ) → written ≡ 0 → failed ≡ false → writes_of written failed count ≡ []
    none written failed count w f = ap (λ n. writes_of n failed count) w ∙ ap (λ b. writes_of 0 b count) f

-- what the core keeps once they were put, and once the call was taken
kept_called : (old v : PeerStateView) (mid : RouteView) (h : Past) (k : ℕ) (m : MessageView) (e : Entry) (ps : List OutgoingMessageView) (answer : Answer) (r : Result (List ℕ) Error) → AreUnawaited ps → Keeps old h → next_message h k ≡ Some m
    → PostsBy old.core mid (object_postings true h.name ps) h (call_answer m) answer r → IsSending r (object_postings true h.name ps) (λ s. call_answer m) e → IsLater e
    → ((p : Past) → Keeps (record old { core = mid }) p → next_message p k ≡ Some m → Keeps v (gave_next k p)) → Keeps v (past_after (Dispatches k m) e h)
kept_called old v mid h k m e ps answer (Ok serials) none keeps next posts is later takes =
    let q = put_each (object_postings true h.name ps) serials h in
    let seen = streams_put true h.name ps serials h in
    let took = takes q (put_kept true old mid h.name ps serials h keeps posts.1) (ap (λ (x : StreamsPast). streams.next_message x k) seen ∙ next) in
    let behind : gave_next k q ≡ after_all (object_events e.put) (gave_next k h) =
    taken_first h.name ps serials k h ∙ sym (objects_each true h.name ps serials (gave_next k h) none) ∙ ap (λ ms. after_all (object_events ms) (gave_next k h)) (sym is.put) in
    subst (Keeps v) (behind ∙ sym (unwritten e (after_all (object_events e.put) (gave_next k h)) later)) took
kept_called old v mid h k m e ps answer (Err error) none keeps next posts is later takes =
    let same : Keeps (record old { core = mid }) h = record { left = subst (λ c. Refines c h) (sym posts.1) keeps.left; held = keeps.held; given = keeps.given } in
    subst (Keeps v) (ap (λ ms. after_all (object_events ms) (gave_next k h)) (sym is.1.put) ∙ sym (unwritten e (after_all (object_events e.put) (gave_next k h)) later)) (takes h same next)

-- any sink takes what was put
pub sent_taken : (takes served : Bool) (name : Option (List ℕ)) (ps : List OutgoingMessageView) (said : Answer) (e : Entry) (r : Result (List ℕ) Error) → AreBare ps → IsSending r (object_postings served name ps) (λ s. said) e → AreTaken takes e.put
sent_taken takes served name ps said e (Ok serials) bare is = subst (AreTaken takes) (sym is.put) (objects_taken takes served name ps serials bare)
sent_taken takes served name ps said e (Err error) bare is = subst (AreTaken takes) (sym is.1.put) tt

-- The entry of a call that is handed on goes on: the messages were put, then the call was taken.
pub called_going : (old v : PeerStateView) (mid : RouteView) (t : Replay) (lane : ℕ) (m : MessageView) (ps : List OutgoingMessageView) (answer : Answer) (put : List MessageView) → StateInvariant old t → next_call t.past old.server ≡ Some m
    → AreUnawaited ps → AreBare ps → PostsBy old.core mid (object_postings true t.past.name ps) t.past (call_answer m) answer (issued t.past (object_postings true t.past.name ps)) → put ≡ drop (length old.core.outbox) mid.outbox
    → ((p : Past) (k : ℕ) → Keeps (record old { core = mid }) p → old.server ≡ Some k → next_call p (Some k) ≡ Some m → Keeps v (gave_next k p)) → SameOwners old v → v.makes ≡ Makes.Nothing
    → Going v t (begun_entry lane (Words.Objects ops.Serve) answer put)
called_going old v mid t lane m ps answer put s next unawaited bare posts is takes same nothing =
    let one = called_by t lane m (ap (next_call t.past) (sym s.server) ∙ next) in
    let k = one.0 in
    let w = Words.Objects ops.Serve in
    let e = begun_entry lane w answer put in
    let ds = object_postings true t.past.name ps in
    let delivers = delivered true old.core mid t.past (Did k Gave ∷ []) lane w ps (call_answer m) answer put s.keeps.left refl posts is in
    subst (λ pl. GoingBy v t pl e) (sym one.3) (record {
      acting = (refl, (ps, unawaited, delivers), inl (refl, refl));
      keeps = kept_called old v mid t.past k m e ps answer (issued t.past ds) unawaited s.keeps one.2 posts delivers (refl, refl) (λ p keeps n. takes p k keeps (s.server ∙ one.1) n);
      calls = same.0 ∙ s.calls;
      streams = same.1 ∙ s.streams;
      server = same.2 ∙ s.server;
      owns = λ failed. (ap (call_owners lane failed) nothing, ap (stream_owners lane failed) nothing);
      serves = ap (server_of (length t.streams) t.server) nothing;
      taken = sent_taken t.setting.takes_fds true t.past.name ps (call_answer m) e (issued t.past ds) bare delivers;
    })

-- ---- without memory the call isn't taken

pub untaken_still : (old new : PeerStateView) → new.core ≡ old.core → Untaken old new
untaken_still old new same = λ p keeps. (p, subst (λ c. Refines c p) (sym same) keeps.left, refl)

pub untaken_put : (old new : PeerStateView) (mid : RouteView) (ps : List OutgoingMessageView) (said answer : Answer) → new.core ≡ mid → ((p : Past) → Refines old.core p → PostsBy old.core mid (object_postings true p.name ps) p said answer (issued p (object_postings true p.name ps)))
    → Untaken old new
untaken_put old new mid ps said answer same posts = λ p keeps. by p (issued p (object_postings true p.name ps)) (posts p keeps.left) keeps
  where
    by : (p : Past) (r : Result (List ℕ) Error) → PostsBy old.core mid (object_postings true p.name ps) p said answer r → Keeps old p → (q : Past) × Refines new.core q × (next_call q old.server ≡ next_call p old.server)
    by p (Ok serials) posts keeps = (
      put_each (object_postings true p.name ps) serials p,
      subst (λ c. Refines c (put_each (object_postings true p.name ps) serials p)) (sym same) posts.1,
      ap (λ (x : StreamsPast). option_and_then (streams.next_message x) old.server) (streams_put true p.name ps serials p),
    )
    by p (Err error) posts keeps = (p, subst (λ c. Refines c p) (sym (same ∙ posts.1)) keeps.left, refl)
