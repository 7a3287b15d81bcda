-- Closing streams, and telling the bus of it, leaves each other stream, each call and each capacity as it was.
use Rattle.peer_core.proofs.Core.{sound_past as sound_core}
use Rattle.peer_streams.specs.History.{Request, StreamOrigin, Plain, Ruled, Cloned, StreamEvent, Gave, Gone, Start, Behind, OnReturn, Stream, Phase, Denied, Since, since_reply, phase_by, phase, asks_by, clone_of, new_stream, asking_stream, done_by, fail_stream, Capacities}
use Rattle.peer_core.specs.{History.{calls_of, request_of, streams_of, Event, Made, Put, Did, WriteFailed, Past, after, Wrote, after_all}, Asked.{poll_answer, take_answer, are_open, close_waits, leaving, gone_events}, BusCall.tellings_of, Issuing.puts}
use Rattle.peer_calls.specs.Calls.{poll_answer as calls_poll_answer}
use Rattle.peer_streams.specs.Streams.{take_answer as streams_take_answer}
use Rattle.peer_calls.proofs.{Looks.polled_at, CallsMade.{IsSound, sound_first, sound_after}}
use Rattle.peer_streams.proofs.Looks.{take_at}
use Rattle.wire_message.proofs.Edits.{edit_other, get_before, all_weaker, all_more, all_map, all_edit}
use Rattle.peer_route.proofs.{Kept.always, Plans.{along, repeat_all, all_append}}
use Rattle.peer_calls.specs.History.{call_by, AddMatch, RemoveMatch, Call, fail_at}
use Rattle.wire_message.specs.Replying.{replies_to, is_return}
use Rattle.peer_route.specs.{Names.{Entry, MessageView, Rule, Words, StreamOp}, Replay.{Setting, Replay, handle_index}, Entries.{IsMeant, replay, deeds, put_events, repeat, writes, Legal}, Plan.{Plan, Says, Sends, Reads, Serves, Dispatches, Closes, Writes, Never, where_named, where_open, unless_waits, ends, second_index, on_stream, plan}}
use Rattle.std.proofs.{Common.{◌≡◌, ℕ, ◌≤◌, ◌<◌, zero, suc, refl, arith, Bool, true, false, if◌then◌else◌, List, [], ◌∷◌, ◌++◌, length, map, drop, length-append, append_assoc, append-nil, ◌≢◌, ◌⊎◌, inl, inr, ◌-◌, sym, ◌∙◌, ap, subst, ◌||◌, option_map, Option, Some, None, IfSome}, lemmas.List.map-append, lemmas.Bool.ne_eqb, Math.Bool.or-false, lemmas.Option.slice_get-map}
use Rattle.std.specs.{Prelude.⊤, List.{AllByRecursion, slice_get}}

-- ---- where streams begin: the AddMatch that one waits for was put before it was made

-- it begins behind a count of messages, or its AddMatch stands below this place of the outbox
abbrev pub Begins : ℕ → Start → Type 0
Begins n (Behind count) = ⊤
Begins n (OnReturn add) = add.index < n

abbrev pub BeginsBelow : ℕ → Stream → Type 0
BeginsBelow n s = Begins n s.start

abbrev pub AllBegin : ℕ → List Stream → Type 0
AllBegin n ss = AllByRecursion (BeginsBelow n) ss

-- ---- each event

pub begins_more : (n m : ℕ) (b : Start) → n ≤ m → Begins n b → Begins m b
begins_more n m (Behind count) le h = tt
begins_more n m (OnReturn add) le h = omega (arith, h, le)

done_start : (n : ℕ) (deed : StreamEvent) (s : Stream) → Begins n s.start → Begins n (done_by deed s).start
done_start n Gave s h = h
done_start n deed s h = h

clone_start : (n : ℕ) (p : Past) (k : ℕ) (ss : List Stream) → AllBegin n ss → Begins n (clone_of (streams_of p) (slice_get ss k)).start
clone_start n p k [] h = tt
clone_start n p zero (s ∷ ss) h = h.0
clone_start n p (suc k) (s ∷ ss) h = clone_start n p k ss h.1

made_start : (n : ℕ) (p : Past) (making : StreamOrigin) (ss : List Stream) → AllBegin n ss → Begins n (new_stream (streams_of p) ss making).start
made_start n p Plain ss h = tt
made_start n p (Ruled rule asked) ss h = tt
made_start n p (Cloned k) ss h = clone_start n p k ss h

grown : (ms : List MessageView) (m : MessageView) (ss : List Stream) → AllBegin (length ms) ss → AllBegin (length (ms ++ m ∷ [])) ss
grown ms m ss h = all_weaker (BeginsBelow (length ms)) (BeginsBelow (length (ms ++ m ∷ []))) (λ s b. begins_more (length ms) (length (ms ++ m ∷ [])) s.start (omega (arith, length-append ms (m ∷ []))) b) ss h

begin_after : (e : Event) (p : Past) → AllBegin (length p.outbox.put) p.streams → AllBegin (length (after e p).outbox.put) (after e p).streams
begin_after (Made making) p h = all_more (BeginsBelow (length p.outbox.put)) p.streams (new_stream (streams_of p) p.streams making) h (made_start (length p.outbox.put) p making p.streams h)
begin_after (Put m (AddMatch rule asked)) p h =
    all_more (BeginsBelow (length (p.outbox.put ++ m ∷ []))) p.streams (asking_stream (request_of p m) rule) (grown p.outbox.put m p.streams h) (omega (arith, length-append p.outbox.put (m ∷ [])))
begin_after (Put m why) p h = grown p.outbox.put m p.streams h
begin_after (Did k deed) p h = all_edit (BeginsBelow (length p.outbox.put)) (done_by deed) p.streams k (λ s is b. done_start (length p.outbox.put) deed s b) h
begin_after WriteFailed p h = all_map (BeginsBelow (length p.outbox.put)) (BeginsBelow (length p.outbox.put)) (fail_stream p.read p.outbox.done) (λ s b. b) p.streams h
begin_after e p h = h

pub all_begin : (setting : Setting) (es : List Entry) → AllBegin (length (replay setting es).past.outbox.put) (replay setting es).past.streams
all_begin setting es = always (λ (p : Past). AllBegin (length p.outbox.put) p.streams) tt begin_after setting es

-- ---- a write that fails further on

step_asks : (index : ℕ) (b ret : Bool) (m : MessageView) (ms : List MessageView) (p : Phase) → asks_by index p ≡ false → asks_by index (if b then (if ret then Since ms else Denied m) else p) ≡ false
step_asks index true true m ms p e = refl
step_asks index true false m ms p e = refl
step_asks index false ret m ms p e = e

since_asks : (index : ℕ) (add : Request) (ms : List MessageView) → add.index < index → asks_by index (since_reply add ms) ≡ false
since_asks index add [] lt = ne_eqb add.index index (λ e. omega (arith, e, lt))
since_asks index add (m ∷ ms) lt = step_asks index (replies_to add.serial m) (is_return m.kind) m ms (since_reply add ms) (since_asks index add ms lt)

start_asks : (index : ℕ) (b : Start) (ms : List MessageView) → Begins index b → asks_by index (phase_by b ms) ≡ false
start_asks index (Behind count) ms h = refl
start_asks index (OnReturn add) ms h = since_asks index add (drop add.from ms) h

-- a stream that begins below doesn't wait for a message at this place
pub asks_not : (index : ℕ) (ms : List MessageView) (s : Stream) → Begins index s.start → asks_by index (phase ms s) ≡ false
unfolding phase
asks_not index ms s h = start_asks index s.start ms h

-- The past `q` is `p`, but for the outbox, for calls behind those of `p`, and for the streams that were closed (of capacities nothing is
-- said); and where a write failed, what is to be written stands behind all that was put.
record Apart (shut : ℕ → Type 0) (failed : Bool) (p q : Past) : Type 0 where
  reads : q.read ≡ p.read
  closings : q.closing ≡ p.closing
  later : failed ≡ true → length p.outbox.put ≤ q.outbox.done
  more : List Call
  calls : q.calls ≡ p.calls ++ more
  stream : (k : ℕ) → (shut k → ⊥) → slice_get q.streams k ≡ slice_get p.streams k

-- ---- each event of closing streams

calls_same : (n index : ℕ) (cs : List Call) → n ≤ index → AllByRecursion (λ (i : ℕ). i < n) (map (λ (c : Call). c.index) cs) → map (fail_at index) cs ≡ cs
calls_same n index [] le all = refl
calls_same n index (c ∷ cs) le all =
    let x : c.index < n = all.0 in
    ap (λ b. record c { failed = c.failed || b } ∷ map (fail_at index) cs) (ne_eqb c.index index (λ e. omega (arith, e, x, le))) ∙ ap (λ b. record c { failed = b } ∷ map (fail_at index) cs) (or-false c.failed)
    ∙ ap (λ ds. c ∷ ds) (calls_same n index cs le all.1)

begin_at : (n index : ℕ) (ss : List Stream) (k : ℕ) → n ≤ index → AllBegin n ss → IfSome (slice_get ss k) (λ s. Begins index s.start)
begin_at n index [] k le all = tt
begin_at n index (s ∷ ss) zero le all = begins_more n index s.start le all.0
begin_at n index (s ∷ ss) (suc k) le all = begin_at n index ss k le all.1

same_stream : (ms : List MessageView) (index : ℕ) (o : Option Stream) → IfSome o (λ s. Begins index s.start) → option_map (fail_stream ms index) o ≡ o
same_stream ms index None b = refl
same_stream ms index (Some s) b =
    ap (λ x. Some (record s { gone = s.gone || x })) (asks_not index ms s b) ∙ ap (λ x. Some (record s { gone = x })) (or-false s.gone)

-- one of these is closed, or a RemoveMatch is put, and written or not
abbrev IsClosing : (ℕ → Type 0) → Bool → Event → Type 0
IsClosing shut failed (Did j Gone) = shut j
IsClosing shut failed (Put m RemoveMatch) = Unit {0}
IsClosing shut failed Wrote = Unit {0}
IsClosing shut failed WriteFailed = failed ≡ true
IsClosing shut failed e = ⊥

apart_after : (shut : ℕ → Type 0) (failed : Bool) (p : Past) → IsSound (calls_of p) → AllBegin (length p.outbox.put) p.streams → (e : Event) (q : Past) → IsClosing shut failed e → Apart shut failed p q
    → Apart shut failed p (after e q)
apart_after shut failed p sound begin (Did j Gone) q is a = record {
  reads = a.reads;
  closings = a.closings;
  later = a.later;
  more = a.more;
  calls = a.calls;
  stream = λ k still. edit_other (done_by Gone) j k q.streams (λ e. still (subst shut e is)) ∙ a.stream k still;
}
apart_after shut failed p sound begin (Put m RemoveMatch) q is a = record {
  reads = a.reads;
  closings = a.closings;
  later = a.later;
  more = a.more ++ call_by (calls_of q) m true ∷ [];
  calls = ap (λ cs. cs ++ call_by (calls_of q) m true ∷ []) a.calls ∙ append_assoc p.calls a.more (call_by (calls_of q) m true ∷ []);
  stream = a.stream;
}
apart_after shut failed p sound begin Wrote q is a =
    record { reads = a.reads; closings = a.closings; later = λ f. let l = a.later f in omega (arith, l); more = a.more; calls = a.calls; stream = a.stream }
apart_after shut failed p sound begin WriteFailed q is a =
    let index = q.outbox.done in
    let l = a.later is in
    record {
      reads = a.reads;
      closings = a.closings;
      later = λ f. omega (arith, l);
      more = map (fail_at index) a.more;
      calls = ap (map (fail_at index)) a.calls ∙ map-append (fail_at index) p.calls a.more ∙ ap (λ cs. cs ++ map (fail_at index) a.more) (calls_same (length p.outbox.put) index p.calls l sound.below);
      stream = λ k still. slice_get-map (fail_stream q.read index) q.streams k ∙ ap (option_map (fail_stream q.read index)) (a.stream k still)
          ∙ same_stream q.read index (slice_get p.streams k) (begin_at (length p.outbox.put) index p.streams k l begin);
    }
apart_after shut failed p sound begin e q is a = absurd is

limits_after : (shut : ℕ → Type 0) (failed : Bool) (c : Capacities) (e : Event) (q : Past) → IsClosing shut failed e → q.capacities ≡ c → (after e q).capacities ≡ c
limits_after shut failed c (Did j Gone) q is same = same
limits_after shut failed c (Put m RemoveMatch) q is same = same
limits_after shut failed c Wrote q is same = same
limits_after shut failed c WriteFailed q is same = same
limits_after shut failed c e q is same = absurd is

-- ---- the events of such an entry

-- a plan by which streams are closed, or nothing is done
abbrev Shuts : (ℕ → Type 0) → Plan → Type 0
Shuts shut pl = (failed : Bool) (e : Entry) → AllByRecursion (IsClosing shut failed) (deeds pl e) × AllByRecursion (IsClosing shut failed) (put_events pl e)

shuts_tellings : (shut : ℕ → Type 0) (failed : Bool) (h : Past) (rules : List Rule) (ms : List MessageView) → AllByRecursion (IsClosing shut failed) (puts (tellings_of h rules) ms)
shuts_tellings shut failed h [] ms = tt
shuts_tellings shut failed h (rule ∷ rules) [] = tt
shuts_tellings shut failed h (rule ∷ rules) (m ∷ ms) = (tt, shuts_tellings shut failed h rules ms)

shuts_gone : (shut : ℕ → Type 0) (failed : Bool) (k : ℕ) (j : Option ℕ) → shut k → ((i : ℕ) → j ≡ Some i → shut i) → AllByRecursion (IsClosing shut failed) (gone_events k j)
shuts_gone shut failed k None one other = (one, tt)
shuts_gone shut failed k (Some j) one other = (one, (other j refl, tt))

shuts_open : (shut : ℕ → Type 0) (b : Bool) (pl : Plan) → Shuts shut pl → Shuts shut (where_open b pl)
shuts_open shut true pl so = so
shuts_open shut false pl so = λ failed e. (tt, tt)

shuts_waits : (shut : ℕ → Type 0) (b : Bool) (pl : Plan) → Shuts shut pl → Shuts shut (unless_waits b pl)
shuts_waits shut true pl so = λ failed e. (tt, tt)
shuts_waits shut false pl so = so

shuts_ends : (shut : ℕ → Type 0) (h : Past) (k : ℕ) (j : Option (Option ℕ)) → shut k → ((i : ℕ) → j ≡ Some (Some i) → shut i) → Shuts shut (ends h k j)
shuts_ends shut h k None one other = λ failed e. (tt, tt)
shuts_ends shut h k (Some j) one other =
    shuts_open shut (are_open h k j) _ (shuts_waits shut (close_waits h k j) _ (λ failed e. (shuts_gone shut failed k j one (λ i q. other i (ap (λ x. Some x) q)), shuts_tellings shut failed h (leaving h k j) e.put)))

shuts_named : (shut : ℕ → Type 0) (t : Replay) (lane : ℕ) (second p : Option ℕ) → ((i : ℕ) → p ≡ Some i → shut i) → ((i : ℕ) → second_index t lane second ≡ Some (Some i) → shut i)
    → Shuts shut (where_named (on_stream t lane (StreamOp.Unstream second)) p)
shuts_named shut t lane second None one other = λ failed e. (tt, tt)
shuts_named shut t lane second (Some k) one other = shuts_ends shut t.past k (second_index t lane second) (one k refl) other

shuts_writes : (shut : ℕ → Type 0) (n m : ℕ) (failed : Bool) → AllByRecursion (IsClosing shut failed) (repeat n Wrote ++ (if failed then repeat m WriteFailed else []))
shuts_writes shut n m true = all_append (IsClosing shut true) (repeat n Wrote) (repeat m WriteFailed) (repeat_all (IsClosing shut true) n Wrote tt) (repeat_all (IsClosing shut true) m WriteFailed refl)
shuts_writes shut n m false = all_append (IsClosing shut false) (repeat n Wrote) [] (repeat_all (IsClosing shut false) n Wrote tt) tt

-- ---- an entry

-- one of the streams that the command closes
abbrev Ends : Replay → ℕ → ℕ → Option ℕ → ℕ → Type 0
Ends t lane number second k = (handle_index 0 lane number t.streams ≡ Some k) ⊎ (second_index t lane second ≡ Some (Some k))

sound_past : (setting : Setting) (es : List Entry) → IsSound (calls_of (replay setting es).past)
sound_past setting es = always (λ p. IsSound (calls_of p)) sound_first sound_core setting es

-- what such events keep
closing_along : (P : Past → Type 0) (setting : Setting) (older : List Entry) (e : Entry) (number : ℕ) (second : Option ℕ) → e.words ≡ Words.OfStream number (StreamOp.Unstream second)
    → ((x : Event) (q : Past) → IsClosing (Ends (replay setting older) e.lane number second) e.failed x → P q → P (after x q)) → P (replay setting older).past → P (replay setting (e ∷ older)).past
closing_along P setting older e number second w keeps so =
    let t = replay setting older in
    let shut : ℕ → Type 0 = Ends t e.lane number second in
    let Is : Event → Type 0 = IsClosing shut e.failed in
    let pl = plan t e.lane e.words in
    let shuts = subst (Shuts shut) (ap (plan t e.lane) (sym w)) (shuts_named shut t e.lane second (handle_index 0 e.lane number t.streams) (λ i is. inl is) (λ i is. inr is)) e.failed e in
    along P Is keeps (writes e) (after_all (put_events pl e) (after_all (deeds pl e) t.past)) (shuts_writes shut e.written (length e.put - e.written) e.failed)
    (along P Is keeps (put_events pl e) (after_all (deeds pl e) t.past) shuts.1 (along P Is keeps (deeds pl e) t.past shuts.0 so))

-- where a write failed within the entry, nothing waited before it
in_turn : (h : Past) (pl : Plan) (e : Entry) → IsMeant h pl e → e.failed ≡ true → h.outbox.done ≡ length h.outbox.put
in_turn h (Says answer done) e is f = let q = is.2.failed in absurd (cc)
in_turn h (Sends done ds sent) e is f = elim (is.2) as (λ _. h.outbox.done ≡ length h.outbox.put) [
  | inl late ↦ let q = late.1 in absurd (cc)
  | inr due ↦ due
]
in_turn h Reads e is f = let q = is.1.failed in absurd (cc)
in_turn h (Serves said done) e is f = elim (is.2) as (λ _. h.outbox.done ≡ length h.outbox.put) [
  | inl late ↦ let q = late.1 in absurd (cc)
  | inr due ↦ due
]
in_turn h (Dispatches k m) e is f = elim (is.2) as (λ _. h.outbox.done ≡ length h.outbox.put) [
  | inl late ↦ let q = late.1 in absurd (cc)
  | inr due ↦ due
]
in_turn h Closes e is f = let q = is.2.failed in absurd (cc)
in_turn h (Writes fails) e is f = let q = is.2.failed in absurd (cc)
in_turn h Never e is f = absurd is

unstream_apart : (setting : Setting) (older : List Entry) (e : Entry) (number : ℕ) (second : Option ℕ) → e.words ≡ Words.OfStream number (StreamOp.Unstream second)
    → (e.failed ≡ true → (replay setting older).past.outbox.done ≡ length (replay setting older).past.outbox.put)
    → Apart (Ends (replay setting older) e.lane number second) e.failed (replay setting older).past (replay setting (e ∷ older)).past
unstream_apart setting older e number second w done =
    let t = replay setting older in
    let shut : ℕ → Type 0 = Ends t e.lane number second in
    closing_along (Apart shut e.failed t.past) setting older e number second w (apart_after shut e.failed t.past (sound_past setting older) (all_begin setting older))
    (record { reads = refl; closings = refl; later = λ f. let all = done f in omega (arith, all); more = []; calls = sym (append-nil (replay setting older).past.calls); stream = λ k still. refl })

take_same : (shut : ℕ → Type 0) (failed : Bool) (p q : Past) (k : ℕ) → Apart shut failed p q → (shut k → ⊥) → take_answer q k ≡ take_answer p k
unfolding streams_take_answer
take_same shut failed p q k a still =
    ap (λ ms. take_at ms q.closing (slice_get q.streams k)) a.reads ∙ ap (λ o. take_at p.read o (slice_get q.streams k)) a.closings ∙ ap (take_at p.read p.closing) (a.stream k still)

poll_same : (shut : ℕ → Type 0) (failed : Bool) (p q : Past) (k : ℕ) → Apart shut failed p q → k < length p.calls → poll_answer q k ≡ poll_answer p k
unfolding calls_poll_answer
poll_same shut failed p q k a le =
    ap (λ ms. polled_at ms q.closing (slice_get q.calls k)) a.reads ∙ ap (λ o. polled_at p.read o (slice_get q.calls k)) a.closings ∙ ap (polled_at p.read p.closing) (ap (λ cs. slice_get cs k) a.calls ∙ get_before k p.calls a.more le)

pub other_streams : (setting : Setting) (older : List Entry) (e : Entry) (number : ℕ) (second : Option ℕ) (k : ℕ) → Legal setting (e ∷ older) → e.words ≡ Words.OfStream number (StreamOp.Unstream second)
    → handle_index 0 e.lane number (replay setting older).streams ≢ Some k → second_index (replay setting older) e.lane second ≢ Some (Some k)
    → take_answer (replay setting (e ∷ older)).past k ≡ take_answer (replay setting older).past k
other_streams setting older e number second k legal w one other =
    take_same (Ends (replay setting older) e.lane number second) e.failed _ _ k (unstream_apart setting older e number second w (in_turn (replay setting older).past (plan (replay setting older) e.lane e.words) e legal.0)) neither
  where
    neither : Ends (replay setting older) e.lane number second k → ⊥
    neither (inl is) = one is
    neither (inr is) = other is

pub same_calls : (setting : Setting) (older : List Entry) (e : Entry) (number : ℕ) (second : Option ℕ) (k : ℕ) → Legal setting (e ∷ older) → e.words ≡ Words.OfStream number (StreamOp.Unstream second)
    → k < length (replay setting older).past.calls → poll_answer (replay setting (e ∷ older)).past k ≡ poll_answer (replay setting older).past k
same_calls setting older e number second k legal w le =
    poll_same (Ends (replay setting older) e.lane number second) e.failed _ _ k (unstream_apart setting older e number second w (in_turn (replay setting older).past (plan (replay setting older) e.lane e.words) e legal.0)) le

pub same_capacities : (setting : Setting) (older : List Entry) (e : Entry) (number : ℕ) (second : Option ℕ) → Legal setting (e ∷ older) → e.words ≡ Words.OfStream number (StreamOp.Unstream second)
    → (replay setting (e ∷ older)).past.capacities ≡ (replay setting older).past.capacities
same_capacities setting older e number second legal w =
    let c = (replay setting older).past.capacities in
    closing_along (λ (q : Past). q.capacities ≡ c) setting older e number second w (limits_after (Ends (replay setting older) e.lane number second) e.failed c) refl
