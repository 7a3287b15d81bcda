-- A stream that was closed, or that the bus denied, is unknown for good.
use Rattle.peer_core.specs.History.{request_of, streams_of}
use Rattle.peer_streams.specs.Streams.{is_open as streams_is_open}
use Rattle.peer_streams.specs.Streams.{opening_answer as streams_opening_answer}
use Rattle.peer_streams.specs.Streams.{take_answer as streams_take_answer}
use Rattle.peer_streams.specs.{History.{Gone, done_by, Cloned, StreamEvent, Asked, Stream, phase, asks_by, new_stream, asking_stream, fail_stream}, Streams.{is_since, runs, item_at, offered, gave_last, held, take_by, opening_by, opening_at}}
use Rattle.peer_core.specs.{History.{Event, WriteFailed, Made, Did, Put, Past, after, after_all}, Asked.{is_open, are_open, close_waits, take_answer, take_events, gone_events, opening_answer, opening_events}, Issuing.puts}
use Rattle.peer_calls.specs.History.{AddMatch}
use Rattle.wire_message.specs.{Plain.edit, Polls.by_position}
use Rattle.peer_route.specs.{Names.{OpenState, Words, StreamOp, Entry, MessageView, Error, Answer}, Answers.{answer_of_take, answer_of_opening}, Replay.{Setting, Replay, handle_index}, Plan.{Plan, Says, refuses, where_named, where_open, unless_waits, makes, sends, leaves, ends, second_index, given_last, on_stream, plan}, Entries.{IsMeant, deeds, replay, more, Legal, put_events, writes}, StreamLaws.{is_second, names_stream, closes_stream, stays_open, says_denied, IsNoStream}}
use Rattle.peer_words.specs.CallMessage.{prepared_reply, prepared_error}
use Rattle.std.proofs.{Common.{◌≡◌, ◌⊎◌, inl, inr, ℕ, ◌==◌, ◌&&◌, not, refl, sym, ◌∙◌, ap, subst, ◌||◌, Bool, true, false, if◌then◌else◌, List, [], ◌∷◌, ◌++◌, Option, Some, None, option_map, Ok, Err, option_and_then}, Math.Bool.and-false, lemmas.Bool.{cases_eq, eq-eqb, eqb-true, and_parts, not-true}, lemmas.Option.slice_get-map}
use Rattle.std.specs.{List.{slice_get, AllByRecursion}, Option.option_and_then}
use Rattle.wire_message.proofs.Edits.{edit_other, edit_here, get_append}
use Rattle.peer_streams.proofs.Looks.{runs_at, take_at}
use Rattle.peer_route.proofs.{Plans.legal_from, Kept.{every, later}, Deeds.{open_stream, named_done, open_done, waits_done, named_on}}

-- ---- a stream that is gone

abbrev There : List Stream → ℕ → Type 0
There ss k = (s : Stream) × (slice_get ss k ≡ Some s)

record GoneAt (ss : List Stream) (k : ℕ) : Type 0 where
  stream : Stream
  made : slice_get ss k ≡ Some stream
  gone : stream.gone ≡ true

still_gone : (deed : StreamEvent) (s : Stream) → s.gone ≡ true → (done_by deed s).gone ≡ true
still_gone Gone s e = refl
still_gone deed s e = e

gone_edit : (deed : StreamEvent) (ss : List Stream) (j k : ℕ) → GoneAt ss k → GoneAt (edit j (done_by deed) ss) k
gone_edit deed ss j k g = elim (cases_eq j k) as (λ _. GoneAt (edit j (done_by deed) ss) k) [
  | inl same ↦ record { stream = done_by deed g.stream; made = ap (λ i. slice_get (edit i (done_by deed) ss) k) same ∙ edit_here (done_by deed) k ss g.stream g.made; gone = still_gone deed g.stream g.gone }
  | inr ne ↦ record { stream = g.stream; made = edit_other (done_by deed) j k ss ne ∙ g.made; gone = g.gone }
]

-- whatever happens
gone_after : (k : ℕ) (e : Event) (h : Past) → GoneAt h.streams k → GoneAt (after e h).streams k
gone_after k (Did j deed) h g = gone_edit deed h.streams j k g
gone_after k (Made making) h g = record { stream = g.stream; made = get_append k h.streams (new_stream (streams_of h) h.streams making ∷ []) g.stream g.made; gone = g.gone }
gone_after k (Put m (AddMatch rule asked)) h g = record { stream = g.stream; made = get_append k h.streams (asking_stream (request_of h m) rule ∷ []) g.stream g.made; gone = g.gone }
gone_after k WriteFailed h g =
    let fails = fail_stream h.read h.outbox.done in
    record { stream = fails g.stream; made = slice_get-map fails h.streams k ∙ ap (option_map fails) g.made; gone = ap (λ b. b || asks_by h.outbox.done (phase h.read g.stream)) g.gone }
gone_after k e h g = g

gone_now : (ss : List Stream) (k : ℕ) → There ss k → GoneAt (edit k (done_by Gone) ss) k
gone_now ss k there = record { stream = done_by Gone there.0; made = edit_here (done_by Gone) k ss there.0 there.1; gone = refl }

-- ---- what is asked of it

gone_runs : (ms : List MessageView) (s : Stream) → s.gone ≡ true → runs ms s ≡ false
unfolding runs
gone_runs ms s e = ap (λ b. s.open_reported && (not b && is_since (phase ms s))) e ∙ and-false s.open_reported

gone_take : (h : Past) (k : ℕ) → GoneAt h.streams k → take_answer h k ≡ Err Error.UnknownHandle
unfolding streams_take_answer
gone_take h k g = ap (take_at h.read h.closing) g.made ∙ ap (λ b. if b then Ok (take_by (held h.read g.stream) h.closing g.stream.closing_delivered) else Err Error.UnknownHandle) (gone_runs h.read g.stream g.gone)

gone_open : (h : Past) (k : ℕ) → GoneAt h.streams k → is_open h k ≡ false
unfolding streams_is_open
gone_open h k g = ap (runs_at h.read) g.made ∙ gone_runs h.read g.stream g.gone

gone_opening : (h : Past) (k : ℕ) → GoneAt h.streams k → opening_answer h k ≡ OpenState.Unknown
unfolding streams_opening_answer
gone_opening h k g = ap (opening_at h.read h.closing) g.made ∙ ap (λ b. if b || g.stream.open_reported then OpenState.Unknown else opening_by (phase h.read g.stream) h.closing) g.gone

gone_given : (h : Past) (k : ℕ) → GoneAt h.streams k → given_last h k ≡ None
unfolding gave_last
gone_given h k g = ap (option_and_then (gave_last h.read)) g.made ∙ ap (λ b. if b then None else item_at (offered h.read g.stream) g.stream.taken) g.gone

one_gone : (h : Past) (k : ℕ) (j : Option ℕ) → is_open h k ≡ false → are_open h k j ≡ false
one_gone h k None e = e
one_gone h k (Some j) e = ap (λ b. b && is_open h j && not (k == j)) e

ends_unopened : (h : Past) (k : ℕ) (j : Option (Option ℕ)) → is_open h k ≡ false → ends h k j ≡ refuses Error.UnknownHandle
ends_unopened h k None e = refl
ends_unopened h k (Some j) e = ap (λ b. where_open b (unless_waits (close_waits h k j) (leaves h k j))) (one_gone h k j e)

-- whatever is asked of a stream that is gone
gone_plan : (t : Replay) (lane : ℕ) (op : StreamOp) (k : ℕ) → GoneAt t.past.streams k → on_stream t lane op k ≡ refuses Error.UnknownHandle
gone_plan t lane (StreamOp.Reply body) k g = ap (λ m. sends t lane (prepared_reply t.past.name m body)) (gone_given t.past k g)
gone_plan t lane (StreamOp.Error name body) k g = ap (λ m. sends t lane (prepared_error t.past.name m name body)) (gone_given t.past k g)
gone_plan t lane StreamOp.Take k g = ap (λ r. Says (answer_of_take r) (take_events k r)) (gone_take t.past k g)
gone_plan t lane (StreamOp.TakeBefore before) k g = ap (λ r. Says (answer_of_take (by_position r)) (take_events k r)) (gone_take t.past k g)
gone_plan t lane StreamOp.Clone k g = ap (λ b. where_open b (makes t lane (Cloned k))) (gone_open t.past k g)
gone_plan t lane StreamOp.Opened k g = ap (λ r. Says (answer_of_opening r) (opening_events k r)) (gone_opening t.past k g)
gone_plan t lane (StreamOp.Queue limit) k g = ap (λ b. where_open b (Says Answer.Set (Did k (Asked limit) ∷ []))) (gone_open t.past k g)
gone_plan t lane (StreamOp.Unstream second) k g = ends_unopened t.past k (second_index t lane second) (gone_open t.past k g)

-- or where it is the second of two that are to be closed
second_gone : (t : Replay) (lane k : ℕ) (first : Option ℕ) (second : ℕ) → handle_index 0 lane second t.streams ≡ Some k → GoneAt t.past.streams k
    → where_named (on_stream t lane (StreamOp.Unstream (Some second))) first ≡ refuses Error.UnknownHandle
second_gone t lane k None second named g = refl
second_gone t lane k (Some i) second named g =
    ap (λ o. ends t.past i (option_map Some o)) named
    ∙ ap (λ b. where_open (is_open t.past i && b && not (i == k)) (unless_waits (close_waits t.past i (Some k)) (leaves t.past i (Some k)))) (gone_open t.past k g)
    ∙ ap (λ b. where_open (b && not (i == k)) (unless_waits (close_waits t.past i (Some k)) (leaves t.past i (Some k)))) (and-false (is_open t.past i))

-- ---- entries

-- The lane's number names a stream that is gone.
record IsClosed (t : Replay) (lane number : ℕ) : Type 0 where
  k : ℕ
  named : handle_index 0 lane number t.streams ≡ Some k
  closed : GoneAt t.past.streams k

-- a command names it as the first, or as the second
refused_by : (t : Replay) (lane n number : ℕ) (op : StreamOp) → IsClosed t lane number → (is_first second : Bool) → (n == number) ≡ is_first → is_second number op ≡ second → (is_first || second) ≡ true
    → plan t lane (Words.OfStream n op) ≡ refuses Error.UnknownHandle
refused_by t lane n number op c true second first is e =
    ap (λ x. where_named (on_stream t lane op) (handle_index 0 lane x t.streams)) (eqb-true n number first) ∙ ap (where_named (on_stream t lane op)) c.named ∙ gone_plan t lane op c.k c.closed
refused_by t lane n number (StreamOp.Unstream (Some second)) c false true first is e =
    second_gone t lane c.k (handle_index 0 lane n t.streams) second (ap (λ x. handle_index 0 lane x t.streams) (eqb-true second number is) ∙ c.named) c.closed
refused_by t lane n number op c false true first is e = cc
refused_by t lane n number op c false false first is e = cc

no_stream : (t : Replay) (lane : ℕ) (w : Words) (number : ℕ) → IsClosed t lane number → names_stream number w ≡ true → plan t lane w ≡ refuses Error.UnknownHandle
no_stream t lane (Words.OfStream n op) number c e = refused_by t lane n number op c (n == number) (is_second number op) refl refl e
no_stream t lane w number c e = cc

unknown_entry : (t : Replay) (x : Entry) (lane number : ℕ) → IsMeant t.past (plan t x.lane x.words) x → IsClosed t lane number → IsNoStream lane number x
unknown_entry t x lane number is c same named = (subst (λ pl. IsMeant t.past pl x) (no_stream t x.lane x.words number (subst (λ l. IsClosed t l number) (sym same) c) named) is).1

-- the deeds closed the lane's stream with this number
abbrev Closes : Replay → Entry → Plan → ℕ → Type 0
Closes t e pl number = (k : ℕ) × (handle_index 0 e.lane number t.streams ≡ Some k) × GoneAt (after_all (deeds pl e) t.past).streams k

-- what the deeds closed is closed behind the entry
closed_entry : (t : Replay) (e : Entry) (lane number k : ℕ) → handle_index 0 lane number t.streams ≡ Some k → GoneAt (after_all (deeds (plan t e.lane e.words) e) t.past).streams k → IsClosed (more t e) lane number
closed_entry t e lane number k named g =
    let pl = plan t e.lane e.words in
    record {
      k = k;
      named = named_on pl e t lane number k named;
      closed = every (λ (h : Past). GoneAt h.streams k) (gone_after k) (writes e) _ (every (λ (h : Past). GoneAt h.streams k) (gone_after k) (put_events pl e) _ g);
    }

closed_later : (setting : Setting) (newer older : List Entry) (e : Entry) (lane number : ℕ) → Legal setting (newer ++ e ∷ older) → IsClosed (replay setting (e ∷ older)) lane number → AllByRecursion (IsNoStream lane number) newer
closed_later setting newer older e lane number legal c =
    (later setting (λ t. IsClosed t lane number) (IsNoStream lane number)
    (λ t x is o. (closed_entry t x lane number o.k o.named (every (λ (h : Past). GoneAt h.streams o.k) (gone_after o.k) (deeds (plan t x.lane x.words) x) t.past o.closed), unknown_entry t x lane number is o)) newer (e ∷ older) legal c).1

-- ---- what closes

ends_done : (h : Past) (k : ℕ) (q : Option (Option ℕ)) (e : Entry) → IsMeant h (ends h k q) e → stays_open e.answer ≡ false
    → (j : Option ℕ) × (q ≡ Some j) × (are_open h k j ≡ true) × (ends h k q ≡ leaves h k j)
ends_done h k None e is not_ = let x : true ≡ false = ap stays_open (sym is.1) ∙ not_ in cc
ends_done h k (Some j) e is not_ =
    let o = open_done h (are_open h k j) (unless_waits (close_waits h k j) (leaves h k j)) e is not_ in
    (j, refl, o.0, o.1 ∙ waits_done h (close_waits h k j) (leaves h k j) e (subst (λ pl. IsMeant h pl e) o.1 is) not_)

open_there : (h : Past) (k : ℕ) → is_open h k ≡ true → There h.streams k
open_there h k e = let o = open_stream h k e in (o.0, o.1)

-- those that were open are gone
gone_of : (h : Past) (k : ℕ) (j : Option ℕ) (i : ℕ) → are_open h k j ≡ true → (i ≡ k) ⊎ (j ≡ Some i) → GoneAt (after_all (gone_events k j) h).streams i
gone_of h k None i opens (inl same) = subst (GoneAt (edit k (done_by Gone) h.streams)) (sym same) (gone_now h.streams k (open_there h k opens))
gone_of h k None i opens (inr same) = cc
gone_of h k (Some j) i opens which =
    let both = and_parts (is_open h k) (is_open h j) (and_parts (is_open h k && is_open h j) (not (k == j)) opens).0 in
    let apart : (k == j) ≡ false = not-true (k == j) (and_parts (is_open h k && is_open h j) (not (k == j)) opens).1 in
    let there = open_there h j both.1 in
    elim which as (λ _. GoneAt (edit j (done_by Gone) (edit k (done_by Gone) h.streams)) i) [
      | inl same ↦ subst (GoneAt (edit j (done_by Gone) (edit k (done_by Gone) h.streams))) (sym same) (gone_edit Gone (edit k (done_by Gone) h.streams) j k (gone_now h.streams k (open_there h k both.0)))
      | inr same ↦
          let one : j ≡ i = cc in
          subst (GoneAt (edit j (done_by Gone) (edit k (done_by Gone) h.streams))) one
          (gone_now (edit k (done_by Gone) h.streams) j (there.0, edit_other (done_by Gone) k j h.streams (λ e. let x : (k == j) ≡ true = eq-eqb k j e in cc) ∙ there.1))
    ]

-- the number names one of them
which_by : (t : Replay) (lane n number k : ℕ) (second j : Option ℕ) → handle_index 0 lane n t.streams ≡ Some k → second_index t lane second ≡ Some j → (is_first other : Bool) → (n == number) ≡ is_first
    → is_second number (StreamOp.Unstream second) ≡ other → (is_first || other) ≡ true → (i : ℕ) × (handle_index 0 lane number t.streams ≡ Some i) × ((i ≡ k) ⊎ (j ≡ Some i))
which_by t lane n number k second j one two true other first q e = (k, ap (λ x. handle_index 0 lane x t.streams) (sym (eqb-true n number first)) ∙ one, inl refl)
which_by t lane n number k (Some x) j one two false true first q e = by_second (handle_index 0 lane x t.streams) (ap (λ y. handle_index 0 lane y t.streams) (sym (eqb-true x number q))) two
  where
    by_second : (o : Option ℕ) → handle_index 0 lane number t.streams ≡ o → option_map Some o ≡ Some j → (i : ℕ) × (handle_index 0 lane number t.streams ≡ Some i) × ((i ≡ k) ⊎ (j ≡ Some i))
    by_second None named same = cc
    by_second (Some i) named same = (i, named, inr (let q : Some (Some i) ≡ Some j = same in cc))
which_by t lane n number k None j one two false true first q e = cc
which_by t lane n number k second j one two false false first q e = cc

closes_entry : (t : Replay) (e : Entry) (w : Words) (number : ℕ) → IsMeant t.past (plan t e.lane w) e → closes_stream number w ≡ true → stays_open e.answer ≡ false → Closes t e (plan t e.lane w) number
closes_entry t e (Words.OfStream n (StreamOp.Unstream second)) number is closes not_ =
    let h = t.past in
    let o = named_done h (on_stream t e.lane (StreamOp.Unstream second)) (handle_index 0 e.lane n t.streams) e is not_ in
    let l = ends_done h o.0 (second_index t e.lane second) e (subst (λ pl. IsMeant h pl e) o.2 is) not_ in
    let which = which_by t e.lane n number o.0 second l.0 o.1 l.1 (n == number) (is_second number (StreamOp.Unstream second)) refl refl closes in
    (which.0, which.1, subst (λ pl. GoneAt (after_all (deeds pl e) h).streams which.0) (sym (o.2 ∙ l.3)) (gone_of h o.0 l.0 which.0 l.2 which.2))
closes_entry t e w number is closes not_ = cc

pub closed_for_good : (setting : Setting) (newer older : List Entry) (e : Entry) (number : ℕ) → Legal setting (newer ++ e ∷ older) → closes_stream number e.words ≡ true
    → stays_open e.answer ≡ false → AllByRecursion (IsNoStream e.lane number) newer
closed_for_good setting newer older e number legal closes not_ =
    let t = replay setting older in
    let c = closes_entry t e e.words number (legal_from setting newer (e ∷ older) legal).0 closes not_ in
    closed_later setting newer older e e.lane number legal (closed_entry t e e.lane number c.0 c.1 c.2)

-- ---- what is denied

denied_state : (h : Past) (k : ℕ) (state : OpenState) → There h.streams k → says_denied (answer_of_opening state) ≡ true → GoneAt (after_all (opening_events k state) h).streams k
denied_state h k (OpenState.Refused m) there said = gone_now h.streams k there
denied_state h k (OpenState.Over error) there said = gone_now h.streams k there
denied_state h k state there said = cc

denied_at : (h : Past) (k : ℕ) (o : Option Stream) → slice_get h.streams k ≡ o → says_denied (answer_of_opening (opening_at h.read h.closing o)) ≡ true
    → GoneAt (after_all (opening_events k (opening_at h.read h.closing o)) h).streams k
denied_at h k None at said = cc
denied_at h k (Some s) at said = denied_state h k (opening_at h.read h.closing (Some s)) (s, at) said

denied_so : (h : Past) (k : ℕ) → says_denied (answer_of_opening (opening_answer h k)) ≡ true → GoneAt (after_all (opening_events k (opening_answer h k)) h).streams k
unfolding streams_opening_answer
denied_so h k said = denied_at h k (slice_get h.streams k) refl said

denies : (t : Replay) (e : Entry) (number : ℕ) (p : Option ℕ) → handle_index 0 e.lane number t.streams ≡ p → IsMeant t.past (where_named (on_stream t e.lane StreamOp.Opened) p) e → says_denied e.answer ≡ true
    → Closes t e (where_named (on_stream t e.lane StreamOp.Opened) p) number
denies t e number None named is said = let q : false ≡ true = ap says_denied (sym is.1) ∙ said in cc
denies t e number (Some k) named is said = (k, named, denied_so t.past k (ap says_denied (sym is.1) ∙ said))

pub denied_for_good : (setting : Setting) (newer older : List Entry) (e : Entry) (number : ℕ) → Legal setting (newer ++ e ∷ older) → e.words ≡ Words.OfStream number StreamOp.Opened
    → says_denied e.answer ≡ true → AllByRecursion (IsNoStream e.lane number) newer
denied_for_good setting newer older e number legal w said =
    let t = replay setting older in
    let means = ap (plan t e.lane) w in
    let is = subst (λ pl. IsMeant t.past pl e) means (legal_from setting newer (e ∷ older) legal).0 in
    let c = denies t e number (handle_index 0 e.lane number t.streams) refl is said in
    closed_later setting newer older e e.lane number legal (closed_entry t e e.lane number c.0 c.1 (subst (λ pl. GoneAt (after_all (deeds pl e) t.past).streams c.0) (sym means) c.2))
