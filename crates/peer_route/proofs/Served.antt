-- The object server's stream: which entry makes it, and how; that it stays; and what is answered of the next call.
use Rattle.peer_core.specs.History.{streams_of, Event, Made, Did, Past, after, after_all}
use Rattle.peer_streams.specs.Streams.{take_answer as streams_take_answer}
use Rattle.peer_streams.specs.{History.{Ruled, Gave, done_by, Stream, fresh, phase}, Streams.{runs, held, offered, matched, take_by}}
use Rattle.peer_core.specs.Asked.{take_answer, next_message}
use Rattle.peer_core.specs.Issuing.{issued}
use Rattle.peer_calls.specs.Issuing.{Posting}
use Rattle.wire_message.specs.Outgoing.{OutgoingMessageView, expects_reply}
use Rattle.std.proofs.Common.{◌≡◌, ◌⊎◌, inl, inr, ℕ, refl, sym, ◌∙◌, ap, subst, Bool, true, false, if◌then◌else◌, List, [], ◌∷◌, ◌++◌, length, is_some, append-nil, Option, Some, None, Result, Ok, Err, unwrap_or, option_map, option_and_then}
use Rattle.std.specs.List.{slice_get}
use Rattle.peer_route.specs.{Names.{MessageView, Error, Rule, Polled, Words, ObjectOp, Answer, Entry}, Replay.{Setting, Replay, made_owners}, Plan.{Plan, Serves, Dispatches, server_events, next_call, call_answer, no_call, gives_call, serves_next, on_objects, plan}, Entries.{IsMeant, IsSending, IsSaid, IsServed, IsDispatched, object_postings, gave_next, write_fault, unsent, unless_refused, past_after, Legal, replay, more, more_by, deeds, server_after, is_refused, is_of_objects}, Laws.{with_server, with_messages, held_for_objects, is_undelivered}, StreamLaws.{is_serve, does_beside}}
use Rattle.wire_message.proofs.Edits.{get_new, edit_here, drop_next}
use Rattle.peer_streams.proofs.{Looks.take_at, StreamsMade.held_fresh}
use Rattle.peer_route.proofs.{Plans.{IsFair, fair}, Kept.{entry_keeps}, Objects.unwanted, Nobodys.next_held, Deeds.{Spares, stays as stays_made, turned, along_messages}, Spoken.refused_changes_nothing}

-- ---- a command on objects

pub on_asks : (h : Past) (server : Option ℕ) (op : ObjectOp) → is_serve op ≡ false → on_objects h server op ≡ Serves None (server_events h.name server)
on_asks h server ObjectOp.Serve own = cc
on_asks h server op own = refl

asks : (t : Replay) (e : Entry) (op : ObjectOp) (server : Option ℕ) → is_serve op ≡ false → e.words ≡ Words.Objects op → t.server ≡ server → plan t e.lane e.words ≡ Serves None (server_events t.past.name server)
asks t e op server own w s = ap (plan t e.lane) w ∙ on_asks t.past t.server op own ∙ ap (λ o. Serves None (server_events t.past.name o)) s

-- where there is no stream yet, every command on objects is one that makes it
on_first : (h : Past) (op : ObjectOp) → (said : Option Answer) × (on_objects h None op ≡ Serves said (server_events h.name None))
on_first h ObjectOp.Serve = (Some (no_call h.closing), refl)
on_first h op = (None, refl)

-- a command on objects that takes no call leaves what it does, and its messages behind that
served_more : (said : Option Answer) (done : List Event) (e : Entry) (t : Replay)
    → more_by (Serves said done) e t ≡ with_messages e (record {
      past = after_all (unless_refused e.answer done) t.past;
      calls = t.calls;
      streams = t.streams ++ made_owners None (unless_refused e.answer done);
      server = server_after (Serves said done) e.answer (length t.streams) t.server;
      setting = t.setting;
    })
served_more said done e t =
    let past = past_after (Serves said done) e t.past in
    let streams = t.streams ++ made_owners None (unless_refused e.answer done) in
    let server = server_after (Serves said done) e.answer (length t.streams) t.server in
    ap (λ ns. record { past = past; calls = ns; streams = streams ++ []; server = server; setting = t.setting }) (append-nil t.calls)
    ∙ ap (λ ns. record { past = past; calls = t.calls; streams = ns; server = server; setting = t.setting }) (append-nil streams)

begins : (t : Replay) (e : Entry) (op : ObjectOp) → e.words ≡ Words.Objects op → is_refused e.answer ≡ false → t.server ≡ None → more t e ≡ with_messages e (with_server t)
begins t e op w fine s =
    let done = server_events t.past.name None in
    let one = on_first t.past op in
    let ds = deeds (Serves one.0 done) e in
    let n = length t.streams in
    let means : plan t e.lane e.words ≡ Serves one.0 done = ap (plan t e.lane) w ∙ ap (λ o. on_objects t.past o op) s ∙ one.1 in
    ap (λ pl. more_by pl e t) means ∙ served_more one.0 done e t
    ∙ ap (with_messages e) (ap (λ o. record { past = after_all ds t.past; calls = t.calls; streams = t.streams ++ made_owners None ds; server = server_after (Serves one.0 done) e.answer n o; setting = t.setting }) s
    ∙ ap (λ b. record { past = after_all (if b then [] else done) t.past; calls = t.calls; streams = t.streams ++ made_owners None (if b then [] else done); server = if b then None else Some n; setting = t.setting }) fine)

pub first : (setting : Setting) (older : List Entry) (e : Entry) (op : ObjectOp) → Legal setting (e ∷ older) → e.words ≡ Words.Objects op → is_refused e.answer ≡ false → (replay setting older).server ≡ None
    → replay setting (e ∷ older) ≡ with_messages e (with_server (replay setting older))
first setting older e op legal w fine s = begins (replay setting older) e op w fine s

pub refused : (setting : Setting) (older : List Entry) (e : Entry) (op : ObjectOp) (error : Error) → Legal setting (e ∷ older) → e.words ≡ Words.Objects op → is_serve op ≡ false → e.answer ≡ Answer.Refused error
    → replay setting (e ∷ older) ≡ replay setting older
refused setting older e op error legal w own a = refused_changes_nothing setting older e error legal a (λ u. let q : false ≡ true = sym own ∙ ap does_beside (sym w) ∙ u in cc)

none_done : (b : Bool) (es : List Event) → es ≡ [] → (if b then [] else es) ≡ []
none_done true es none = refl
none_done false es none = none

pub later : (setting : Setting) (older : List Entry) (e : Entry) (op : ObjectOp) (k : ℕ) → Legal setting (e ∷ older) → e.words ≡ Words.Objects op → is_serve op ≡ false → (replay setting older).server ≡ Some k
    → replay setting (e ∷ older) ≡ with_messages e (replay setting older)
later setting older e op k legal w own s =
    let t = replay setting older in
    let server = server_after (Serves None []) e.answer (length t.streams) t.server in
    ap (λ pl. more_by pl e t) (asks t e op (Some k) own w s) ∙ served_more None [] e t
    ∙ ap (with_messages e) (ap (λ es. record { past = after_all es t.past; calls = t.calls; streams = t.streams ++ made_owners None es; server = server; setting = t.setting }) (none_done (is_refused e.answer) [] refl)
    ∙ ap (λ ns. record { past = t.past; calls = t.calls; streams = ns; server = server; setting = t.setting }) (append-nil t.streams)
    ∙ ap (λ o. record { past = t.past; calls = t.calls; streams = t.streams; server = o; setting = t.setting }) (ap (server_after (Serves None []) e.answer (length t.streams)) s ∙ sym s))

-- ---- every entry

server_stays : (pl : Plan) (a : Answer) (streams k : ℕ) → server_after pl a streams (Some k) ≡ Some k
server_stays (Serves said done) a streams k = refl
server_stays pl a streams k = refl

pub stays : (setting : Setting) (newer older : List Entry) (k : ℕ) → (replay setting older).server ≡ Some k → (replay setting (newer ++ older)).server ≡ Some k
stays setting [] older k s = s
stays setting (e ∷ newer) older k s =
    let t = replay setting (newer ++ older) in
    let pl = plan t e.lane e.words in
    ap (server_after pl e.answer (length t.streams)) (stays setting newer older k s) ∙ server_stays pl e.answer (length t.streams) k

none_else : (t : Replay) (w : Words) (pl : Plan) (a : Answer) (streams : ℕ) → IsFair t w pl → (server_after pl a streams None ≡ None) ⊎ ((op : ObjectOp) × (w ≡ Words.Objects op))
none_else t w (Serves said done) a streams f = inr f.asked
none_else t w pl a streams f = inl refl

pub only : (setting : Setting) (older : List Entry) (e : Entry) → (replay setting older).server ≡ None → ((replay setting (e ∷ older)).server ≡ None) ⊎ ((op : ObjectOp) × (e.words ≡ Words.Objects op))
only setting older e s =
    let t = replay setting older in
    let pl = plan t e.lane e.words in
    subst (λ o. (server_after pl e.answer (length t.streams) o ≡ None) ⊎ ((op : ObjectOp) × (e.words ≡ Words.Objects op))) (sym s) (none_else t e.words pl e.answer (length t.streams) (fair t e.lane e.words))

-- ---- the next call

-- the command takes that call
calls : (t : Replay) (e : Entry) (m : MessageView) → e.words ≡ Words.Objects ObjectOp.Serve → next_call t.past t.server ≡ Some m → (k : ℕ) × (t.server ≡ Some k) × (next_message t.past k ≡ Some m) × (plan t e.lane e.words ≡ Dispatches k m)
calls t e m w next = by t.server refl next
  where
    by : (server : Option ℕ) → t.server ≡ server → next_call t.past server ≡ Some m → (k : ℕ) × (t.server ≡ Some k) × (next_message t.past k ≡ Some m) × (plan t e.lane e.words ≡ Dispatches k m)
    by None is none = cc
    by (Some k) is some = (k, is, some, ap (plan t e.lane) w ∙ ap (serves_next t.past) is ∙ ap (gives_call t.past k) some)

-- there is none
calls_none : (t : Replay) (e : Entry) → e.words ≡ Words.Objects ObjectOp.Serve → next_call t.past t.server ≡ None → (done : List Event) × (plan t e.lane e.words ≡ Serves (Some (no_call t.past.closing)) done)
calls_none t e w next = by t.server refl next
  where
    by : (server : Option ℕ) → t.server ≡ server → next_call t.past server ≡ None → (done : List Event) × (plan t e.lane e.words ≡ Serves (Some (no_call t.past.closing)) done)
    by None is none = (server_events t.past.name None, ap (plan t e.lane) w ∙ ap (serves_next t.past) is)
    by (Some k) is none = ([], ap (plan t e.lane) w ∙ ap (serves_next t.past) is ∙ ap (gives_call t.past k) none)

pub uncalled : (setting : Setting) (older : List Entry) (e : Entry) → Legal setting (e ∷ older) → e.words ≡ Words.Objects ObjectOp.Serve → next_call (replay setting older).past (replay setting older).server ≡ None
    → (e.answer ≡ no_call (replay setting older).past.closing) × (e.put ≡ [])
uncalled setting older e legal w next =
    let t = replay setting older in
    let none = calls_none t e w next in
    let is = (subst (λ pl. IsMeant t.past pl e) none.1 legal.0).1 in
    let quiet = unwanted false (after_all (unless_refused is.answer none.0) t.past) t.past.name is.messages is.answer e is.may.1 is.delivers in
    (quiet.1 ∙ is.may.0, quiet.0.put)

unsent_undelivered : (error : Error) → is_undelivered (unsent error) ≡ true
unsent_undelivered (Error.InputOutput kind) = refl
unsent_undelivered error = refl

answered_by : (r : Result (List ℕ) Error) (ds : List Posting) (said : Answer) (e : Entry) → IsSending r ds (λ serials. said) e → (e.answer ≡ said) ⊎ (is_undelivered e.answer ≡ true)
answered_by (Err error) ds said e is = inr (ap is_undelivered is.0 ∙ unsent_undelivered error)
answered_by (Ok serials) ds said e is = by e.failed is.answer
  where
    by : (failed : Bool) → e.answer ≡ (if failed then write_fault else said) → (e.answer ≡ said) ⊎ (is_undelivered e.answer ≡ true)
    by true a = inr (ap is_undelivered a)
    by false a = inl a

pub answered : (setting : Setting) (older : List Entry) (e : Entry) (m : MessageView) → Legal setting (e ∷ older) → e.words ≡ Words.Objects ObjectOp.Serve → next_call (replay setting older).past (replay setting older).server ≡ Some m
    → (e.answer ≡ call_answer m) ⊎ (is_undelivered e.answer ≡ true)
answered setting older e m legal w next =
    let t = replay setting older in
    let one = calls t e m w next in
    let is = (subst (λ pl. IsMeant t.past pl e) one.3 legal.0).1 in
    answered_by _ (object_postings true t.past.name is.0) (call_answer m) e is.2

-- ---- all or none

-- what may be said of objects says that messages weren't put only where it refuses the command
said_undelivered : (a : Answer) → is_of_objects a ≡ true → is_undelivered a ≡ true → is_refused a ≡ true
said_undelivered Answer.Added may un = un
said_undelivered Answer.Exists may un = un
said_undelivered (Answer.Removed destroyed) may un = un
said_undelivered (Answer.Slot slot) may un = un
said_undelivered a may un = may

-- none are wanted where what was said says that they weren't put
said_unwanted : (said : Option Answer) (a : Answer) (ps : List OutgoingMessageView) → IsSaid said a ps → is_undelivered a ≡ true → ps ≡ []
said_unwanted None a ps may un = may.1 (said_undelivered a may.0 un)
said_unwanted (Some known) a ps may un = may.1

served_none : (h : Past) (said : Option Answer) (done : List Event) (e : Entry) → IsServed h said done e → is_undelivered e.answer ≡ true → e.failed ≡ false → e.put ≡ []
served_none h said done e is un fine = by (issued g ds) is.delivers
  where
    g : Past
    g = after_all (unless_refused is.answer done) h

    ds : List Posting
    ds = object_postings false h.name is.messages

    by : (r : Result (List ℕ) Error) → IsSending r ds (λ serials. is.answer) e → e.put ≡ []
    by (Err error) none = none.1.put
    by (Ok serials) put =
        let at : e.answer ≡ is.answer = put.answer ∙ ap (λ b. if b then write_fault else is.answer) fine in
        (unwanted false g h.name is.messages is.answer e (said_unwanted said is.answer is.messages is.may (ap is_undelivered (sym at) ∙ un)) is.delivers).0.put

-- nor does what is said of a call that was answered
call_delivered : (b : Bool) (position : ℕ) → is_undelivered (if b then Answer.Served position else Answer.Silent position) ≡ false
call_delivered true position = refl
call_delivered false position = refl

dispatched_none : (h : Past) (m : MessageView) (e : Entry) → IsDispatched h m e → is_undelivered e.answer ≡ true → e.failed ≡ false → e.put ≡ []
dispatched_none h m e is un fine = by (issued h ds) is.2
  where
    ds : List Posting
    ds = object_postings true h.name is.0

    by : (r : Result (List ℕ) Error) → IsSending r ds (λ serials. call_answer m) e → e.put ≡ []
    by (Err error) none = none.1.put
    by (Ok serials) put =
        let at : e.answer ≡ call_answer m = put.answer ∙ ap (λ b. if b then write_fault else call_answer m) fine in
        let no : true ≡ false = sym un ∙ ap is_undelivered at ∙ call_delivered (expects_reply m.kind m.flags) m.position in
        cc

-- a command on objects asks whoever keeps them, or hands them a call
objects_mean : (h : Past) (server : Option ℕ) (op : ObjectOp) → ((said : Option Answer) × (done : List Event) × (on_objects h server op ≡ Serves said done)) ⊎ ((k : ℕ) × (m : MessageView) × (on_objects h server op ≡ Dispatches k m))
objects_mean h server ObjectOp.Serve = next server
  where
    gives : (k : ℕ) (o : Option MessageView) → ((said : Option Answer) × (done : List Event) × (gives_call h k o ≡ Serves said done)) ⊎ ((j : ℕ) × (m : MessageView) × (gives_call h k o ≡ Dispatches j m))
    gives k None = inl (Some (no_call h.closing), [], refl)
    gives k (Some m) = inr (k, m, refl)

    next : (server : Option ℕ) → ((said : Option Answer) × (done : List Event) × (serves_next h server ≡ Serves said done)) ⊎ ((k : ℕ) × (m : MessageView) × (serves_next h server ≡ Dispatches k m))
    next None = inl (Some (no_call h.closing), server_events h.name None, refl)
    next (Some k) = gives k (next_message h k)
objects_mean h server op = inl (None, server_events h.name server, refl)

pub all_or_none : (setting : Setting) (older : List Entry) (e : Entry) (op : ObjectOp) → Legal setting (e ∷ older) → e.words ≡ Words.Objects op → is_undelivered e.answer ≡ true → e.failed ≡ false → e.put ≡ []
all_or_none setting older e op legal w un fine = by (objects_mean t.past t.server op)
  where
    t : Replay
    t = replay setting older

    by : ((said : Option Answer) × (done : List Event) × (on_objects t.past t.server op ≡ Serves said done)) ⊎ ((k : ℕ) × (m : MessageView) × (on_objects t.past t.server op ≡ Dispatches k m)) → e.put ≡ []
    by (inl (said, done, means)) = served_none t.past said done e (subst (λ pl. IsMeant t.past pl e) (ap (plan t e.lane) w ∙ means) legal.0).1 un fine
    by (inr (k, m, means)) = dispatched_none (gave_next k t.past) m e (subst (λ pl. IsMeant t.past pl e) (ap (plan t e.lane) w ∙ means) legal.0).1 un fine

-- ---- what a call leaves

-- of these messages the stream with this number holds those
record HoldsAt (ms : List MessageView) (k : ℕ) (left : List MessageView) (h : Past) : Type 0 where
  stream : Stream
  made : slice_get h.streams k ≡ Some stream
  is : held ms stream ≡ left

holds_after : (ms : List MessageView) (k : ℕ) (left : List MessageView) (e : Event) (h : Past) → Spares k e → HoldsAt ms k left h → HoldsAt ms k left (after e h)
unfolding held offered matched phase
holds_after ms k left e h spare o =
    let r = stays_made e h k o.stream spare o.made in record { stream = turned o.stream r.0 r.1 r.2; made = r.3; is = o.is }

-- what a stream holds once it gave its first
gave_rest : (ms : List MessageView) (s : Stream) (m : MessageView) (rest : List MessageView) → held ms s ≡ m ∷ rest → held ms (done_by Gave s) ≡ rest
unfolding held offered matched phase
gave_rest ms s m rest e = (drop_next s.taken (offered ms s) m rest e).0

held_of : (ms : List MessageView) (streams : List Stream) (server : Option ℕ) (k : ℕ) (s : Stream) → server ≡ Some k → slice_get streams k ≡ Some s → unwrap_or (option_map (held ms) (option_and_then (slice_get streams) server)) [] ≡ held ms s
held_of ms streams server k s is at = ap (λ o. unwrap_or (option_map (held ms) (option_and_then (slice_get streams) o)) []) is ∙ ap (λ o. unwrap_or (option_map (held ms) o) []) at

pub takes : (setting : Setting) (older : List Entry) (e : Entry) (m : MessageView) → Legal setting (e ∷ older) → e.words ≡ Words.Objects ObjectOp.Serve → next_call (replay setting older).past (replay setting older).server ≡ Some m
    → held_for_objects (replay setting older) ≡ m ∷ held_for_objects (replay setting (e ∷ older))
takes setting older e m legal w next =
    let t = replay setting older in
    let one = calls t e m w next in
    let k = one.0 in
    let pl = plan t e.lane e.words in
    let here = next_held t.past k m one.2 in
    let s = here.0 in
    let g = after (Did k Gave) t.past in
    let begun : HoldsAt t.past.read k here.2 g = record { stream = done_by Gave s; made = edit_here (done_by Gave) k t.past.streams s here.1; is = gave_rest t.past.read s m here.2 here.3 } in
    let behind : HoldsAt t.past.read k here.2 (past_after (Dispatches k m) e t.past) = along_messages (HoldsAt t.past.read k here.2) (Spares k) (holds_after t.past.read k here.2) (λ x why. tt) tt tt (Dispatches k m) e t.past begun in
    let now : HoldsAt t.past.read k here.2 (past_after pl e t.past) = subst (λ p. HoldsAt t.past.read k here.2 (past_after p e t.past)) (sym one.3) behind in
    let read : (past_after pl e t.past).read ≡ t.past.read =
    ap (λ p. (past_after p e t.past).read) one.3 ∙ entry_keeps (λ (h : Past). h.read) (Dispatches k m) e t.past ((λ h. refl), tt) (λ x why h. refl) (λ h. refl) (λ h. refl) in
    let server : (more t e).server ≡ Some k = ap (λ p. server_after p e.answer (length t.streams) t.server) one.3 ∙ one.1 in
    held_of t.past.read t.past.streams t.server k s one.1 here.1 ∙ here.3
    ∙ ap (λ xs. m ∷ xs) (sym (held_of (past_after pl e t.past).read (past_after pl e t.past).streams (more t e).server k now.stream server now.made ∙ ap (λ ms. held ms now.stream) read ∙ now.is))

-- ---- after closing

pub over : (p : Past) (rule : Rule) (error : Error) → p.closing ≡ Some error → take_answer (after (Made (Ruled rule None)) p) (length p.streams) ≡ Ok Polled.Ended
unfolding streams_take_answer runs phase
over p rule error shut =
    ap (take_at p.read p.closing) (get_new p.streams (fresh (streams_of p) (Some rule) (is_some p.closing)))
    ∙ ap (λ ms. Ok (take_by ms p.closing (is_some p.closing))) (held_fresh (streams_of p) (Some rule) (is_some p.closing))
    ∙ ap (λ o. Ok (take_by [] o (is_some o))) shut
