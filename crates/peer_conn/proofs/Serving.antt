-- Commands on objects: their messages are put, and the object server's stream is made, or none is.
use Rattle.std.proofs.Common.{◌≡◌, ℕ, inl, refl, sym, ◌∙◌, ap, subst, Bool, true, false, if◌then◌else◌, List, [], ◌∷◌, ◌++◌, length, drop, Option, Some, None, Result, Ok, Err, is_some}
use Rattle.peer_conn.specs.{Names.{MessageView, Error, Rule, Words, Answer, Entry, Makes, StreamHandle}, Handles.HasHandles, Invariant.{PeerStateView, Keeps, StateInvariant, SameOwners, AreTaken, call_owners, stream_owners, server_of, made_by, makes_by}, Going.{GoingBy, Going, IsOnObjects, quiet}}
use Rattle.peer_core.specs.{History.{calls_of, Event, Put, Made, Past, after, after_all}, Refinement.{RouteView, Refines}, Issuing.{issued, put_each}}
use Rattle.peer_core.proofs.Core.{streams_len}
use Rattle.peer_streams.specs.History.{StreamOrigin, Ruled}
use Rattle.peer_calls.specs.History.{OfLane}
use Rattle.wire_message.specs.Outgoing.{OutgoingMessageView, message_of, sent_by, expects}
use Rattle.peer_route.specs.{Replay.{Replay, made_owners}, Plan.{Serves, server_rule, server_events, next_call, no_call, gives_call, serves_next, plan}, Entries.{IsServed, IsSending, object_postings, object_events, unless_refused, is_refused, is_of_objects, server_after}}
use Rattle.peer_route.proofs.{Served.on_asks, Objects.none_sent}
use Rattle.peer_words.specs.declared.words.ObjectOp.TheVariants as ops
use Rattle.peer_conn.proofs.{Held.held_made, Quietly.keeps_along, Begun.begun_entry, Called.{AreUnawaited, AreBare, PostsBy, objects_each, put_kept, delivered, sent_taken}}

-- ---- the object server's stream

-- where there is one, nothing is made
pub still_keeps : (v : PeerStateView) (h : Past) (server : Option ℕ) → is_some server ≡ true → Keeps v h → Keeps v (after_all (server_events h.name server) h)
still_keeps v h None some keeps = cc
still_keeps v h (Some k) some keeps = keeps

pub still_made : (server : Option ℕ) → is_some server ≡ true → Makes.Nothing ≡ made_by server
still_made None some = cc
still_made (Some k) some = refl

-- where there is none, it is made
none_there : (server : Option ℕ) → is_some server ≡ false → None ≡ server
none_there None none = refl
none_there (Some k) none = cc

pub server_made : (server : Option ℕ) → is_some server ≡ false → Makes.Server ≡ made_by server
server_made server none = ap made_by (none_there server none)

pub serving_keeps : (v w : PeerStateView) (h : Past) (rule : Rule) (stream : ℕ) → Keeps v h → is_some v.server ≡ false → rule ≡ server_rule v.core.name → stream ≡ length v.core.streams → Refines w.core (after (Made (Ruled rule None)) h)
    → w.handles ≡ v.handles ++ StreamHandle.Open stream ∷ [] → w.given ≡ v.given ++ None ∷ [] → Keeps w (after_all (server_events h.name v.server) h)
serving_keeps v w h rule stream keeps none is number left held given =
    let here : rule ≡ server_rule h.name = is ∙ ap server_rule keeps.left.name in
    let making = Made (Ruled (server_rule h.name) None) in
    subst (λ server. Keeps w (after_all (server_events h.name server) h)) (none_there v.server none)
    (keeps_along w v.given h (making ∷ []) keeps.given (tt, tt)
    (subst (HasHandles (after making h)) (sym held) (held_made h v.handles (Ruled (server_rule h.name) None) stream tt (number ∙ streams_len v.core h keeps.left) keeps.held))
    (subst (λ r. Refines w.core (after (Made (Ruled r None)) h)) here left) given)

-- ---- a command on objects is begun

owns_by : (lane : ℕ) (failed : Bool) (name : Option (List ℕ)) (refused : Bool) (server : Option ℕ)
    → (call_owners lane failed (makes_by refused server) ≡ []) × (stream_owners lane failed (makes_by refused server) ≡ made_owners None (if refused then [] else server_events name server) ++ [])
owns_by lane failed name true server = (refl, refl)
owns_by lane failed name false None = (refl, refl)
owns_by lane failed name false (Some k) = (refl, refl)

serves_by : (said : Option Answer) (done : List Event) (answer : Answer) (refused : Bool) (streams : ℕ) (server : Option ℕ) → is_refused answer ≡ refused → server_of streams server (makes_by refused server) ≡ server_after (Serves said done) answer streams server
serves_by said done answer true streams None is = ap (λ b. if b then None else Some streams) (sym is)
serves_by said done answer false streams None is = ap (λ b. if b then None else Some streams) (sym is)
serves_by said done answer true streams (Some k) is = refl
serves_by said done answer false streams (Some k) is = refl

serves_going : (old v : PeerStateView) (t : Replay) (lane : ℕ) (w : Words) (said : Option Answer) (answer : Answer) (put : List MessageView) (refused : Bool) → is_refused answer ≡ refused
    → IsServed t.past said (server_events t.past.name t.server) (begun_entry lane w answer put) → StateInvariant old t → SameOwners old v
    → Keeps v (after_all (object_events put) (after_all (if refused then [] else server_events t.past.name old.server) t.past)) → v.makes ≡ makes_by refused old.server → AreTaken t.setting.takes_fds put
    → GoingBy v t (Serves said (server_events t.past.name t.server)) (begun_entry lane w answer put)
serves_going old v t lane w said answer put refused is so s same keeps makes taken =
    let done = server_events t.past.name t.server in
    let made : v.makes ≡ makes_by refused t.server = makes ∙ ap (makes_by refused) s.server in
    record {
      acting = (refl, so, inl (refl, refl));
      keeps = subst (λ b. Keeps v (after_all (object_events put) (after_all (if b then [] else done) t.past))) (sym is)
          (subst (λ server. Keeps v (after_all (object_events put) (after_all (if refused then [] else server_events t.past.name server) t.past))) s.server keeps);
      calls = same.0 ∙ s.calls;
      streams = same.1 ∙ s.streams;
      server = same.2 ∙ s.server;
      owns = λ failed. subst (λ m. (call_owners lane failed m ≡ []) × (stream_owners lane failed m ≡ made_owners None (if is_refused answer then [] else done) ++ [])) (sym made)
          (subst (λ b. (call_owners lane failed (makes_by refused t.server) ≡ []) × (stream_owners lane failed (makes_by refused t.server) ≡ made_owners None (if b then [] else done) ++ [])) (sym is) (owns_by lane failed t.past.name refused t.server));
      serves = ap (server_of (length t.streams) t.server) made ∙ serves_by said done answer refused (length t.streams) t.server is;
      taken = taken;
    }

-- ---- its messages are put, then the stream is made

-- which changes neither the calls nor the outbox
pub calls_beside : (refused : Bool) (name : Option (List ℕ)) (server : Option ℕ) (h : Past) → calls_of (after_all (if refused then [] else server_events name server) h) ≡ calls_of h
calls_beside true name server h = refl
calls_beside false name (Some k) h = refl
calls_beside false name None h = refl

-- nor do messages that are put change the name
name_put : (name : Option (List ℕ)) (ps : List OutgoingMessageView) (serials : List ℕ) (h : Past) → (put_each (object_postings false name ps) serials h).name ≡ h.name
name_put name [] serials h = refl
name_put name (p ∷ ps) [] h = refl
name_put name (p ∷ ps) (serial ∷ serials) h = name_put name ps serials (after (Put (message_of (sent_by name false p) serial) (OfLane (expects p))) h)

-- so it may be made before or after
made_first : (name : Option (List ℕ)) (ps : List OutgoingMessageView) (serials : List ℕ) (making : StreamOrigin) (h : Past)
    → after (Made making) (put_each (object_postings false name ps) serials h) ≡ put_each (object_postings false name ps) serials (after (Made making) h)
made_first name [] serials making h = refl
made_first name (p ∷ ps) [] making h = refl
made_first name (p ∷ ps) (serial ∷ serials) making h = made_first name ps serials making (after (Put (message_of (sent_by name false p) serial) (OfLane (expects p))) h)

beside_first : (refused : Bool) (server : Option ℕ) (ps : List OutgoingMessageView) (serials : List ℕ) (h : Past) → let q = put_each (object_postings false h.name ps) serials h in
    after_all (if refused then [] else server_events q.name server) q ≡ put_each (object_postings false h.name ps) serials (after_all (if refused then [] else server_events h.name server) h)
beside_first true server ps serials h = refl
beside_first false (Some k) ps serials h = refl
beside_first false None ps serials h =
    let q = put_each (object_postings false h.name ps) serials h in
    ap (λ name. after (Made (Ruled (server_rule name) None)) q) (name_put h.name ps serials h) ∙ made_first h.name ps serials (Ruled (server_rule h.name) None) h

-- what the core keeps then
kept_served : (old v : PeerStateView) (mid : RouteView) (h : Past) (ps : List OutgoingMessageView) (said answer : Answer) (e : Entry) (refused : Bool) (r : Result (List ℕ) Error) → AreUnawaited ps → Keeps old h
    → PostsBy old.core mid (object_postings false h.name ps) h said answer r → IsSending r (object_postings false h.name ps) (λ serials. said) e
    → ((p : Past) → Keeps (record old { core = mid }) p → Keeps v (after_all (if refused then [] else server_events p.name old.server) p))
    → Keeps v (after_all (object_events e.put) (after_all (if refused then [] else server_events h.name old.server) h))
kept_served old v mid h ps said answer e refused (Ok serials) none keeps posts is makes =
    let g = after_all (if refused then [] else server_events h.name old.server) h in
    subst (Keeps v) (beside_first refused old.server ps serials h ∙ sym (objects_each false h.name ps serials g none) ∙ ap (λ ms. after_all (object_events ms) g) (sym is.put))
    (makes (put_each (object_postings false h.name ps) serials h) (put_kept false old mid h.name ps serials h keeps posts.1))
kept_served old v mid h ps said answer e refused (Err error) none keeps posts is makes =
    let g = after_all (if refused then [] else server_events h.name old.server) h in
    let same : Keeps (record old { core = mid }) h = record { left = subst (λ c. Refines c h) (sym posts.1) keeps.left; held = keeps.held; given = keeps.given } in
    subst (Keeps v) (ap (λ ms. after_all (object_events ms) g) (sym is.1.put)) (makes h same)

-- the entry is what was said, with the messages that are wanted sent
begun_asks : (old v : PeerStateView) (mid : RouteView) (t : Replay) (lane : ℕ) (w : Words) (ps : List OutgoingMessageView) (said answer : Answer) (put : List MessageView) → is_of_objects said ≡ true → (is_refused said ≡ true → ps ≡ [])
    → AreUnawaited ps → AreBare ps → StateInvariant old t → SameOwners old v → PostsBy old.core mid (object_postings false t.past.name ps) t.past said answer (issued t.past (object_postings false t.past.name ps)) → put ≡ drop (length old.core.outbox) mid.outbox
    → ((p : Past) → Keeps (record old { core = mid }) p → Keeps v (after_all (if is_refused answer then [] else server_events p.name old.server) p)) → v.makes ≡ makes_by (is_refused answer) old.server
    → GoingBy v t (Serves None (server_events t.past.name t.server)) (begun_entry lane w answer put)
begun_asks old v mid t lane w ps said answer put of_objects none unawaited bare s same posts is makes made =
    let h = t.past in
    let done = server_events h.name t.server in
    let e = begun_entry lane w answer put in
    let ds = object_postings false h.name ps in
    let sends : IsSending (issued h ds) ds (λ serials. said) e = delivered false old.core mid h [] lane w ps said answer put s.keeps.left refl posts is in
    serves_going old v t lane w None answer put (is_refused answer) refl (record {
      answer = said;
      messages = ps;
      may = (of_objects, none);
      unawaited = unawaited;
      delivers = delivered false old.core mid h (unless_refused said done) lane w ps said answer put s.keeps.left (calls_beside (is_refused said) h.name t.server h) posts is;
    }) s same (kept_served old v mid h ps said answer e (is_refused answer) (issued h ds) unawaited s.keeps posts sends makes) made (sent_taken t.setting.takes_fds false h.name ps said e (issued h ds) bare sends)

pub begun_objects : (old v : PeerStateView) (mid : RouteView) (t : Replay) (lane : ℕ) (w : Words) (ps : List OutgoingMessageView) (said answer : Answer) (put : List MessageView) → IsOnObjects w → is_of_objects said ≡ true → (is_refused said ≡ true → ps ≡ [])
    → AreUnawaited ps → AreBare ps → StateInvariant old t → SameOwners old v → PostsBy old.core mid (object_postings false t.past.name ps) t.past said answer (issued t.past (object_postings false t.past.name ps)) → put ≡ drop (length old.core.outbox) mid.outbox
    → ((p : Past) → Keeps (record old { core = mid }) p → Keeps v (after_all (if is_refused answer then [] else server_events p.name old.server) p)) → v.makes ≡ makes_by (is_refused answer) old.server
    → Going v t (begun_entry lane w answer put)
begun_objects old v mid t lane (Words.Objects op) ps said answer put on of_objects none unawaited bare s same posts is makes made =
    subst (λ pl. GoingBy v t pl (begun_entry lane (Words.Objects op) answer put)) (sym (on_asks t.past t.server op on))
    (begun_asks old v mid t lane (Words.Objects op) ps said answer put of_objects none unawaited bare s same posts is makes made)
begun_objects old v mid t lane w ps said answer put on of_objects none unawaited bare s same posts is makes made = absurd on

-- ---- there is no call

uncalled_plan : (h : Past) (server : Option ℕ) → next_call h server ≡ None → serves_next h server ≡ Serves (Some (no_call h.closing)) (server_events h.name server)
uncalled_plan h None e = refl
uncalled_plan h (Some k) e = ap (gives_call h k) e

-- that isn't a refusal
calm : (closing : Option Error) → is_refused (no_call closing) ≡ false
calm None = refl
calm (Some error) = refl

pub begun_uncalled : (old v : PeerStateView) (t : Replay) (lane : ℕ) (answer : Answer) → next_call t.past old.server ≡ None → answer ≡ no_call t.past.closing → StateInvariant old t → SameOwners old v
    → Keeps v (after_all (server_events t.past.name old.server) t.past) → v.makes ≡ made_by old.server → Going v t (quiet lane (Words.Objects ops.Serve) answer None)
begun_uncalled old v t lane answer none is s same keeps makes =
    let w = Words.Objects ops.Serve in
    let e = quiet lane w answer None in
    let said = no_call t.past.closing in
    let done = server_events t.past.name t.server in
    let calmly : is_refused answer ≡ false = ap is_refused is ∙ calm t.past.closing in
    let so : IsServed t.past (Some said) done e = record {
      answer = answer;
      messages = [];
      may = (is, refl);
      unawaited = tt;
      delivers = none_sent false (after_all (unless_refused answer done) t.past) t.past.name answer e (record { put = refl; written = refl; failed = refl }) refl;
    } in
    subst (λ pl. GoingBy v t pl e) (sym (uncalled_plan t.past t.server (ap (next_call t.past) (sym s.server) ∙ none)))
    (serves_going old v t lane w (Some said) answer [] false calmly so s same keeps makes tt)
