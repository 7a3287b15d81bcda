-- Commands whose messages are wanted sent, by each kind of plan that sends some: they go on as messages that are put after some deeds do.
use Rattle.std.proofs.Common.{◌≡◌, ℕ, ◌<◌, refl, sym, ◌∙◌, ap, subst, Bool, true, false, if◌then◌else◌, List, [], ◌∷◌, length, Option, Some, None}
use Rattle.peer_conn.specs.{Names.{MessageView, Answer, Entry}, Invariant.{PeerStateView, Keeps, OwnsBy}, Going.GoingBy}
use Rattle.peer_core.specs.{History.{Event, Did, Past, after_all}, Refinement.RouteView, Issuing.issued}
use Rattle.peer_streams.specs.History.{Gave}
use Rattle.peer_calls.specs.Issuing.{Posting}
use Rattle.peer_route.specs.{Replay.Replay, Plan.{Plan, Sends, Serves, Dispatches, call_answer}, Entries.{IsMeant, IsSending, IsServed, IsDispatched, object_postings, gave_next, unless_refused, server_after, writes, past_after, is_refused}}
use Rattle.peer_route.proofs.Objects.{delivered_events, served_calm, served_some}
use Rattle.peer_conn.proofs.Called.{past_same}

-- The entry's messages are wanted sent after these deeds; what the core keeps is what both leave, and as many written as the entry says.
pub record SendingBy (v : PeerStateView) (h : Past) (done : List Event) (ds : List Posting) (sent : List ℕ → Answer) (e : Entry) : Type 0 where
  pub meant : IsMeant h (Sends done ds sent) e
  pub keeps : Keeps v (past_after (Sends done ds sent) e h)

-- the entry once so many were written, or a write failed, by its answer
abbrev pub further : Entry → ℕ → Bool → Answer → Entry
further e written failed answer = record e { written = written; failed = failed; answer = answer }

-- ---- a command that sends messages

pub from_sends : (v : PeerStateView) (core : RouteView) (t : Replay) (done : List Event) (ds : List Posting) (sent : List ℕ → Answer) (e : Entry) (written : ℕ) (failed : Bool) (answer : Answer) → GoingBy v t (Sends done ds sent) e
    → SendingBy (record v { core = core }) t.past done ds sent (further e written failed answer) → GoingBy (record v { core = core }) t (Sends done ds sent) (further e written failed answer)
from_sends v core t done ds sent e written failed answer g s = record { acting = s.meant; keeps = s.keeps; calls = g.calls; streams = g.streams; server = g.server; owns = g.owns; serves = g.serves; taken = g.taken }

-- ---- a command that takes a call

pub to_called : (v : PeerStateView) (t : Replay) (k : ℕ) (m : MessageView) (e : Entry) (g : GoingBy v t (Dispatches k m) e)
    → SendingBy v t.past (Did k Gave ∷ []) (object_postings true t.past.name g.acting.1.0) (λ serials. call_answer m) e
to_called v t k m e g = record { meant = (g.acting.0, g.acting.1.2, g.acting.2); keeps = subst (Keeps v) (past_same t.past k m e g.acting.1) g.keeps }

pub from_called : (v : PeerStateView) (core : RouteView) (t : Replay) (k : ℕ) (m : MessageView) (e : Entry) (written : ℕ) (failed : Bool) (answer : Answer) (g : GoingBy v t (Dispatches k m) e)
    → SendingBy (record v { core = core }) t.past (Did k Gave ∷ []) (object_postings true t.past.name g.acting.1.0) (λ serials. call_answer m) (further e written failed answer)
    → GoingBy (record v { core = core }) t (Dispatches k m) (further e written failed answer)
from_called v core t k m e written failed answer g s =
    let is : IsDispatched (gave_next k t.past) m (further e written failed answer) = (g.acting.1.0, g.acting.1.1, s.meant.1) in
    record {
      acting = (s.meant.0, is, s.meant.2);
      keeps = subst (Keeps (record v { core = core })) (sym (past_same t.past k m (further e written failed answer) is)) s.keeps;
      calls = g.calls;
      streams = g.streams;
      server = g.server;
      owns = g.owns;
      serves = g.serves;
      taken = g.taken;
    }

-- ---- a command on objects

-- the same past, by what the command did
pub served_same : (h : Past) (said : Option Answer) (done : List Event) (e : Entry) (is : IsServed h said done e)
    → past_after (Serves said done) e h ≡ past_after (Sends (unless_refused e.answer done) (object_postings false h.name is.messages) (λ serials. is.answer)) e h
served_same h said done e is =
    ap (λ es. after_all (writes e) (after_all es (after_all (unless_refused e.answer done) h))) (delivered_events false h (unless_refused is.answer done) is.messages is.answer e is.unawaited is.delivers)

-- and where it isn't refused
pub served_past : (h : Past) (said : Option Answer) (done : List Event) (e : Entry) (is : IsServed h said done e) → is_refused e.answer ≡ false
    → past_after (Serves said done) e h ≡ past_after (Sends done (object_postings false h.name is.messages) (λ serials. is.answer)) e h
served_past h said done e is calm =
    served_same h said done e is ∙ ap (λ b. past_after (Sends (if b then [] else done) (object_postings false h.name is.messages) (λ serials. is.answer)) e h) calm

pub to_served : (v : PeerStateView) (t : Replay) (said : Option Answer) (done : List Event) (e : Entry) (g : GoingBy v t (Serves said done) e) → 0 < length e.put
    → SendingBy v t.past done (object_postings false t.past.name g.acting.1.messages) (λ serials. g.acting.1.answer) e
to_served v t said done e g some =
    let is = g.acting.1 in
    record { meant = (g.acting.0, served_some t.past said done e is some, g.acting.2); keeps = subst (Keeps v) (served_past t.past said done e is (served_calm t.past said done e is some).1) g.keeps }

-- the object server's stream is the same, where neither answer refuses the command
server_same : (said : Option Answer) (done : List Event) (a b : Answer) (streams : ℕ) (server : Option ℕ) → is_refused a ≡ is_refused b → server_after (Serves said done) a streams server ≡ server_after (Serves said done) b streams server
server_same said done a b streams None same = ap (λ x. if x then None else Some streams) same
server_same said done a b streams (Some k) same = refl

pub from_served : (v : PeerStateView) (core : RouteView) (t : Replay) (said : Option Answer) (done : List Event) (e : Entry) (written : ℕ) (failed : Bool) (answer : Answer) (g : GoingBy v t (Serves said done) e)
    → 0 < length e.put → is_refused answer ≡ false → SendingBy (record v { core = core }) t.past done (object_postings false t.past.name g.acting.1.messages) (λ serials. g.acting.1.answer) (further e written failed answer)
    → GoingBy (record v { core = core }) t (Serves said done) (further e written failed answer)
from_served v core t said done e written failed answer g some fine s =
    let is = g.acting.1 in
    let x = further e written failed answer in
    let ds = object_postings false t.past.name is.messages in
    let calm = served_calm t.past said done e is some in
    let so : IsServed t.past said done x = record {
      answer = is.answer;
      messages = is.messages;
      may = is.may;
      unawaited = is.unawaited;
      delivers = subst (λ b. IsSending (issued (after_all (if b then [] else done) t.past) ds) ds (λ serials. is.answer) x) (sym calm.0) s.meant.1;
    } in
    record {
      acting = (s.meant.0, so, s.meant.2);
      keeps = subst (Keeps (record v { core = core })) (sym (served_past t.past said done x so fine)) s.keeps;
      calls = g.calls;
      streams = g.streams;
      server = g.server;
      owns = subst (λ b. OwnsBy None e.lane v.makes [] e.put (if b then [] else done)) (calm.1 ∙ sym fine) g.owns;
      serves = g.serves ∙ server_same said done e.answer answer (length t.streams) t.server (calm.1 ∙ sym fine);
      taken = g.taken;
    }
