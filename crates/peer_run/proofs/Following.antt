-- A peer and a source follow one entry more, by its plan.
use Rattle.std.proofs.{Common.{◌≡◌, ℕ, ◌-◌, ◌^◌, ◌≤◌, refl, sym, ◌∙◌, ap, subst, arith, List, [], ◌∷◌, ◌++◌, length, Option, Some, None, IfSome, Bool, map, reverse}, lemmas.List.append-nil}
use Rattle.peer_route.specs.{Replay.Setting, Plan.{Plan, Says, plan}, Entries.{IsMeant, IsAtOnce, replay, past_after, more_by}, Environment.{ReadAgrees, ReadsAgree, left_after}}
use Rattle.peer_core.specs.History.{Past, no_past}
use Rattle.peer_run.specs.{Names.{SourceView, SinkView, Answer, Entry, Words, Command, Writing, Fine, command_of}, Runs.{Reads, IsRest, RunInvariant, Sinks, Running, Runs}}
use Rattle.peer_conn.specs.{Invariant.{PeerStateView, StateInvariant}, Going.quiet}
use Rattle.peer_service.specs.Service.{ServiceView}
use Rattle.peer_turns.specs.Objects.{Handed, AreServed}
use Rattle.peer_route.proofs.Kept.{at_start}
use Rattle.peer_turns.proofs.Replies.{all_replied}
use Rattle.peer_run.proofs.Sinks.{got_all, sinks_start}

-- before the first entry
pub follows_first : (setting : Setting) (p : PeerStateView) → StateInvariant p (replay setting []) → RunInvariant setting p []
follows_first setting p stands =
    let left = stands.keeps.left in
    let none : p.core.read ≡ 0 = left.read ∙ ap length (at_start (λ h. h.read ≡ []) refl (λ limit h so. so) (λ h so. so) (λ name h so. so) setting) in
    record {
      stands = stands;
      legal = tt;
      once = tt;
      within = omega (arith, none);
      written = left.done ∙ at_start (λ h. h.outbox.done ≡ length h.outbox.put) refl (λ limit h so. so) (λ h so. so) (λ name h so. so) setting ∙ ap length (sym left.outbox);
    }

pub follows_by : (setting : Setting) (p q : PeerStateView) (es : List Entry) (e : Entry) (pl : Plan) → plan (replay setting es) e.lane e.words ≡ pl → IsMeant (replay setting es).past pl e → IsAtOnce e
    → StateInvariant q (more_by pl e (replay setting es)) → q.core.read ≤ 2 ^ 64 - 2 → q.core.done ≡ length q.core.outbox → RunInvariant setting p es → RunInvariant setting q (e ∷ es)
follows_by setting p q es e pl means is once stands within written f = record {
  stands = subst (λ x. StateInvariant q (more_by x e (replay setting es))) (sym means) stands;
  legal = (subst (λ x. IsMeant (replay setting es).past x e) (sym means) is, f.legal);
  once = (once, f.once);
  within = within;
  written = written;
}

-- by one that is only answered
pub follows_still : (setting : Setting) (p : PeerStateView) (es : List Entry) (lane : ℕ) (w : Words) (answer : Answer) → plan (replay setting es) lane w ≡ Says answer [] → RunInvariant setting p es
    → RunInvariant setting p (quiet lane w answer None ∷ es)
follows_still setting p es lane w answer means f =
    let t = replay setting es in
    follows_by setting p p es (quiet lane w answer None) (Says answer []) means (refl, refl, record { put = refl; written = refl; failed = refl }) (λ fine. refl)
    (record { keeps = f.stands.keeps; calls = f.stands.calls ∙ sym (append-nil t.calls); streams = f.stands.streams ∙ sym (append-nil t.streams) ∙ sym (append-nil (t.streams ++ [])); server = f.stands.server }) f.within f.written f

-- ---- the source

if_both : {A : Type 0} (o : Option A) (P Q R S : A → Type 0) → ((a : A) → P a → Q a → R a × S a) → IfSome o P → IfSome o Q → IfSome o R × IfSome o S
if_both None P Q R S f p q = (tt, tt)
if_both (Some a) P Q R S f p q = f a p q

pub if_it_is : {A : Type 0} (o : Option A) (P : A → Type 0) → ((a : A) → o ≡ Some a → P a) → IfSome o P
if_it_is None P f = tt
if_it_is (Some a) P f = f a refl

-- what the past leaves in a source that had these bytes
abbrev pub IsLeft : List ℕ → Option Bool → Past → SourceView → Type 0
IsLeft bytes stop h now = IsRest h.closing (length h.read) (left_after bytes h) stop now

pub reads_by : (setting : Setting) (start now then : SourceView) (es : List Entry) (e : Entry) (pl : Plan) → plan (replay setting es) e.lane e.words ≡ pl
    → ((bytes : List ℕ) → IsLeft bytes start.stop (replay setting es).past now
    → ReadAgrees start.stop bytes (replay setting es).past pl e × IsLeft bytes start.stop (past_after pl e (replay setting es).past) then)
    → Reads setting start now es → Reads setting start then (e ∷ es)
reads_by setting start now then es e pl means step r =
    let t = replay setting es in
    let both = if_both start.left (λ bytes. ReadsAgree setting start.stop bytes es) (λ bytes. IsLeft bytes start.stop t.past now)
    (λ bytes. ReadsAgree setting start.stop bytes (e ∷ es)) (λ bytes. IsLeft bytes start.stop (replay setting (e ∷ es)).past then)
    (λ bytes told rest. let x = step bytes rest in
    ((subst (λ k. ReadAgrees start.stop bytes t.past k e) (sym means) x.0, told), subst (λ k. IsLeft bytes start.stop (past_after k e t.past) then) (sym means) x.1)) r.told r.rest in
    record { told = both.0; rest = both.1 }

pub reads_still : (setting : Setting) (start now : SourceView) (es : List Entry) (lane : ℕ) (w : Words) (answer : Answer) → plan (replay setting es) lane w ≡ Says answer []
    → Reads setting start now es → Reads setting start now (quiet lane w answer None ∷ es)
reads_still setting start now es lane w answer means r = reads_by setting start now now es (quiet lane w answer None) (Says answer []) means (λ bytes rest. (tt, rest)) r

-- ---- from what a run keeps to what it gives

told_nothing : (setting : Setting) (left : Option (List ℕ)) (stop : Option Bool) → IfSome left (λ bytes. ReadsAgree setting stop bytes [])
told_nothing setting None stop = tt
told_nothing setting (Some bytes) stop = tt

rest_none : (setting : Setting) (start : SourceView) → IfSome start.left (λ bytes. IsLeft bytes start.stop (replay setting []).past start)
rest_none setting start =
    if_it_is start.left (λ bytes. IsLeft bytes start.stop (replay setting []).past start)
    (λ bytes left. at_start (λ h. IsLeft bytes start.stop h start) (left, refl) (λ limit h so. so) (λ h so. so) (λ name h so. so) setting)

-- before the first command nothing was read
start_reads : (setting : Setting) (start : SourceView) → Reads setting start start []
start_reads setting start = record { told = told_nothing setting start.left start.stop; rest = rest_none setting start }

pub start_running : (setting : Setting) (start_in : SourceView) (start : SinkView) (p : PeerStateView) (writing : Writing) → RunInvariant setting p [] → writing ≡ Fine → Running setting start_in start p start_in start writing []
start_running setting start_in start p writing follows fine = record {
  follows = follows;
  reads = start_reads setting start_in;
  sinks = subst (Sinks start start) (sym (at_start (λ h. h.outbox ≡ no_past.outbox) refl (λ limit h so. so) (λ h so. so) (λ name h so. so) setting)) (sinks_start start);
  told = tt;
  closes = tt;
  source = refl;
  faults = refl;
  asked = refl;
  fine = λ e. fine;
}

-- nothing waits
pub all_done : (setting : Setting) (p : PeerStateView) (es : List Entry) → RunInvariant setting p es → let o = (replay setting es).past.outbox in o.done ≡ length o.put
all_done setting p es f = let left = f.stands.keeps.left in sym left.done ∙ f.written ∙ ap length left.outbox

-- what stands to a history is a run of its commands
pub runs_of : (boxes : Handed) (setting : Setting) (start_in : SourceView) (start_out : SinkView) (p : PeerStateView) (end_in : SourceView) (end_out : SinkView) (writing : Writing) (commands : List Command) (entries : List Entry)
    → Running setting start_in start_out p end_in end_out writing (reverse entries) → map command_of entries ≡ commands → (now : ServiceView) → AreServed setting boxes (reverse entries) now
    → Runs boxes setting start_in start_out end_in end_out commands entries
runs_of boxes setting start_in start_out p end_in end_out writing commands entries s e now served = record {
  objects = (now, served);
  replies = all_replied setting boxes (reverse entries) now served;
  legal = s.follows.legal;
  once = s.follows.once;
  each = e;
  reads = s.reads;
  writes = (got_all start_out end_out (replay setting (reverse entries)).past.outbox s.sinks (all_done setting p (reverse entries) s.follows)).held;
  room = s.told;
  closes = s.closes;
  asked = s.asked;
  source = s.source;
  sink = s.faults;
}
