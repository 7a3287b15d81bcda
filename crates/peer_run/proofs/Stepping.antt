-- A read, and a `close`, are one entry more of a run.
use Rattle.std.proofs.Common.{◌≡◌, ℕ, refl, ◌∙◌, ap, subst, Bool, false, List, ◌∷◌, Option, Some, None, IsSome, Result, Ok, Err, IfOk}
use Rattle.peer_run.specs.{Names.{SourceView, SinkView, MessageView, Error, asked_again, Writing, Writer, Answer, Entry, IoKind, Words}, Runs.{Reads, IsRest, Shuts, SourceMoves, RunInvariant, Running}}
use Rattle.peer_conn.specs.{Invariant.PeerStateView, Going.quiet}
use Rattle.peer_route.specs.{Replay.{Setting, Replay}, Plan.{Closes, plan}, Entries.{IsQuiet, replay, more, deeds}, Environment.CloseAgrees}
use Rattle.peer_calls.specs.History.{Outbox}
use Rattle.peer_core.specs.History.{Past}
use Rattle.wire_message.specs.Plain.{first_of}
use Rattle.peer_route.proofs.{Kept.{Keeps, kept_by, deeds_all, deed_outbox, every_entry, quiet_past}, Plans.is_live, Writers.{writer_keeps, shut_writer}}
use Rattle.peer_run.proofs.{Sinks.{sinks_same, sinks_shut, got_all}, Following.{reads_by, all_done}}

-- what an entry that puts nothing leaves the outbox, but for what the peer met
pub same_outbox : (t : Replay) (e : Entry) → IsQuiet e → is_live e.words ≡ false → record (more t e).past.outbox { writer = Writer.Fine } ≡ record t.past.outbox { writer = Writer.Fine }
same_outbox t e quiet run =
    let unmet : Past → Outbox = λ h. record h.outbox { writer = Writer.Fine } in
    let pl = plan t e.lane e.words in
    ap unmet (quiet_past pl e t.past quiet)
    ∙ kept_by unmet (deeds pl e) t.past (deeds_all (Keeps unmet) (λ x is h. ap (λ (o : Outbox). record o { writer = Writer.Fine }) (deed_outbox x is h)) (λ error h. refl) t e.lane e e.words (λ reads. (λ m h. refl, λ bytes h. refl)) (λ line. cc))

-- where the writer is fine, it was before
fine_before : (t : Replay) (e : Entry) (w : Writer) → t.past.outbox.writer ≡ w → (more t e).past.outbox.writer ≡ Writer.Fine → t.past.outbox.writer ≡ Writer.Fine
fine_before t e Writer.Fine is fine = is
fine_before t e Writer.Failed is fine = let same = every_entry (λ h. h.outbox.writer ≡ Writer.Failed) (writer_keeps Writer.Failed (λ x. cc)) (plan t e.lane e.words) e t.past is in cc
fine_before t e Writer.Closed is fine = let same = every_entry (λ h. h.outbox.writer ≡ Writer.Closed) (writer_keeps Writer.Closed (λ x. cc)) (plan t e.lane e.words) e t.past is in cc

read_untold : (room : Option (Option ℕ)) (answer : Answer) → CloseAgrees room Words.Read answer
read_untold None answer = tt
read_untold (Some room) answer = tt

pub running_read : (setting : Setting) (start_in now_in end_in : SourceView) (start now : SinkView) (old new : PeerStateView) (writing : Writing) (es : List Entry) (lane : ℕ) (answer : Answer) (read : Option MessageView)
    → let e = quiet lane Words.Read answer read in RunInvariant setting new (e ∷ es) → Reads setting start_in end_in (e ∷ es) → SourceMoves Words.Read old.core.calls.closing answer now_in.faults end_in.faults
    → Running setting start_in start old now_in now writing es → Running setting start_in start new end_in now writing (e ∷ es)
running_read setting start_in now_in end_in start now old new writing es lane answer read follows reads moves r =
    let t = replay setting es in
    let e = quiet lane Words.Read answer read in
    let calm : IsQuiet e = record { put = refl; written = refl; failed = refl } in
    let was = r.follows.stands.keeps.left in
    let sinks = sinks_same start now t.past.outbox (more t e).past.outbox (same_outbox t e calm refl) r.sinks in
    record {
      follows = follows;
      reads = reads;
      sinks = sinks;
      told = ((got_all start now (more t e).past.outbox sinks (all_done setting new (e ∷ es) follows)).told, r.told);
      closes = (read_untold start.room answer, r.closes);
      source = (now_in.faults, r.source, subst (λ o. SourceMoves Words.Read o answer now_in.faults end_in.faults) was.calls.closing moves);
      faults = (now.faults, r.faults, refl);
      asked = r.asked;
      fine = λ fine. r.fine (fine_before t e t.past.outbox.writer refl fine);
    }

-- ---- the peer is closed

rest_closed : (o : Option Error) (count : ℕ) (rest : List ℕ) (stop : Option Bool) (now : SourceView) → IsRest o count rest stop now → IsRest (first_of o (Error.InputOutput IoKind.Closed)) count rest stop now
rest_closed None count rest stop now is = is
rest_closed (Some error) count rest stop now is = is

close_told : (room : Option (Option ℕ)) (answer : Answer) → (IsSome room → answer ≡ Answer.Shut) → CloseAgrees room Words.Close answer
close_told None answer told = tt
close_told (Some room) answer told = told refl

pub running_close : (setting : Setting) (start_in now_in : SourceView) (start now end : SinkView) (old new : PeerStateView) (writing writing' : Writing) (es : List Entry) (lane : ℕ) (answer : Answer)
    → RunInvariant setting new (quiet lane Words.Close answer None ∷ es) → Shuts answer now end → Running setting start_in start old now_in now writing es
    → Running setting start_in start new now_in end writing' (quiet lane Words.Close answer None ∷ es)
running_close setting start_in now_in start now end old new writing writing' es lane answer follows shuts r =
    let t = replay setting es in
    let e = quiet lane Words.Close answer None in
    let quiet : IsQuiet e = record { put = refl; written = refl; failed = refl } in
    let sinks = sinks_same start end t.past.outbox (more t e).past.outbox (same_outbox t e quiet refl) (sinks_shut answer start now end t.past.outbox shuts r.sinks) in
    record {
      follows = follows;
      reads = reads_by setting start_in now_in now_in es e Closes refl (λ bytes rest. (tt, rest_closed t.past.closing _ _ _ _ rest)) r.reads;
      sinks = sinks;
      told = ((got_all start end (more t e).past.outbox sinks (all_done setting new (e ∷ es) follows)).told, r.told);
      closes = (close_told start.room answer (λ there. shuts.told (r.sinks.got.tells there)), r.closes);
      source = (now_in.faults, r.source, refl);
      faults = (now.faults, r.faults, shuts.faults);
      asked = shuts.asked ∙ ap asked_again r.asked;
      fine = λ fine. absurd (shut_writer t.past.outbox.writer fine);
    }

-- what follows from all that holds of an answer holds of it
pub all_so : {R : Type 0} (A B C D P : Entry → Type 0) (r : Result Entry R) → IfOk r A → IfOk r B → IfOk r C → IfOk r D → ((e : Entry) → A e → B e → C e → D e → P e) → IfOk r P
all_so A B C D P (Err e) a b c d so = tt
all_so A B C D P (Ok e) a b c d so = so e a b c d
