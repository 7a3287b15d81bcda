-- A command that is no read and no `close` is one entry more.
use Rattle.std.proofs.{Common.{◌≡◌, ℕ, ◌-◌, ◌^◌, ◌≤◌, refl, sym, ◌∙◌, ap, subst, ◌||◌, ◌&&◌, Bool, true, false, if◌then◌else◌, List, [], ◌∷◌, length, drop, Option, Some, None}, Math.Bool.or-false}
use Rattle.peer_run.specs.{Names.{SourceView, SinkView, MessageView, Error, Writing, asked_again, Words, Answer, Entry}, Runs.{IsRest, Flushed, Moves, SourceMoves, is_close, is_failed_write, asked_by, Running}}
use Rattle.peer_conn.specs.{Invariant.{PeerStateView, StateInvariant}, Going.{IsActing, NoneWaits}}
use Rattle.peer_route.specs.{Replay.{Setting, Replay}, Plan.{Plan, Says, Sends, Reads, Serves, Dispatches, Closes, Writes, Never, plan}, Entries.{IsMeant, IsAtOnce, is_refused, deeds, replay, more, past_after}, Environment.{ReadAgrees, CloseAgrees}}
use Rattle.peer_core.specs.History.{Event, Received, Passed, PeerClosed, Past, after}
use Rattle.peer_turns.specs.Objects.{IsPerformed}
use Rattle.peer_route.proofs.{Plans.{IsDeed, AreDeeds}, Kept.{deeds_are, entry_keeps}}
use Rattle.peer_route.proofs.Kept as kept
use Rattle.peer_conn.proofs.{Laid.{Does, plan_does}, Written.all_written}
use Rattle.peer_run.proofs.{Sinks.got_all, Following.{IsLeft, follows_by, reads_by, all_done}}

-- ---- other commands

not_close : (w : Words) → IsPerformed w → is_close w ≡ false
not_close Words.Close begun = absurd begun
not_close w begun = refl

moves_none : (w : Words) (closed : Option Error) (answer : Answer) (faults : ℕ) → IsPerformed w → SourceMoves w closed answer faults faults
moves_none Words.Read closed answer faults begun = absurd begun
moves_none w closed answer faults begun = refl

close_untold : (room : Option (Option ℕ)) (w : Words) (answer : Answer) → IsPerformed w → CloseAgrees room w answer
close_untold None w answer begun = tt
close_untold (Some room) Words.Close answer begun = absurd begun
close_untold (Some room) w answer begun = tt

pub trail_setting : (setting : Setting) (es : List Entry) → (replay setting es).setting ≡ setting
trail_setting setting [] = refl
trail_setting setting (e ∷ es) = trail_setting setting es

-- where nothing waits in a peer, nothing waits by the replay that it is left by
pub none_waits : (t : Replay) (p : PeerStateView) → StateInvariant p t → p.core.done ≡ length p.core.outbox → NoneWaits t.past
none_waits t p s full = let left = s.keeps.left in sym left.done ∙ full ∙ ap length left.outbox

-- where the same was read and taken, and closed the peer, the same is left
still_left : (bytes : List ℕ) (stop : Option Bool) (g h : Past) (now : SourceView) → h.closing ≡ g.closing → h.read ≡ g.read → h.taken ≡ g.taken → IsLeft bytes stop g now → IsLeft bytes stop h now
still_left bytes stop g h now closing read taken rest =
    subst (λ o. IsRest o (length h.read) (drop h.taken bytes) stop now) (sym closing)
    (subst (λ (ms : List MessageView). IsRest g.closing (length ms) (drop h.taken bytes) stop now) (sym read)
    (subst (λ n. IsRest g.closing (length g.read) (drop n bytes) stop now) (sym taken) rest))

-- ---- what it leaves of the reads

deed_read : (e : Event) → IsDeed e → (h : Past) → (after e h).read ≡ h.read
deed_read (Received m) is h = absurd is
deed_read e is h = refl

deed_taken : (e : Event) → IsDeed e → (h : Past) → (after e h).taken ≡ h.taken
deed_taken (Received m) is h = absurd is
deed_taken (Passed bytes) is h = absurd is
deed_taken e is h = refl

deed_closing : (e : Event) → IsDeed e → (h : Past) → (after e h).closing ≡ h.closing
deed_closing (PeerClosed error) is h = absurd is
deed_closing e is h = refl

-- what is done unless the command is refused are deeds
unless_deeds : (b : Bool) (done : List Event) → AreDeeds done → AreDeeds (if b then [] else done)
unless_deeds true done are = tt
unless_deeds false done are = are

-- nothing was read by it, and the peer was not closed
record Unread (h : Past) (pl : Plan) (e : Entry) : Type 0 where
  pub meant : IsMeant h pl e
  pub told : (stop : Option Bool) (bytes : List ℕ) → ReadAgrees stop bytes h pl e
  pub read : (past_after pl e h).read ≡ h.read
  pub taken : (past_after pl e h).taken ≡ h.taken
  pub closing : (past_after pl e h).closing ≡ h.closing

unread : (h : Past) (pl : Plan) (e : Entry) → Does pl → IsActing h pl e → Unread h pl e
unread h (Says answer done) e does is = record {
  meant = is;
  told = λ stop bytes. tt;
  read = entry_keeps (λ h. h.read) (Says answer done) e h (deeds_are (kept.Keeps (λ h. h.read)) deed_read done does) (λ m purpose h. refl) (λ h. refl) (λ h. refl);
  taken = entry_keeps (λ h. h.taken) (Says answer done) e h (deeds_are (kept.Keeps (λ h. h.taken)) deed_taken done does) (λ m purpose h. refl) (λ h. refl) (λ h. refl);
  closing = entry_keeps (λ h. h.closing) (Says answer done) e h (deeds_are (kept.Keeps (λ h. h.closing)) deed_closing done does) (λ m purpose h. refl) (λ h. refl) (λ h. refl);
}
unread h (Sends done ds sent) e does is = record {
  meant = is;
  told = λ stop bytes. tt;
  read = entry_keeps (λ h. h.read) (Sends done ds sent) e h (deeds_are (kept.Keeps (λ h. h.read)) deed_read done does) (λ m purpose h. refl) (λ h. refl) (λ h. refl);
  taken = entry_keeps (λ h. h.taken) (Sends done ds sent) e h (deeds_are (kept.Keeps (λ h. h.taken)) deed_taken done does) (λ m purpose h. refl) (λ h. refl) (λ h. refl);
  closing = entry_keeps (λ h. h.closing) (Sends done ds sent) e h (deeds_are (kept.Keeps (λ h. h.closing)) deed_closing done does) (λ m purpose h. refl) (λ h. refl) (λ h. refl);
}
unread h (Serves said done) e does is = record {
  meant = is;
  told = λ stop bytes. tt;
  read = entry_keeps (λ h. h.read) (Serves said done) e h (deeds_are (kept.Keeps (λ h. h.read)) deed_read (deeds (Serves said done) e) (unless_deeds (is_refused e.answer) done does)) (λ m purpose h. refl) (λ h. refl) (λ h. refl);
  taken = entry_keeps (λ h. h.taken) (Serves said done) e h (deeds_are (kept.Keeps (λ h. h.taken)) deed_taken (deeds (Serves said done) e) (unless_deeds (is_refused e.answer) done does)) (λ m purpose h. refl) (λ h. refl) (λ h. refl);
  closing = entry_keeps (λ h. h.closing) (Serves said done) e h (deeds_are (kept.Keeps (λ h. h.closing)) deed_closing (deeds (Serves said done) e) (unless_deeds (is_refused e.answer) done does)) (λ m purpose h. refl) (λ h. refl) (λ h. refl);
}
unread h (Dispatches k m) e does is = record {
  meant = is;
  told = λ stop bytes. tt;
  read = entry_keeps (λ h. h.read) (Dispatches k m) e h ((λ h. refl), tt) (λ m purpose h. refl) (λ h. refl) (λ h. refl);
  taken = entry_keeps (λ h. h.taken) (Dispatches k m) e h ((λ h. refl), tt) (λ m purpose h. refl) (λ h. refl) (λ h. refl);
  closing = entry_keeps (λ h. h.closing) (Dispatches k m) e h ((λ h. refl), tt) (λ m purpose h. refl) (λ h. refl) (λ h. refl);
}
unread h pl e does is = absurd is

-- ---- the entry

module _ (setting : Setting) (start_in now_in : SourceView) (start now end : SinkView) (old new : PeerStateView) (writing writing' : Writing) (es : List Entry) (e : Entry)
    (begun : IsPerformed e.words) (r : Running setting start_in start old now_in now writing es) (acting : IsActing (replay setting es).past (plan (replay setting es) e.lane e.words) e)
    (stands : StateInvariant new (more (replay setting es) e)) (once : IsAtOnce e) (flushed : Flushed start now end (more (replay setting es) e).past.outbox e.failed writing') (asked : end.closes ≡ now.closes) where
  pub performed : Running setting start_in start new now_in end writing' (e ∷ es)
  performed =
      let t = replay setting es in
      let pl = plan t e.lane e.words in
      let f = r.follows in
      let was = f.stands.keeps.left in
      let left = stands.keeps.left in
      let does = plan_does t e.lane e.words in
      let un = unread t.past pl e does acting in
      let none = all_written t.past pl e does acting once (all_done setting old es f) in
      let follows = follows_by setting old new es e pl refl un.meant once stands (subst (λ k. k ≤ 2 ^ 64 - 2) (sym (left.read ∙ ap length un.read ∙ sym was.read)) f.within)
      (left.done ∙ none ∙ ap length (sym left.outbox)) f in
      record {
        follows = follows;
        reads = reads_by setting start_in now_in now_in es e pl refl (λ bytes rest. (un.told start_in.stop bytes, still_left bytes start_in.stop t.past (past_after pl e t.past) now_in un.closing un.read un.taken rest)) r.reads;
        sinks = flushed.sinks;
        told = ((got_all start end (more t e).past.outbox flushed.sinks (all_done setting new (e ∷ es) follows)).told, r.told);
        closes = (close_untold start.room e.words e.answer begun, r.closes);
        source = (now_in.faults, r.source, moves_none e.words t.past.closing e.answer now_in.faults begun);
        faults = (now.faults, r.faults, subst (λ b. Moves b now.faults end.faults) (sym (ap (λ b. e.failed || (b && is_failed_write e.answer)) (not_close e.words begun) ∙ or-false e.failed)) flushed.faults);
        asked = asked ∙ r.asked ∙ ap (λ b. if b then asked_again (asked_by start.closes es) else asked_by start.closes es) (sym (not_close e.words begun));
        fine = flushed.fine;
      }
