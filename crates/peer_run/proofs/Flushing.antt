-- How messages that wait are written: one after another, up to one whose write fails.
use Rattle.std.proofs.{Common.{◌≡◌, ◌≢◌, ℕ, ◌+◌, ◌-◌, ◌≤◌, ◌<◌, ◌⊎◌, inl, inr, zero, suc, refl, sym, ◌∙◌, ap, subst, arith, IfSome, Bool, true, false, List, [], ◌∷◌, ◌++◌, length, slice_get, Option, Some, None, Result, Ok, Err, is_ok, length-append}, Math.Bool.and-false}
use Rattle.peer_run.specs.{Names.{SinkView, MessageView, Error, Fine, MayRise, Sends, is_unsupported, has_descriptors, Writing, IoKind, Writer, Entry}, Runs.{Sinks, Flushed, IsFine, IsUnfailed}}
use Rattle.peer_conn.specs.{Invariant.{PeerStateView, AreTaken}, Going.{Going, IsActing, NoneWaits}}
use Rattle.peer_conn.proofs.{Laid.{Does, plan_does}, Written.{IsDue, is_due, begun_outbox, wrote_past, failed_past, faults_leave}}
use Rattle.peer_core.specs.History.{Past, Wrote, WriteFailed, after, after_all}
use Rattle.peer_calls.specs.History.{Outbox, worse}
use Rattle.peer_route.specs.{Replay.Replay, Plan.{Plan, plan}, Entries.{IsLater, repeat, past_after, write_fault}}
use Rattle.peer_run.proofs.Sinks.{sinks_put, sinks_wrote, sinks_failed}

-- ---- a send never lowers the count of faults

pub rises : (old new : ℕ) → MayRise old new → old ≤ new
rises old new (inl more) = omega (arith, more)
rises old new (inr most) = omega (arith, most.0, most.1)

-- where nothing was wrong before
tried_grows : {A : Type 0} (result : Result A Error) (writing : Writing) (bytes : List ℕ) (old new : SinkView) → Sends result writing bytes old new → old.faults ≤ new.faults
tried_grows (Ok done) writing bytes old new s = let same : new.faults ≡ old.faults = s.0.2 in omega (arith, same)
tried_grows (Err (Error.InputOutput IoKind.WriteFault)) writing bytes old new s = rises old.faults new.faults s.1.2
tried_grows (Err Error.Memory) writing bytes old new s = let same : new.faults ≡ old.faults = s.1.2 in omega (arith, same)
tried_grows (Err other) writing bytes old new s = absurd s

pub send_grows : {A H : Type 0} (view : H → SinkView) (old new : H) (unsupported : Bool) (cause : Option Error) (result : Result A Error) (writing : Writing) (bytes : List ℕ)
    → (unsupported ≡ true → (result ≡ Err Error.Unsupported) × (new ≡ old))
    → (unsupported ≡ false → IfSome cause (λ e. (result ≡ Err e) × (new ≡ old)))
    → (unsupported ≡ false → cause ≡ None → Sends result writing bytes (view old) (view new))
    → (view old).faults ≤ (view new).faults
send_grows view old new true cause result writing bytes refused over sends =
    let same : (view new).faults ≡ (view old).faults = ap (λ h. (view h).faults) (refused refl).1 in omega (arith, same)
send_grows view old new false (Some e) result writing bytes refused over sends =
    let same : (view new).faults ≡ (view old).faults = ap (λ h. (view h).faults) (over refl).1 in omega (arith, same)
send_grows view old new false None result writing bytes refused over sends = tried_grows result writing bytes (view old) (view new) (sends refl refl)

-- ---- the message that is due

taken_by : (fds : Option ℕ) (takes : Bool) → (fds ≡ None) ⊎ (takes ≡ true) → is_unsupported fds takes ≡ false
taken_by fds takes (inl none) = ap (λ o. is_unsupported o takes) none
taken_by fds takes (inr can) = ap (λ b. is_unsupported fds b) can ∙ and-false (has_descriptors fds)

taken_at : (takes : Bool) (ms : List MessageView) (n : ℕ) (m : MessageView) → slice_get ms n ≡ Some m → AreTaken takes ms → is_unsupported m.unix_fds takes ≡ false
taken_at takes [] n m there all = absurd (cc)
taken_at takes (x ∷ ms) zero m there all = let same : x ≡ m = cc in subst (λ (y : MessageView). is_unsupported y.unix_fds takes ≡ false) same (taken_by x.unix_fds takes all.0)
taken_at takes (x ∷ ms) (suc n) m there all = taken_at takes ms n m there all.1

get_behind : (xs ys : List MessageView) (n : ℕ) → slice_get (xs ++ ys) (length xs + n) ≡ slice_get ys n
get_behind [] ys n = ap (slice_get ys) (let e : 0 + n ≡ n = omega arith in e)
get_behind (x ∷ xs) ys n = ap (slice_get (x ∷ xs ++ ys)) (let e : suc (length xs) + n ≡ suc (length xs + n) = omega arith in e) ∙ get_behind xs ys n

-- It is the first that isn't done, and may be written to this sink.
pub record IsNext (q : Past) (m : MessageView) (takes : Bool) : Type 0 where
  pub fine : q.outbox.writer ≡ Writer.Fine
  pub unfailed : q.outbox.failed ≡ false
  pub there : slice_get q.outbox.put q.outbox.done ≡ Some m
  pub taken : is_unsupported m.unix_fds takes ≡ false

pub is_next : (t : Replay) (e : Entry) (q : Past) (m : MessageView) (takes : Bool) → IsDue t e q → IsUnfailed t.past.outbox → t.setting.takes_fds ≡ takes → AreTaken t.setting.takes_fds e.put → slice_get e.put e.written ≡ Some m → IsNext q m takes
is_next t e q m takes due calm same taken there = record {
  fine = due.fine;
  unfailed = due.failed ∙ calm due.first;
  there = ap (slice_get q.outbox.put) due.done ∙ ap (λ ms. slice_get ms (length t.past.outbox.put + e.written)) due.put ∙ get_behind t.past.outbox.put e.put e.written ∙ there;
  taken = taken_at takes e.put e.written m there (subst (λ b. AreTaken b e.put) same taken);
}

-- ---- it is written, or its write fails

pub flush_wrote : (A : Type 0) (start first now after_it : SinkView) (q : Past) (m : MessageView) (r : Result A Error) (before writing : Writing) (takes : Bool) → IsNext q m takes
    → true ≡ is_ok r → Sends r writing m.bytes now after_it
    → Flushed start first now q.outbox false before → Flushed start first after_it (after Wrote q).outbox false writing
flush_wrote A start first now after_it q m (Ok done) before writing takes is went s f = record {
  sinks = sinks_wrote start now after_it q.outbox m is.there is.unfailed s.0.0 s.0.1 f.sinks;
  faults = s.0.2 ∙ f.faults;
  fine = λ e. s.1;
}
flush_wrote A start first now after_it q m (Err error) before writing takes is went s f = absurd (cc)

pub flush_failed : (A : Type 0) (start first now after_it : SinkView) (q : Past) (m : MessageView) (r : Result A Error) (before writing : Writing) (takes : Bool) (n : ℕ) → IsNext q m takes → q.outbox.done + suc n ≤ length q.outbox.put
    → false ≡ is_ok r → r ≢ Err Error.Memory → Sends r writing m.bytes now after_it
    → Flushed start first now q.outbox false before → Flushed start first after_it (after_all (repeat (suc n) WriteFailed) q).outbox true writing
flush_failed A start first now after_it q m (Ok done) before writing takes n is within went never s f = absurd (cc)
flush_failed A start first now after_it q m (Err (Error.InputOutput IoKind.WriteFault)) before writing takes n is within went never s f =
    let p = after_all (repeat (suc n) WriteFailed) q in
    let left = faults_leave n (after WriteFailed q) in
    let more : p.outbox.done ≡ q.outbox.done + suc n = left.2 ∙ omega arith in
    let bad : (after WriteFailed q).outbox.writer ≢ Writer.Fine = λ x. let no : Writer.Failed ≡ Writer.Fine = ap (λ w. worse w Writer.Failed) (sym is.fine) ∙ x in absurd (cc) in
    record {
      sinks = sinks_failed start now after_it q.outbox p.outbox m s.0 is.there is.unfailed left.0 left.1 (left.3 refl) (omega (arith, more)) (omega (arith, more, within)) s.1.0 s.1.1 f.sinks;
      faults = subst (λ x. MayRise x after_it.faults) f.faults s.1.2;
      fine = λ e. absurd (left.4 bad e);
    }
flush_failed A start first now after_it q m (Err Error.Memory) before writing takes n is within went never s f = absurd (never refl)
flush_failed A start first now after_it q m (Err error) before writing takes n is within went never s f = absurd s

-- ---- an entry's messages

-- none is written yet
pub flushed_first : (start now : SinkView) (t : Replay) (pl : Plan) (e : Entry) (writing : Writing) → Does pl → IsActing t.past pl e → IsLater e → IsFine t.past.outbox.writer writing → Sinks start now t.past.outbox
    → Flushed start now now (past_after pl e t.past).outbox false writing
flushed_first start now t pl e writing does is later fine sinks =
    let b = begun_outbox t pl e does is later in
    record { sinks = subst (Sinks start now) (sym b.1) (sinks_put start now t.past.outbox e.put b.0 sinks); faults = refl; fine = λ x. fine (sym (ap (λ (o : Outbox). o.writer) b.1) ∙ x) }

module _ {A : Type 0} (start first now after_it : SinkView) (v : PeerStateView) (t : Replay) (e : Entry) (m : MessageView) (r : Result A Error) (before writing : Writing) (takes : Bool)
    (g : Going v t e) (none : NoneWaits t.past) (un : e.failed ≡ false) (less : e.written < length e.put) (same : t.setting.takes_fds ≡ takes) (calm : IsUnfailed t.past.outbox) (there : slice_get e.put e.written ≡ Some m)
    (sends : is_unsupported m.unix_fds takes ≡ false → before ≡ Fine → Sends r writing m.bytes now after_it)
    (f : Flushed start first now (past_after (plan t e.lane e.words) e t.past).outbox false before) where
  due : IsDue t e (past_after (plan t e.lane e.words) e t.past)
  due = is_due v t (plan t e.lane e.words) e (plan_does t e.lane e.words) g none un less

  next : IsNext (past_after (plan t e.lane e.words) e t.past) m takes
  next = is_next t e (past_after (plan t e.lane e.words) e t.past) m takes due calm same g.taken there

  -- one more was written
  pub flushed_more : true ≡ is_ok r → Flushed start first after_it (past_after (plan t e.lane e.words) (record e { written = e.written + 1 }) t.past).outbox false writing
  flushed_more went =
      subst (λ (x : Past). Flushed start first after_it x.outbox false writing) (sym (wrote_past v t (plan t e.lane e.words) e g un))
      (flush_wrote A start first now after_it (past_after (plan t e.lane e.words) e t.past) m r before writing takes next went (sends next.taken (f.fine next.fine)) f)

  -- one's write failed
  pub flushed_over : false ≡ is_ok r → r ≢ Err Error.Memory → Flushed start first after_it (past_after (plan t e.lane e.words) (record e { failed = true; answer = write_fault }) t.past).outbox true writing
  flushed_over went never =
      let q = past_after (plan t e.lane e.words) e t.past in
      let n = length e.put - e.written - 1 in
      let count : length e.put - e.written ≡ suc n = omega (arith, less) in
      let put : length q.outbox.put ≡ length t.past.outbox.put + length e.put = ap length due.put ∙ length-append t.past.outbox.put e.put in
      subst (λ (x : Past). Flushed start first after_it x.outbox true writing) (sym (failed_past v t (plan t e.lane e.words) e g un less ∙ ap (λ k. after_all (repeat k WriteFailed) q) count))
      (flush_failed A start first now after_it q m r before writing takes n next (omega (arith, due.done, put, less, count)) went never (sends next.taken (f.fine next.fine)) f)
