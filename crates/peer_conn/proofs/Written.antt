-- What writes leave of the outbox: so many messages of a command that goes on were written, one more is, or one's write fails.
use Rattle.std.proofs.{Common.{◌≡◌, ◌≢◌, if◌then◌else◌, ℕ, ◌+◌, ◌-◌, ◌≤◌, ◌<◌, ◌⊎◌, inl, inr, zero, suc, Option, refl, sym, ◌∙◌, ap, subst, arith, Bool, true, false, List, [], ◌∷◌, ◌++◌, length, Result, Ok, Err, append-nil, length-append}}
use Rattle.peer_conn.specs.{Names.{MessageView, Error, Writer, Answer, Entry}, Invariant.{PeerStateView}, Going.{GoingBy, IsActing, NoneWaits, MayWrite}}
use Rattle.std.specs.List.{AllByRecursion}
use Rattle.peer_core.specs.{History.{Past, Event, Wrote, WriteFailed, Did, after, after_all}, Asked.all_given, Refinement.{RouteView, Refines}, Issuing.{issued, puts}}
use Rattle.peer_calls.specs.{History.{Outbox, worse}, Issuing.{Posting, outgoings, messages_of}}
use Rattle.peer_route.specs.{Replay.Replay, Plan.{Plan, Says, Sends, Serves, Dispatches, call_answer, plan}, Entries.{IsMeant, IsQuiet, IsSending, IsPut, IsLater, IsAtOnce, Delivers, object_postings, object_events, gave_next, deeds, unless_refused, repeat, writes, writes_of, past_after, write_fault, is_refused}}
use Rattle.peer_route.proofs.{Plans.{AreDeeds, are_writes}, Kept.{kept_by, deeds_are, deed_outbox, quiet_past}, Given.given_along}
use Rattle.peer_conn.specs.Handles.{HasHandles}
use Rattle.peer_conn.proofs.Held.{KeepsHandles, held_stills}
use Rattle.peer_route.proofs.Kept as kept
use Rattle.peer_streams.specs.History.{Gave}
use Rattle.peer_route.proofs.Objects.{served_calm, served_or_quiet}
use Rattle.peer_conn.proofs.{Laid.{Does, plan_does, outbox_puts, writes_or}, Called.past_same, Wanted.{SendingBy, from_sends, to_called, from_called, to_served, from_served, served_same, served_past}}

-- ---- events, one after another

-- the same event once more
pub once_more : (n k : ℕ) (e : Event) (p : Past) → k ≡ n + 1 → after_all (repeat k e) p ≡ after e (after_all (repeat n e) p)
once_more zero zero e p is = absurd (omega (arith, is))
once_more zero (suc k) e p is = let none : k ≡ 0 = omega (arith, is) in ap (λ x. after_all (repeat x e) (after e p)) none
once_more (suc n) zero e p is = absurd (omega (arith, is))
once_more (suc n) (suc k) e p is = once_more n k e (after e p) (omega (arith, is))

after_append : (xs ys : List Event) (p : Past) → after_all (xs ++ ys) p ≡ after_all ys (after_all xs p)
after_append [] ys p = refl
after_append (x ∷ xs) ys p = after_append xs ys (after x p)

-- so many were written, and all others failed
pub cut_short : (written count left : ℕ) (p : Past) → left ≡ count - written → after_all (writes_of written true count) p ≡ after_all (repeat left WriteFailed) (after_all (repeat written Wrote) p)
cut_short written count left p is = after_append (repeat written Wrote) (repeat (count - written) WriteFailed) p ∙ ap (λ n. after_all (repeat n WriteFailed) (after_all (repeat written Wrote) p)) (sym is)

-- or none failed
pub unfailed : (written count : ℕ) (failed : Bool) (p : Past) → failed ≡ false → after_all (writes_of written failed count) p ≡ after_all (repeat written Wrote) p
unfailed written count failed p e = ap (λ b. after_all (writes_of written b count) p) e ∙ ap (λ es. after_all es p) (append-nil (repeat written Wrote))

pub wrote_leaves : (n : ℕ) (p : Past) → let o = (after_all (repeat n Wrote) p).outbox in (o.put ≡ p.outbox.put) × (o.done ≡ p.outbox.done + n) × (o.writer ≡ p.outbox.writer) × (o.failed ≡ p.outbox.failed)
wrote_leaves zero p = (refl, omega arith, refl, refl)
wrote_leaves (suc n) p = let more = wrote_leaves n (after Wrote p) in (more.0, more.1 ∙ omega arith, more.2, more.3)

worse_not : (met cause : Writer) → met ≢ Writer.Fine → worse met cause ≢ Writer.Fine
worse_not Writer.Fine cause bad = absurd (bad refl)
worse_not Writer.Failed cause bad = bad
worse_not Writer.Closed cause bad = bad

pub faults_leave : (n : ℕ) (q : Past) → let o = (after_all (repeat n WriteFailed) q).outbox in
    (o.put ≡ q.outbox.put) × (o.written ≡ q.outbox.written) × (o.done ≡ q.outbox.done + n) × (q.outbox.failed ≡ true → o.failed ≡ true) × (q.outbox.writer ≢ Writer.Fine → o.writer ≢ Writer.Fine)
faults_leave zero q = (refl, refl, omega arith, (λ fails. fails), λ bad. bad)
faults_leave (suc n) q =
    let more = faults_leave n (after WriteFailed q) in
    (more.0, more.1, more.2 ∙ omega arith, (λ fails. more.3 refl), λ bad. more.4 (worse_not q.outbox.writer Writer.Failed bad))

-- they leave the messages as they were, and each is done that was written or failed
writes_leave : (n count : ℕ) (failed : Bool) (p : Past) → n ≤ count → let o = (after_all (writes_of n failed count) p).outbox in (o.put ≡ p.outbox.put) × (o.done ≡ p.outbox.done + (if failed then count else n))
writes_leave n count true p most =
    let cut = cut_short n count (count - n) p refl in
    let w = wrote_leaves n p in
    let f = faults_leave (count - n) (after_all (repeat n Wrote) p) in
    (ap (λ (x : Past). x.outbox.put) cut ∙ f.0 ∙ w.0, ap (λ (x : Past). x.outbox.done) cut ∙ f.2 ∙ ap (λ k. k + (count - n)) w.1 ∙ omega (arith, most))
writes_leave n count false p most =
    let calm = unfailed n count false p refl in
    let w = wrote_leaves n p in
    (ap (λ (x : Past). x.outbox.put) calm ∙ w.0, ap (λ (x : Past). x.outbox.done) calm ∙ w.1)

-- a write that fails closes no stream that is open
fails_keep : (n : ℕ) → AllByRecursion KeepsHandles (repeat n WriteFailed)
fails_keep zero = tt
fails_keep (suc n) = (tt, fails_keep n)

-- no stream gives anything by them
given_writes : (e : Entry) (q : Past) → all_given (after_all (writes e) q) ≡ all_given q
given_writes e q = kept_by all_given (writes e) q (are_writes (kept.Keeps all_given) e (λ h. refl) (λ h. given_along WriteFailed h tt))

-- ---- the message that is due

-- The past in which the next message of an entry is due: it is the first that waits, the writer is fine.
pub record IsDue (t : Replay) (e : Entry) (q : Past) : Type 0 where
  pub put : q.outbox.put ≡ t.past.outbox.put ++ e.put
  pub done : q.outbox.done ≡ length t.past.outbox.put + e.written
  pub fine : q.outbox.writer ≡ Writer.Fine
  pub failed : q.outbox.failed ≡ t.past.outbox.failed
  pub first : t.past.outbox.writer ≡ Writer.Fine

-- the messages stand behind those that were put before
put_base : (h : Past) (done : List Event) (ds : List Posting) (serials : List ℕ) (ms : List MessageView) → AreDeeds done → ms ≡ messages_of (outgoings ds) serials
    → (last : ℕ) × ((after_all (puts ds ms) (after_all done h)).outbox ≡ record h.outbox { put = h.outbox.put ++ ms; last = last })
put_base h done ds serials ms are is =
    let same : (after_all done h).outbox ≡ h.outbox = kept_by (λ h. h.outbox) done h (deeds_are (kept.Keeps (λ h. h.outbox)) deed_outbox done are) in
    let behind = outbox_puts ds serials (after_all done h) in (
      behind.0,
      ap (λ xs. (after_all (puts ds xs) (after_all done h)).outbox) is ∙ behind.1 ∙ ap (λ (o : Outbox). record o { put = o.put ++ messages_of (outgoings ds) serials; last = behind.0 }) same
          ∙ ap (λ xs. record h.outbox { put = h.outbox.put ++ xs; last = behind.0 }) (sym is),
    )

some_put : (h : Past) (ds : List Posting) (sent : List ℕ → Answer) (e : Entry) (r : Result (List ℕ) Error) → issued h ds ≡ r → IsSending r ds sent e → 0 < length e.put
    → (serials : List ℕ) × (issued h ds ≡ Ok serials) × IsPut (messages_of (outgoings ds) serials) (sent serials) e
some_put h ds sent e (Err error) at is some = let none : length e.put ≡ 0 = ap length is.1.put in absurd (omega (arith, some, none))
some_put h ds sent e (Ok serials) at is some = (serials, at, is)

fine_by : (ms : List MessageView) (w : Writer) → 0 < length ms → (ms ≡ []) ⊎ (w ≡ Writer.Fine) → w ≡ Writer.Fine
fine_by ms w some (inl none) = let no : length ms ≡ 0 = ap length none in absurd (omega (arith, some, no))
fine_by ms w some (inr fine) = fine

due_sends : (t : Replay) (done : List Event) (ds : List Posting) (sent : List ℕ → Answer) (e : Entry) → AreDeeds done → IsMeant t.past (Sends done ds sent) e → NoneWaits t.past → e.failed ≡ false → e.written < length e.put → IsDue t e (past_after (Sends done ds sent) e t.past)
due_sends t done ds sent e does is none un less =
    let h = after_all done t.past in
    let q = after_all (puts ds e.put) h in
    let has = some_put h ds sent e (issued h ds) refl is.1 (omega (arith, less)) in
    let ms = messages_of (outgoings ds) has.0 in
    let same : h.outbox ≡ t.past.outbox = kept_by (λ h. h.outbox) done t.past (deeds_are (kept.Keeps (λ h. h.outbox)) deed_outbox done does) in
    let based = put_base t.past done ds has.0 e.put does has.2.put in
    let base : q.outbox ≡ record t.past.outbox { put = t.past.outbox.put ++ e.put; last = based.0 } = based.1 in
    let calm = unfailed e.written (length e.put) e.failed q un in
    let w = wrote_leaves e.written q in
    let fine : t.past.outbox.writer ≡ Writer.Fine =
    ap (λ (o : Outbox). o.writer) (sym same) ∙ fine_by ms h.outbox.writer (subst (λ xs. 0 < length xs) has.2.put (omega (arith, less))) (writes_or h ds has.0 h.outbox.writer refl has.1) in
    record {
      put = ap (λ (x : Past). x.outbox.put) calm ∙ w.0 ∙ ap (λ (o : Outbox). o.put) base;
      done = ap (λ (x : Past). x.outbox.done) calm ∙ w.1 ∙ ap (λ (o : Outbox). o.done + e.written) base ∙ ap (λ n. n + e.written) none;
      fine = ap (λ (x : Past). x.outbox.writer) calm ∙ w.2 ∙ ap (λ (o : Outbox). o.writer) base ∙ fine;
      failed = ap (λ (x : Past). x.outbox.failed) calm ∙ w.3 ∙ ap (λ (o : Outbox). o.failed) base;
      first = fine;
    }

pub is_due : (v : PeerStateView) (t : Replay) (pl : Plan) (e : Entry) → Does pl → GoingBy v t pl e → NoneWaits t.past → e.failed ≡ false → e.written < length e.put → IsDue t e (past_after pl e t.past)
is_due v t (Says answer done) e does g none un less = let no : length e.put ≡ 0 = ap length g.acting.2.put in absurd (omega (arith, less, no))
is_due v t (Serves said done) e does g none un less =
    let some : 0 < length e.put = omega (arith, less) in
    let s = to_served v t said done e g some in
    let is = g.acting.1 in
    subst (IsDue t e) (sym (served_past t.past said done e is (served_calm t.past said done e is some).1)) (due_sends t done (object_postings false t.past.name is.messages) (λ serials. is.answer) e does s.meant none un less)
is_due v t (Sends done ds sent) e does g none un less = due_sends t done ds sent e does g.acting none un less
is_due v t (Dispatches k m) e does g none un less =
    let s = to_called v t k m e g in
    subst (IsDue t e) (sym (past_same t.past k m e g.acting.1)) (due_sends t (Did k Gave ∷ []) (object_postings true t.past.name g.acting.1.0) (λ serials. call_answer m) e (tt, tt) s.meant none un less)
is_due v t pl e does g none un less = absurd g.acting

-- it is there, and may be written
pub may_write : (v : PeerStateView) (e : Entry) → MayWrite v e → (v.core.done < length v.core.outbox) × (v.core.writer ≡ Writer.Fine)
may_write v e (un, less, (t, g, none)) =
    let due = is_due v t (plan t e.lane e.words) e (plan_does t e.lane e.words) g none un less in
    let left = g.keeps.left in
    let long : length v.core.outbox ≡ length t.past.outbox.put + length e.put = ap length (left.outbox ∙ due.put) ∙ length-append t.past.outbox.put e.put in
    let at : v.core.done ≡ length t.past.outbox.put + e.written = left.done ∙ due.done in
    (omega (arith, long, at, less), left.writer ∙ due.fine)

-- ---- it is written, or its write fails

-- one more is written
wrote_more : (e : Entry) (q : Past) → e.failed ≡ false → after_all (writes (record e { written = e.written + 1 })) q ≡ after Wrote (after_all (writes e) q)
wrote_more e q un =
    unfailed (e.written + 1) (length e.put) e.failed q un ∙ once_more e.written (e.written + 1) Wrote q refl ∙ ap (after Wrote) (sym (unfailed e.written (length e.put) e.failed q un))

-- the past once it was written
pub wrote_past : (v : PeerStateView) (t : Replay) (pl : Plan) (e : Entry) → GoingBy v t pl e → e.failed ≡ false → past_after pl (record e { written = e.written + 1 }) t.past ≡ after Wrote (past_after pl e t.past)
wrote_past v t (Says answer done) e g un = wrote_more e (after_all (puts [] e.put) (after_all done t.past)) un
wrote_past v t (Serves said done) e g un = wrote_more e (after_all (object_events e.put) (after_all (deeds (Serves said done) e) t.past)) un
wrote_past v t (Sends done ds sent) e g un = wrote_more e (after_all (puts ds e.put) (after_all done t.past)) un
wrote_past v t (Dispatches k m) e g un = wrote_more e (after_all (object_events e.put) (gave_next k t.past)) un
wrote_past v t pl e g un = absurd g.acting

wrote_sends : (v : PeerStateView) (h : Past) (done : List Event) (ds : List Posting) (sent : List ℕ → Answer) (e : Entry) (core : RouteView) → SendingBy v h done ds sent e → NoneWaits h → e.failed ≡ false → e.written < length e.put
    → Refines core (after Wrote (past_after (Sends done ds sent) e h)) → SendingBy (record v { core = core }) h done ds sent (record e { written = e.written + 1 })
wrote_sends v h done ds sent e core s none un less left =
    let g = after_all done h in
    let q = after_all (puts ds e.put) g in
    let x : Entry = record e { written = e.written + 1 } in
    let has = some_put g ds sent e (issued g ds) refl s.meant.1 (omega (arith, less)) in
    let long : length e.put ≡ length (messages_of (outgoings ds) has.0) = ap length has.2.put in
    let behind : past_after (Sends done ds sent) x h ≡ after Wrote (past_after (Sends done ds sent) e h) = wrote_more e q un in
    record {
      meant = (
        s.meant.0,
        subst (λ r. IsSending r ds sent x) (sym has.1) (record { put = has.2.put; answer = has.2.answer; written = omega (arith, less, long); cut = λ fails. let no : true ≡ false = sym fails ∙ un in absurd (cc) }),
        inr none,
      );
      keeps = record { left = subst (Refines core) (sym behind) left; held = subst (λ p. HasHandles p v.handles) (sym behind) s.keeps.held; given = s.keeps.given ∙ given_writes e q ∙ sym (given_writes x q) };
    }

pub going_wrote : (v : PeerStateView) (t : Replay) (pl : Plan) (e : Entry) (core : RouteView) → GoingBy v t pl e → NoneWaits t.past → e.failed ≡ false → e.written < length e.put → Refines core (after Wrote (past_after pl e t.past))
    → GoingBy (record v { core = core }) t pl (record e { written = e.written + 1 })
going_wrote v t (Says answer done) e core g none un less left = let no : length e.put ≡ 0 = ap length g.acting.2.put in absurd (omega (arith, less, no))
going_wrote v t (Serves said done) e core g none un less left =
    let some : 0 < length e.put = omega (arith, less) in
    let is = g.acting.1 in
    let calm = (served_calm t.past said done e is some).1 in
    from_served v core t said done e (e.written + 1) e.failed e.answer g some calm
    (wrote_sends v t.past done (object_postings false t.past.name is.messages) (λ serials. is.answer) e core (to_served v t said done e g some) none un less (subst (λ p. Refines core (after Wrote p)) (served_past t.past said done e is calm) left))
going_wrote v t (Sends done ds sent) e core g none un less left =
    from_sends v core t done ds sent e (e.written + 1) e.failed e.answer g (wrote_sends v t.past done ds sent e core (record { meant = g.acting; keeps = g.keeps }) none un less left)
going_wrote v t (Dispatches k m) e core g none un less left =
    let is = g.acting.1 in
    from_called v core t k m e (e.written + 1) e.failed e.answer g
    (wrote_sends v t.past (Did k Gave ∷ []) (object_postings true t.past.name is.0) (λ serials. call_answer m) e core (to_called v t k m e g) none un less (subst (λ p. Refines core (after Wrote p)) (past_same t.past k m e is) left))
going_wrote v t pl e core g none un less left = absurd g.acting

-- its write fails, and so do those of the messages behind it
failed_more : (e : Entry) (q : Past) → e.failed ≡ false → after_all (writes (record e { failed = true; answer = write_fault })) q ≡ after_all (repeat (length e.put - e.written) WriteFailed) (after_all (writes e) q)
failed_more e q un =
    cut_short e.written (length e.put) (length e.put - e.written) q refl ∙ ap (after_all (repeat (length e.put - e.written) WriteFailed)) (sym (unfailed e.written (length e.put) e.failed q un))

-- the past once its write failed
pub failed_past : (v : PeerStateView) (t : Replay) (pl : Plan) (e : Entry) → GoingBy v t pl e → e.failed ≡ false → e.written < length e.put
    → past_after pl (record e { failed = true; answer = write_fault }) t.past ≡ after_all (repeat (length e.put - e.written) WriteFailed) (past_after pl e t.past)
failed_past v t (Says answer done) e g un less = let no : length e.put ≡ 0 = ap length g.acting.2.put in absurd (omega (arith, less, no))
failed_past v t (Serves said done) e g un less =
    let calm = (served_calm t.past said done e g.acting.1 (omega (arith, less))).1 in
    failed_more e (after_all (object_events e.put) (after_all done t.past)) un
    ∙ ap (λ b. after_all (repeat (length e.put - e.written) WriteFailed) (after_all (writes e) (after_all (object_events e.put) (after_all (if b then [] else done) t.past)))) (sym calm)
failed_past v t (Sends done ds sent) e g un less = failed_more e (after_all (puts ds e.put) (after_all done t.past)) un
failed_past v t (Dispatches k m) e g un less = failed_more e (after_all (object_events e.put) (gave_next k t.past)) un
failed_past v t pl e g un less = absurd g.acting

failed_sends : (v : PeerStateView) (t : Replay) (done : List Event) (ds : List Posting) (sent : List ℕ → Answer) (e : Entry) (core : RouteView) → AreDeeds done → SendingBy v t.past done ds sent e → NoneWaits t.past → e.failed ≡ false → e.written < length e.put
    → Refines core (after_all (repeat (length v.core.outbox - v.core.done) WriteFailed) (past_after (Sends done ds sent) e t.past))
    → SendingBy (record v { core = core }) t.past done ds sent (record e { failed = true; answer = write_fault })
failed_sends v t done ds sent e core does s none un less left =
    let h = after_all done t.past in
    let q = after_all (puts ds e.put) h in
    let x : Entry = record e { failed = true; answer = write_fault } in
    let has = some_put h ds sent e (issued h ds) refl s.meant.1 (omega (arith, less)) in
    let long : length e.put ≡ length (messages_of (outgoings ds) has.0) = ap length has.2.put in
    let due = due_sends t done ds sent e does s.meant none un less in
    let put : length v.core.outbox ≡ length t.past.outbox.put + length e.put = ap length (s.keeps.left.outbox ∙ due.put) ∙ length-append t.past.outbox.put e.put in
    let at : v.core.done ≡ length t.past.outbox.put + e.written = s.keeps.left.done ∙ due.done in
    let count = length v.core.outbox - v.core.done in
    let all : count ≡ length e.put - e.written = omega (arith, put, at, less) in
    let behind : past_after (Sends done ds sent) x t.past ≡ after_all (repeat count WriteFailed) (past_after (Sends done ds sent) e t.past) =
    failed_more e q un ∙ ap (λ n. after_all (repeat n WriteFailed) (past_after (Sends done ds sent) e t.past)) (sym all) in
    record {
      meant = (
        s.meant.0,
        subst (λ r. IsSending r ds sent x) (sym has.1) (record { put = has.2.put; answer = refl; written = omega (arith, less, long); cut = λ fails. omega (arith, less, long) }),
        inr none,
      );
      keeps = record { left = subst (Refines core) (sym behind) left; held = subst (λ p. HasHandles p v.handles) (sym behind) (held_stills (repeat count WriteFailed) (past_after (Sends done ds sent) e t.past) v.handles (fails_keep count) s.keeps.held); given = s.keeps.given ∙ given_writes e q ∙ sym (given_writes x q) };
    }

pub going_failed : (v : PeerStateView) (t : Replay) (pl : Plan) (e : Entry) (core : RouteView) → Does pl → GoingBy v t pl e → NoneWaits t.past → e.failed ≡ false → e.written < length e.put
    → Refines core (after_all (repeat (length v.core.outbox - v.core.done) WriteFailed) (past_after pl e t.past))
    → GoingBy (record v { core = core }) t pl (record e { failed = true; answer = write_fault })
going_failed v t (Says answer done) e core does g none un less left = let no : length e.put ≡ 0 = ap length g.acting.2.put in absurd (omega (arith, less, no))
going_failed v t (Serves said done) e core does g none un less left =
    let some : 0 < length e.put = omega (arith, less) in
    let is = g.acting.1 in
    from_served v core t said done e e.written true write_fault g some refl
    (failed_sends v t done (object_postings false t.past.name is.messages) (λ serials. is.answer) e core does (to_served v t said done e g some) none un less
    (subst (λ p. Refines core (after_all (repeat (length v.core.outbox - v.core.done) WriteFailed) p)) (served_past t.past said done e is (served_calm t.past said done e is some).1) left))
going_failed v t (Sends done ds sent) e core does g none un less left =
    from_sends v core t done ds sent e e.written true write_fault g (failed_sends v t done ds sent e core does (record { meant = g.acting; keeps = g.keeps }) none un less left)
going_failed v t (Dispatches k m) e core does g none un less left =
    let is = g.acting.1 in
    from_called v core t k m e e.written true write_fault g
    (failed_sends v t (Did k Gave ∷ []) (object_postings true t.past.name is.0) (λ serials. call_answer m) e core (tt, tt) (to_called v t k m e g) none un less
    (subst (λ p. Refines core (after_all (repeat (length v.core.outbox - v.core.done) WriteFailed) p)) (past_same t.past k m e is) left))
going_failed v t pl e core does g none un less left = absurd g.acting

-- ---- before the first is written, and behind the last

calm_outbox : (h : Past) (done : List Event) → AreDeeds done → (after_all done h).outbox ≡ h.outbox
calm_outbox h done are = kept_by (λ h. h.outbox) done h (deeds_are (kept.Keeps (λ h. h.outbox)) deed_outbox done are)

-- what a command on objects does, unless it is refused, is deeds
served_deeds : (said : Option Answer) (done : List Event) (e : Entry) → AreDeeds done → AreDeeds (deeds (Serves said done) e)
served_deeds said done e are = by (is_refused e.answer)
  where
    by : (refused : Bool) → AreDeeds (if refused then [] else done)
    by true = tt
    by false = are

quiet_outbox : (h : Past) (pl : Plan) (e : Entry) (done : List Event) → AreDeeds done → deeds pl e ≡ done → IsQuiet e → (last : ℕ) × ((past_after pl e h).outbox ≡ record h.outbox { put = h.outbox.put ++ e.put; last = last })
quiet_outbox h pl e done are is quiet = (
  h.outbox.last,
  ap (λ (x : Past). x.outbox) (quiet_past pl e h quiet ∙ ap (λ es. after_all es h) is) ∙ calm_outbox h done are ∙ ap (λ ms. record h.outbox { put = ms }) (sym (append-nil h.outbox.put) ∙ ap (λ ms. h.outbox.put ++ ms) (sym quiet.put)),
)

quiet_written : (h : Past) (pl : Plan) (e : Entry) (done : List Event) → AreDeeds done → deeds pl e ≡ done → IsQuiet e → NoneWaits h → NoneWaits (past_after pl e h)
quiet_written h pl e done are is quiet none =
    subst NoneWaits (sym (quiet_past pl e h quiet ∙ ap (λ es. after_all es h) is)) (subst (λ (o : Outbox). o.done ≡ length o.put) (sym (calm_outbox h done are)) none)

begun_sends : (t : Replay) (done : List Event) (ds : List Posting) (sent : List ℕ → Answer) (e : Entry) → AreDeeds done → IsMeant t.past (Sends done ds sent) e → IsLater e
    → (last : ℕ) × ((past_after (Sends done ds sent) e t.past).outbox ≡ record t.past.outbox { put = t.past.outbox.put ++ e.put; last = last })
begun_sends t done ds sent e does is later = by (issued (after_all done t.past) ds) is.1
  where
    by : (r : Result (List ℕ) Error) → IsSending r ds sent e → (last : ℕ) × ((past_after (Sends done ds sent) e t.past).outbox ≡ record t.past.outbox { put = t.past.outbox.put ++ e.put; last = last })
    by (Err error) sends = quiet_outbox t.past (Sends done ds sent) e done does refl sends.1
    by (Ok serials) sends =
        let q = after_all (puts ds e.put) (after_all done t.past) in
        let base = put_base t.past done ds serials e.put does sends.put in
        (base.0, ap (λ (x : Past). x.outbox) (unfailed e.written (length e.put) e.failed q later.1 ∙ ap (λ n. after_all (repeat n Wrote) q) later.0) ∙ base.1)

-- where nothing is written yet, the messages stand behind those that were put before
pub begun_outbox : (t : Replay) (pl : Plan) (e : Entry) → Does pl → IsActing t.past pl e → IsLater e → (last : ℕ) × ((past_after pl e t.past).outbox ≡ record t.past.outbox { put = t.past.outbox.put ++ e.put; last = last })
begun_outbox t (Says answer done) e does is later = quiet_outbox t.past (Says answer done) e done does refl is.2
begun_outbox t (Serves said done) e does is later = by (served_or_quiet t.past said done e is.1)
  where
    by : IsQuiet e ⊎ Delivers false t.past (unless_refused e.answer done) is.1.messages is.1.answer e
        → (last : ℕ) × ((past_after (Serves said done) e t.past).outbox ≡ record t.past.outbox { put = t.past.outbox.put ++ e.put; last = last })
    by (inl quiet) = quiet_outbox t.past (Serves said done) e (deeds (Serves said done) e) (served_deeds said done e does) refl quiet
    by (inr sends) =
        let one = begun_sends t (unless_refused e.answer done) (object_postings false t.past.name is.1.messages) (λ serials. is.1.answer) e (served_deeds said done e does) (is.0, sends, is.2) later in
        (one.0, ap (λ (x : Past). x.outbox) (served_same t.past said done e is.1) ∙ one.1)
begun_outbox t (Sends done ds sent) e does is later = begun_sends t done ds sent e does is later
begun_outbox t (Dispatches k m) e does is later =
    let one = begun_sends t (Did k Gave ∷ []) (object_postings true t.past.name is.1.0) (λ serials. call_answer m) e (tt, tt) (is.0, is.1.2, is.2) later in
    (one.0, ap (λ (x : Past). x.outbox) (past_same t.past k m e is.1) ∙ one.1)
begun_outbox t pl e does is later = absurd is

whole_count : (failed : Bool) (n count : ℕ) → (failed ≡ false → n ≡ count) → (if failed then count else n) ≡ count
whole_count true n count all = refl
whole_count false n count all = all refl

written_sends : (h : Past) (done : List Event) (ds : List Posting) (sent : List ℕ → Answer) (e : Entry) → AreDeeds done → IsMeant h (Sends done ds sent) e → IsAtOnce e → NoneWaits h → NoneWaits (past_after (Sends done ds sent) e h)
written_sends h done ds sent e does is once none = by (issued (after_all done h) ds) is.1
  where
    by : (r : Result (List ℕ) Error) → IsSending r ds sent e → NoneWaits (past_after (Sends done ds sent) e h)
    by (Err error) sends = quiet_written h (Sends done ds sent) e done does refl sends.1 none
    by (Ok serials) sends =
        let q = after_all (puts ds e.put) (after_all done h) in
        let base = (put_base h done ds serials e.put does sends.put).1 in
        let w = writes_leave e.written (length e.put) e.failed q (subst (λ xs. e.written ≤ length xs) (sym sends.put) sends.written) in
        let count : (if e.failed then length e.put else e.written) ≡ length e.put = whole_count e.failed e.written (length e.put) once in
        let done_is = w.1 ∙ ap (λ (o : Outbox). o.done + (if e.failed then length e.put else e.written)) base ∙ ap (λ n. n + (if e.failed then length e.put else e.written)) none in
        let put_is = ap length (w.0 ∙ ap (λ (o : Outbox). o.put) base) ∙ length-append h.outbox.put e.put in
        omega (arith, done_is, put_is, count)

-- where all are written, or none goes out any more, none waits
pub all_written : (h : Past) (pl : Plan) (e : Entry) → Does pl → IsActing h pl e → IsAtOnce e → NoneWaits h → NoneWaits (past_after pl e h)
all_written h (Says answer done) e does is once none = quiet_written h (Says answer done) e done does refl is.2 none
all_written h (Serves said done) e does is once none = by (served_or_quiet h said done e is.1)
  where
    by : IsQuiet e ⊎ Delivers false h (unless_refused e.answer done) is.1.messages is.1.answer e → NoneWaits (past_after (Serves said done) e h)
    by (inl quiet) = quiet_written h (Serves said done) e (deeds (Serves said done) e) (served_deeds said done e does) refl quiet none
    by (inr sends) =
        subst NoneWaits (sym (served_same h said done e is.1))
        (written_sends h (unless_refused e.answer done) (object_postings false h.name is.1.messages) (λ serials. is.1.answer) e (served_deeds said done e does) (is.0, sends, is.2) once none)
all_written h (Sends done ds sent) e does is once none = written_sends h done ds sent e does is once none
all_written h (Dispatches k m) e does is once none =
    subst NoneWaits (sym (past_same h k m e is.1)) (written_sends h (Did k Gave ∷ []) (object_postings true h.name is.1.0) (λ serials. call_answer m) e (tt, tt) (is.0, is.1.2, is.2) once none)
all_written h pl e does is once none = absurd is
