-- What was put is what the entries put, what was written is what they wrote; and what answers tell of it.
use Rattle.peer_calls.specs.Issuing.{issued as calls_issued}
use Rattle.std.proofs.{Common.{◌≡◌, ◌≢◌, ℕ, zero, suc, ◌+◌, ◌-◌, ◌<◌, ◌≤◌, arith, refl, sym, ◌∙◌, ap, subst, ◌||◌, Bool, true, false, if◌then◌else◌, List, [], ◌∷◌, ◌++◌, length, take, append_assoc, length-append, inl, inr, map, option_map, option_and_then, Option, Some, None, Result, Ok, Err, ◌⊎◌}, lemmas.List.append-nil, Math.Seq.{take-length, take-append-add}, Math.Bool.{or-true, or-false}}
use Rattle.std.specs.List.{AllByRecursion}
use Rattle.peer_calls.proofs.Refusing.{are_deep, limit_refusal, or_barred, issued_by}
use Rattle.peer_route.proofs.{Plans.{are_writes, repeat_all, IsFair, fair, AreFrom, are_deeds, legal_from, is_live}, Kept.{every, every_entry, at_start, Keeps, kept_by, put_events_are, none_put_events, deeds_all, deed_outbox, deeds_are, of_run, later, quiet_past}, Objects.{unwanted, refused_so, delivered_events}, Writers.{fine_unfailed, writer_keeps, shut_writer, writer_stays}}
use Rattle.peer_route.specs.{Names.{MessageView, MessageType, Error, Entry, Words, Answer, Writer, VariantError}, Replay.{Setting, Replay}, Plan.{Closes, plan, Plan, Says, Sends, Reads, Serves, Dispatches, Writes, Never, call_answer}, Entries.{IsMeant, IsEntry, IsQuiet, IsAtOnce, Legal, replay, more, repeat, writes, deeds, object_postings, IsDispatched, IsServed, unless_refused, gave_next, put_events, past_after, IsSending, write_fault, IsPut}, StreamLaws.{IsPutOf, all_put, all_written, is_serving}}
use Rattle.wire_message.specs.{Outgoing.{message_of, OutgoingMessageView, sent_by, sender_of}, BuilderView.built}
use Rattle.peer_core.specs.{History.{Event, PeerClosed, Put, Wrote, WriteFailed, Past, after, after_all}, Issuing.puts}
use Rattle.peer_calls.specs.{History.{Purpose, Outbox}, Issuing.{Posting, outgoings, messages_of}}
use Rattle.peer_core.specs.Issuing.{put_of, drawn, next_serial, issued, refusal}
use Rattle.peer_words.specs.OfRun.{IsOfRun}

-- ---- an entry's messages

-- messages were issued and put, for which the entry's events are these
pub record HasPut (h : Past) (pl : Plan) (e : Entry) : Type 0 where
  pub ds : List Posting
  pub serials : List ℕ
  pub success : Answer
  pub drew : issued (after_all (deeds pl e) h) ds ≡ Ok serials
  pub is : IsPut (messages_of (outgoings ds) serials) success e
  pub events : put_events pl e ≡ puts ds e.put

dispatched_or : (h : Past) (k : ℕ) (m : MessageView) (e : Entry) → IsDispatched (gave_next k h) m e → IsQuiet e ⊎ HasPut h (Dispatches k m) e
dispatched_or h k m e is = by_result (issued g ds) refl is.2
  where
    g : Past
    g = gave_next k h

    ds : List Posting
    ds = object_postings true g.name is.0

    by_result : (r : Result (List ℕ) Error) → issued g ds ≡ r → IsSending r ds (λ serials. call_answer m) e → IsQuiet e ⊎ HasPut h (Dispatches k m) e
    by_result (Err error) at none = inl none.1
    by_result (Ok serials) at put = inr (record {
      ds = ds;
      serials = serials;
      success = call_answer m;
      drew = at;
      is = put;
      events = delivered_events true g [] is.0 (call_answer m) e is.1 is.2;
    })

served_or : (h : Past) (said : Option Answer) (done : List Event) (e : Entry) → IsServed h said done e → IsQuiet e ⊎ HasPut h (Serves said done) e
served_or h said done e is = by_result (issued g ds) refl is.delivers
  where
    g : Past
    g = after_all (unless_refused is.answer done) h

    ds : List Posting
    ds = object_postings false h.name is.messages

    by_result : (r : Result (List ℕ) Error) → issued g ds ≡ r → IsSending r ds (λ serials. is.answer) e → IsQuiet e ⊎ HasPut h (Serves said done) e
    by_result (Err error) at none = inl none.1
    by_result (Ok serials) at put = inr (record {
      ds = ds;
      serials = serials;
      success = is.answer;
      drew = subst (λ b. issued (after_all (if b then [] else done) h) ds ≡ Ok serials) (sym (refused_so h said done e is serials put)) at;
      is = put;
      events = delivered_events false h (unless_refused is.answer done) is.messages is.answer e is.unawaited is.delivers;
    })

pub quiet_or : (h : Past) (pl : Plan) (e : Entry) → IsMeant h pl e → IsQuiet e ⊎ HasPut h pl e
quiet_or h (Says answer done) e is = inl is.2
quiet_or h (Sends done ds sent) e is = by_result (issued (after_all done h) ds) refl is.1
  where
    by_result : (r : Result (List ℕ) Error) → issued (after_all done h) ds ≡ r → IsSending r ds sent e → IsQuiet e ⊎ HasPut h (Sends done ds sent) e
    by_result (Ok serials) at put = inr (record { ds = ds; serials = serials; success = sent serials; drew = at; is = put; events = refl })
    by_result (Err error) at none = inl none.1
quiet_or h Reads e is = inl is.1
quiet_or h (Serves said done) e is = served_or h said done e is.1
quiet_or h (Dispatches k m) e is = dispatched_or h k m e is.1
quiet_or h Closes e is = inl is.2
quiet_or h (Writes fails) e is = inl is.2
quiet_or h Never e is = absurd is

pub puts_of : (h : Past) (pl : Plan) (e : Entry) → IsQuiet e ⊎ HasPut h pl e → (ds : List Posting) × (serials : List ℕ) × (e.put ≡ messages_of (outgoings ds) serials) × (put_events pl e ≡ puts ds e.put)
puts_of h pl e (inl quiet) = ([], [], quiet.put, none_put_events pl e quiet.put)
puts_of h pl e (inr has) = (has.ds, has.serials, has.is.put, has.events)

-- no more is written than was put, and less where a write failed
pub within : (h : Past) (pl : Plan) (e : Entry) → IsQuiet e ⊎ HasPut h pl e → (e.written ≤ length e.put) × (e.failed ≡ true → e.written < length e.put)
within h pl e (inl quiet) = let none = quiet.written in let fine = quiet.failed in (omega (arith, none), λ failed. cc)
within h pl e (inr has) = let is = has.is in (subst (λ ms. e.written ≤ length ms) (sym is.put) is.written, λ failed. subst (λ ms. e.written < length ms) (sym is.put) (is.cut failed))

-- ---- what refuses messages

deep_or : (deep : Bool) (ds : List Posting) (serials : Option (List ℕ)) → (if deep then Some (Error.Variant VariantError.Depth) else limit_refusal ds serials) ≡ None → (ss : List ℕ) × (serials ≡ Some ss)
deep_or true ds serials e = cc
deep_or false ds None e = cc
deep_or false ds (Some serials) e = (serials, refl)

-- where nothing refuses messages, and the peer writes, they are put with the serials that they draw
pub put_where : (h : Past) (ds : List Posting) → refusal h ds ≡ None → h.outbox.writer ≡ Writer.Fine → (serials : List ℕ) × (drawn h ds ≡ Some serials) × (issued h ds ≡ Ok serials)
unfolding calls_issued
put_where h [] free fine = ([], refl, refl)
put_where h (d ∷ ds) free fine =
    let draws = deep_or (are_deep (d ∷ ds)) (d ∷ ds) (drawn h (d ∷ ds)) free in (draws.0, draws.1, ap (λ r. issued_by (or_barred h.outbox.writer r) (drawn h (d ∷ ds))) free ∙ ap (λ w. issued_by (or_barred w None) (drawn h (d ∷ ds))) fine ∙ ap (issued_by None) draws.1)

issued_draws : (w : Writer) (met : Option Error) (drawn : Option (List ℕ)) (serials : List ℕ) → issued_by (or_barred w met) drawn ≡ Ok serials → (drawn ≡ Some serials) × (w ≡ Writer.Fine)
issued_draws w (Some error) drawn serials e = cc
issued_draws Writer.Failed None drawn serials e = cc
issued_draws Writer.Closed None drawn serials e = cc
issued_draws Writer.Fine None None serials e = cc
issued_draws Writer.Fine None (Some some) serials e = (cc, refl)

-- messages that are put drew their serials
pub put_drew : (h : Past) (ds : List Posting) (serials : List ℕ) → issued h ds ≡ Ok serials → drawn h ds ≡ Some serials
unfolding calls_issued
put_drew h [] serials e = cc
put_drew h (d ∷ ds) serials e = (issued_draws h.outbox.writer (refusal h (d ∷ ds)) (drawn h (d ∷ ds)) serials e).0

-- and the peer writes, where there are any
pub put_none : (h : Past) (ds : List Posting) (serials : List ℕ) → h.outbox.writer ≢ Writer.Fine → issued h ds ≡ Ok serials → messages_of (outgoings ds) serials ≡ []
unfolding calls_issued
put_none h [] serials ne e = refl
put_none h (d ∷ ds) serials ne e = absurd (ne (issued_draws h.outbox.writer (refusal h (d ∷ ds)) (drawn h (d ∷ ds)) serials e).1)

-- once the writer is over nothing is put
pub puts_none : (h : Past) (pl : Plan) (e : Entry) → h.outbox.writer ≢ Writer.Fine → IsQuiet e ⊎ HasPut h pl e → e.put ≡ []
puts_none h pl e ne (inl quiet) = quiet.put
puts_none h pl e ne (inr has) = has.is.put ∙ put_none (after_all (deeds pl e) h) has.ds has.serials (λ q. ne (sym (writer_stays h (deeds pl e) ne) ∙ q)) has.drew

-- ---- what is answered where nothing refuses

pub said_as_meant : (setting : Setting) (older : List Entry) (e : Entry) (answer : Answer) (done : List Event) → Legal setting (e ∷ older)
    → plan (replay setting older) e.lane e.words ≡ Says answer done → e.answer ≡ answer
said_as_meant setting older e answer done legal means = (subst (λ p. IsMeant (replay setting older).past p e) means legal.0).1

pub sent_or_fault : (setting : Setting) (older : List Entry) (e : Entry) (done : List Event) (ds : List Posting) (sent : List ℕ → Answer) → Legal setting (e ∷ older)
    → plan (replay setting older) e.lane e.words ≡ Sends done ds sent → refusal (after_all done (replay setting older).past) ds ≡ None → (replay setting older).past.outbox.writer ≡ Writer.Fine
    → (serials : List ℕ) × (drawn (after_all done (replay setting older).past) ds ≡ Some serials) × (e.answer ≡ (if e.failed then write_fault else sent serials))
sent_or_fault setting older e done ds sent legal means free fine =
    let t = replay setting older in
    let does = (subst (IsFair t e.words) means (fair t e.lane e.words)).0.only in
    let same = kept_by (λ h. h.outbox) done t.past (deeds_are (Keeps (λ h. h.outbox)) deed_outbox done (are_deeds e.words done does)) in
    let put = put_where (after_all done t.past) ds free (ap (λ (o : Outbox). o.writer) same ∙ fine) in
    let is = (subst (λ p. IsMeant t.past p e) means legal.0).1 in
    let sending = subst (λ r. IsSending r ds sent e) put.2 is in
    (put.0, put.1, sending.answer)

-- ---- what is put

puts_put : (ds : List Posting) (serials : List ℕ) (h : Past) → (after_all (puts ds (messages_of (outgoings ds) serials)) h).outbox.put ≡ h.outbox.put ++ messages_of (outgoings ds) serials
puts_put [] serials h = sym (append-nil h.outbox.put)
puts_put (d ∷ ds) [] h = sym (append-nil h.outbox.put)
puts_put (d ∷ ds) (serial ∷ serials) h =
    puts_put ds serials (after (put_of d serial) h) ∙ append_assoc h.outbox.put (message_of d.outgoing serial ∷ []) (messages_of (outgoings ds) serials)

pub put_more : (t : Replay) (e : Entry) → IsEntry t e → (more t e).past.outbox.put ≡ t.past.outbox.put ++ e.put
put_more t e is =
    let pl = plan t e.lane e.words in
    let done = after_all (deeds pl e) t.past in
    let ms = puts_of t.past pl e (quiet_or t.past pl e is) in
    kept_by (λ h. h.outbox.put) (writes e) (after_all (put_events pl e) done) (are_writes (Keeps (λ h. h.outbox.put)) e (λ h. refl) (λ h. refl))
    ∙ ap (λ es. (after_all es done).outbox.put) ms.3
    ∙ subst (λ xs. (after_all (puts ms.0 xs) done).outbox.put ≡ done.outbox.put ++ xs) (sym ms.2) (puts_put ms.0 ms.1 done)
    ∙ ap (λ xs. xs ++ e.put)
    (kept_by (λ h. h.outbox.put) (deeds pl e) t.past
    (deeds_all (Keeps (λ h. h.outbox.put)) (λ x is h. ap (λ (o : Outbox). o.put) (deed_outbox x is h)) (λ error h. refl) t e.lane e e.words (λ reads. (λ m h. refl, λ bytes h. refl)) (λ line. (λ h. refl, λ h. refl))))

pub put : (setting : Setting) (es : List Entry) → Legal setting es → (replay setting es).past.outbox.put ≡ all_put es
put setting [] legal = at_start (λ h. h.outbox.put ≡ []) refl (λ limit h so. so) (λ h so. so) (λ name h so. so) setting
put setting (e ∷ es) legal = put_more (replay setting es) e legal.0 ∙ ap (λ ms. ms ++ e.put) (put setting es legal.1)

-- ---- what is written

after_append : (xs ys : List Event) (h : Past) → after_all (xs ++ ys) h ≡ after_all ys (after_all xs h)
after_append [] ys h = refl
after_append (x ∷ xs) ys h = after_append xs ys (after x h)

wrote : (n : ℕ) (h : Past) → (after_all (repeat n Wrote) h).outbox.written ≡ h.outbox.written + n
wrote zero h = omega arith
wrote (suc n) h = let rest : (after_all (repeat n Wrote) (after Wrote h)).outbox.written ≡ h.outbox.written + 1 + n = wrote n (after Wrote h) in omega arith

failing_keeps : (b : Bool) (k : ℕ) → AllByRecursion (Keeps (λ h. h.outbox.written)) (if b then repeat k WriteFailed else [])
failing_keeps true k = repeat_all (Keeps (λ h. h.outbox.written)) k WriteFailed (λ h. refl)
failing_keeps false k = tt

failed_stays : (e : Event) (h : Past) → h.outbox.failed ≡ true → (after e h).outbox.failed ≡ true
failed_stays WriteFailed h so = refl
failed_stays e h so = so

failed_by : (b : Bool) (k : ℕ) (h : Past) → (b ≡ true → 0 < k) → (after_all (if b then repeat k WriteFailed else []) h).outbox.failed ≡ (h.outbox.failed || b)
failed_by true zero h cut = let none : 0 < 0 = cut refl in let no : ⊥ = omega (arith, none) in absurd no
failed_by true (suc k) h cut = every (λ q. q.outbox.failed ≡ true) failed_stays (repeat k WriteFailed) (after WriteFailed h) refl ∙ sym (or-true h.outbox.failed)
failed_by false k h cut = sym (or-false h.outbox.failed)

-- what writing does
pub written_by : (e : Entry) (p : Past) → (after_all (writes e) p).outbox.written ≡ p.outbox.written + e.written
written_by e p =
    let failing = if e.failed then repeat (length e.put - e.written) WriteFailed else [] in
    ap (λ (h : Past). h.outbox.written) (after_append (repeat e.written Wrote) failing p)
    ∙ kept_by (λ h. h.outbox.written) failing (after_all (repeat e.written Wrote) p) (failing_keeps e.failed (length e.put - e.written))
    ∙ wrote e.written p

pub failed_with : (e : Entry) (p : Past) → (e.failed ≡ true → e.written < length e.put) → (after_all (writes e) p).outbox.failed ≡ (p.outbox.failed || e.failed)
failed_with e p cut =
    let left = length e.put - e.written in
    let some : e.failed ≡ true → 0 < left = λ failed. let less = cut failed in omega (arith, less) in
    ap (λ (h : Past). h.outbox.failed) (after_append (repeat e.written Wrote) (if e.failed then repeat left WriteFailed else []) p)
    ∙ failed_by e.failed left (after_all (repeat e.written Wrote) p) some
    ∙ ap (λ b. b || e.failed) (kept_by (λ h. h.outbox.failed) (repeat e.written Wrote) p (repeat_all (Keeps (λ h. h.outbox.failed)) e.written Wrote (λ h. refl)))

-- what an entry leaves, before its writes, of what neither the closing of a writer nor a message changes
before_writes : {X : Type 0} (g : Outbox → X) (t : Replay) (e : Entry) → ((error : Error) → Keeps (λ h. g h.outbox) (PeerClosed error)) → ((m : MessageView) (purpose : Purpose) → Keeps (λ h. g h.outbox) (Put m purpose)) → is_live e.words ≡ false
    → g (after_all (put_events (plan t e.lane e.words) e) (after_all (deeds (plan t e.lane e.words) e) t.past)).outbox ≡ g t.past.outbox
before_writes g t e shut put run =
    let pl = plan t e.lane e.words in
    kept_by (λ h. g h.outbox) (put_events pl e) (after_all (deeds pl e) t.past) (put_events_are (Keeps (λ h. g h.outbox)) put pl e)
    ∙ kept_by (λ h. g h.outbox) (deeds pl e) t.past (deeds_all (Keeps (λ h. g h.outbox)) (λ x is h. ap g (deed_outbox x is h)) shut t e.lane e e.words (λ reads. (λ m h. refl, λ bytes h. refl)) (λ line. cc))

written_more : (t : Replay) (e : Entry) → is_live e.words ≡ false → (more t e).past.outbox.written ≡ t.past.outbox.written + e.written
written_more t e run =
    written_by e (after_all (put_events (plan t e.lane e.words) e) (after_all (deeds (plan t e.lane e.words) e) t.past))
    ∙ ap (λ n. n + e.written) (before_writes (λ o. o.written) t e (λ error h. refl) (λ m purpose h. refl) run)

failed_more : (t : Replay) (e : Entry) → is_live e.words ≡ false → (e.failed ≡ true → e.written < length e.put) → (more t e).past.outbox.failed ≡ (t.past.outbox.failed || e.failed)
failed_more t e run cut =
    failed_with e (after_all (put_events (plan t e.lane e.words) e) (after_all (deeds (plan t e.lane e.words) e) t.past)) cut
    ∙ ap (λ b. b || e.failed) (before_writes (λ o. o.failed) t e (λ error h. refl) (λ m purpose h. refl) run)

-- one entry more
sent_step : (failed fails : Bool) (count n : ℕ) (put sent ms : List MessageView) → (failed ≡ true → ms ≡ []) → n ≤ length ms → (fails ≡ true → n < length ms) → (fails ≡ false → n ≡ length ms) → IsPutOf failed count put sent
    → IsPutOf (failed || fails) (count + n) (put ++ ms) (sent ++ take n ms)
sent_step true fails count zero put sent [] none most cut all is = rw (append-nil put, append-nil sent) (let less = is.0 in omega (arith, less), is.1 ∙ ap (λ k. take k put) (omega arith))
sent_step true fails count (suc n) put sent [] none most cut all is = let no : ⊥ = omega (arith, most) in absurd no
sent_step true fails count n put sent (m ∷ ms) none most cut all is = let no = none refl in cc
sent_step false false count n put sent ms none most cut all is =
    let done = all refl in
    let length_is = length-append put ms in
    let before = is.0 in
    (omega (arith, done, length_is, before), ap (λ xs. xs ++ take n ms) is.1 ∙ ap (λ k. put ++ take k ms) done ∙ ap (λ xs. put ++ xs) (take-length ms))
sent_step false true count n put sent ms none most cut all is =
    let less = cut refl in
    let length_is = length-append put ms in
    let before = is.0 in
    (omega (arith, less, length_is, before), ap (λ xs. xs ++ take n ms) is.1 ∙ sym (take-append-add put ms n) ∙ ap (λ k. take (k + n) (put ++ ms)) (sym before))

pub sent : (setting : Setting) (es : List Entry) → Legal setting es → AllByRecursion IsAtOnce es → AllByRecursion (λ (e : Entry). IsOfRun e.words) es
    → IsPutOf (replay setting es).past.outbox.failed (replay setting es).past.outbox.written (replay setting es).past.outbox.put (all_written es)
sent setting [] legal at_once run = at_start (λ h. IsPutOf h.outbox.failed h.outbox.written h.outbox.put []) (refl, refl) (λ limit h so. so) (λ h so. so) (λ name h so. so) setting
sent setting (e ∷ es) legal at_once run =
    let t = replay setting es in
    let pl = plan t e.lane e.words in
    let has = quiet_or t.past pl e legal.0 in
    let most = within t.past pl e has in
    let live = of_run e.words run.0 in
    let none : t.past.outbox.failed ≡ true → e.put ≡ [] = λ failed. puts_none t.past pl e (λ fine. let unfailed = fine_unfailed setting es fine in cc) has in
    rw (failed_more t e live most.1, written_more t e live, put_more t e legal.0)
    (sent_step t.past.outbox.failed e.failed t.past.outbox.written e.written t.past.outbox.put (all_written es) e.put none most.0 most.1 at_once.0 (sent setting es legal.1 at_once.1 run.1))

-- ---- after closing

-- the writer is over
abbrev IsStuck : Replay → Type 0
IsStuck t = t.past.outbox.writer ≢ Writer.Fine

-- an entry that puts nothing leaves what was put
same_put : (t : Replay) (e : Entry) → IsEntry t e → e.put ≡ [] → (more t e).past.outbox.put ≡ t.past.outbox.put
same_put t e is none = put_more t e is ∙ ap (λ ms. t.past.outbox.put ++ ms) none ∙ append-nil t.past.outbox.put

-- the entry that closes puts nothing, no write of it fails, and the writer is over behind it
close_quiet : (t : Replay) (e : Entry) → IsEntry t e → e.words ≡ Words.Close → IsQuiet e
close_quiet t e is w = (subst (λ x. IsMeant t.past (plan t e.lane x) e) w is).2

close_stuck : (t : Replay) (e : Entry) → IsEntry t e → e.words ≡ Words.Close → IsStuck (more t e)
close_stuck t e is w fine =
    shut_writer t.past.outbox.writer
    (sym (ap (λ x. (past_after (plan t e.lane x) e t.past).outbox.writer) w ∙ ap (λ (h : Past). h.outbox.writer) (quiet_past Closes e t.past (close_quiet t e is w))) ∙ fine)

stuck_more : (t : Replay) (e : Entry) → IsStuck t → IsStuck (more t e)
stuck_more t e over fine = over (sym (every_entry (λ h. h.outbox.writer ≡ t.past.outbox.writer) (writer_keeps t.past.outbox.writer over) (plan t e.lane e.words) e t.past refl) ∙ fine)

stuck_put : (t : Replay) (e : Entry) → IsStuck t → IsEntry t e → e.put ≡ []
stuck_put t e over is = puts_none t.past (plan t e.lane e.words) e over (quiet_or t.past (plan t e.lane e.words) e is)

-- from an entry that closes on
closed : (setting : Setting) (newer : List Entry) (e : Entry) (older : List Entry) → Legal setting (newer ++ e ∷ older) → e.words ≡ Words.Close
    → (IsStuck (replay setting (newer ++ e ∷ older)) × ((replay setting (newer ++ e ∷ older)).past.outbox.put ≡ (replay setting older).past.outbox.put)) × AllByRecursion (λ (f : Entry). f.put ≡ []) newer
closed setting newer e older legal w =
    let t = replay setting older in
    let is = (legal_from setting newer (e ∷ older) legal).0 in
    let quiet = close_quiet t e is w in
    later setting (λ u. IsStuck u × (u.past.outbox.put ≡ t.past.outbox.put)) (λ f. f.put ≡ [])
    (λ u f meant so. let none = stuck_put u f so.0 meant in ((stuck_more u f so.0, same_put u f meant none ∙ so.1), none)) newer (e ∷ older) legal (close_stuck t e is w, same_put t e is quiet.put)

pub none_put : (setting : Setting) (newer : List Entry) (e : Entry) (older : List Entry) → Legal setting (newer ++ e ∷ older) → e.words ≡ Words.Close → AllByRecursion (λ (f : Entry). f.put ≡ []) newer
none_put setting newer e older legal w = (closed setting newer e older legal w).1

pub none_more : (setting : Setting) (newer : List Entry) (e : Entry) (older : List Entry) → Legal setting (newer ++ e ∷ older) → e.words ≡ Words.Close
    → (replay setting (newer ++ e ∷ older)).past.outbox.put ≡ (replay setting older).past.outbox.put
none_more setting newer e older legal w = (closed setting newer e older legal w).0.1

-- nothing is put, so that no write fails
failed_same : (t : Replay) (e : Entry) → IsEntry t e → is_live e.words ≡ false → e.put ≡ [] → (more t e).past.outbox.failed ≡ t.past.outbox.failed
failed_same t e is run none =
    let most = within t.past (plan t e.lane e.words) e (quiet_or t.past (plan t e.lane e.words) e is) in
    failed_more t e run most.1 ∙ by_fault e.failed (λ failed. subst (λ ms. e.written < length ms) none (most.1 failed))
  where
    by_fault : (b : Bool) → (b ≡ true → e.written < 0) → (t.past.outbox.failed || b) ≡ t.past.outbox.failed
    by_fault true less = let most = less refl in let no : ⊥ = omega (arith, most) in absurd no
    by_fault false less = or-false t.past.outbox.failed

pub none_failed : (setting : Setting) (newer : List Entry) (e : Entry) (older : List Entry) → Legal setting (newer ++ e ∷ older) → e.words ≡ Words.Close → AllByRecursion (λ (f : Entry). IsOfRun f.words) newer
    → (replay setting (newer ++ e ∷ older)).past.outbox.failed ≡ (replay setting older).past.outbox.failed
none_failed setting [] e older legal w run =
    let t = replay setting older in let quiet = close_quiet t e legal.0 w in failed_same t e legal.0 (ap is_live w) quiet.put
none_failed setting (x ∷ newer) e older legal w run =
    let t = replay setting (newer ++ e ∷ older) in
    failed_same t x legal.0 (of_run x.words run.0) (stuck_put t x (closed setting newer e older legal.1 w).0.0 legal.0) ∙ none_failed setting newer e older legal.1 w run.1

-- ---- serials

pub message_serial : (outgoing : OutgoingMessageView) (serial : ℕ) → (message_of outgoing serial).serial ≡ serial
unfolding message_of built
message_serial outgoing serial = refl

-- the messages have the serials that they drew
abbrev Bear : List Posting → List ℕ → Type 0
Bear ds serials = map (λ (m : MessageView). m.serial) (messages_of (outgoings ds) serials) ≡ serials

one_more : (d : Posting) (ds : List Posting) (serial : ℕ) (rest : Option (List ℕ)) (serials : List ℕ) → ((ss : List ℕ) → rest ≡ Some ss → Bear ds ss) → option_map (λ ss. serial ∷ ss) rest ≡ Some serials → Bear (d ∷ ds) serials
one_more d ds serial None serials bear e = cc
one_more d ds serial (Some ss) serials bear e =
    let same : serial ∷ ss ≡ serials = cc in
    subst (Bear (d ∷ ds)) same
    (ap (λ n. n ∷ map (λ (m : MessageView). m.serial) (messages_of (outgoings ds) ss)) (message_serial d.outgoing serial) ∙ ap (λ xs. serial ∷ xs) (bear ss refl))

by_next : (d : Posting) (ds : List Posting) (h : Past) (n : Option ℕ) (serials : List ℕ) → ((serial : ℕ) (ss : List ℕ) → drawn (after (put_of d serial) h) ds ≡ Some ss → Bear ds ss)
    → option_and_then (λ serial. option_map (λ ss. serial ∷ ss) (drawn (after (put_of d serial) h) ds)) n ≡ Some serials → Bear (d ∷ ds) serials
by_next d ds h None serials bear e = cc
by_next d ds h (Some serial) serials bear e = one_more d ds serial (drawn (after (put_of d serial) h) ds) serials (bear serial) e

pub drew : (ds : List Posting) (h : Past) (serials : List ℕ) → drawn h ds ≡ Some serials → Bear ds serials
drew [] h serials e = cc
drew (d ∷ ds) h serials e = by_next d ds h (next_serial h) serials (λ serial ss at. drew ds (after (put_of d serial) h) ss at) e

-- ---- messages

message_sender : (outgoing : OutgoingMessageView) (serial : ℕ) → (message_of outgoing serial).sender ≡ outgoing.builder.fields.sender
unfolding message_of built
message_sender outgoing serial = refl

message_kind : (outgoing : OutgoingMessageView) (serial : ℕ) → (message_of outgoing serial).kind ≡ outgoing.builder.kind
unfolding message_of built
message_kind outgoing serial = refl

-- without a call that is answered every message has the name
named_any : (name : Option (List ℕ)) (kind : MessageType) → sender_of name false kind ≡ name
named_any name MessageType.Error = refl
named_any name kind = refl

-- the message's sender is the one that a message of its type has
abbrev Bears : Option (List ℕ) → Bool → MessageView → Type 0
Bears name served m = m.sender ≡ sender_of name served m.kind

messages_from : (name : Option (List ℕ)) (ds : List Posting) (serials : List ℕ) → AreFrom name ds → AllByRecursion (Bears name false) (messages_of (outgoings ds) serials)
messages_from name [] serials from = tt
messages_from name (d ∷ ds) [] from = tt
messages_from name (d ∷ ds) (serial ∷ serials) from =
    (message_sender d.outgoing serial ∙ from.0 ∙ sym (named_any name (message_of d.outgoing serial).kind), messages_from name ds serials from.1)

objects_from : (served : Bool) (name : Option (List ℕ)) (ps : List OutgoingMessageView) (serials : List ℕ) → AllByRecursion (Bears name served) (messages_of (outgoings (object_postings served name ps)) serials)
objects_from served name [] serials = tt
objects_from served name (p ∷ ps) [] = tt
objects_from served name (p ∷ ps) (serial ∷ serials) =
    let q = sent_by name served p in
    (message_sender q serial ∙ ap (sender_of name served) (sym (message_kind q serial)), objects_from served name ps serials)

sending_from : (name : Option (List ℕ)) (served : Bool) (ds : List Posting) (said : List ℕ → Answer) (e : Entry) (r : Result (List ℕ) Error) → ((serials : List ℕ) → AllByRecursion (Bears name served) (messages_of (outgoings ds) serials))
    → IsSending r ds said e → AllByRecursion (Bears name served) e.put
sending_from name served ds said e (Ok serials) from is = subst (AllByRecursion (Bears name served)) (sym is.put) (from serials)
sending_from name served ds said e (Err error) from is = subst (AllByRecursion (Bears name served)) (sym is.1.put) tt

quiet_from : (name : Option (List ℕ)) (served : Bool) (e : Entry) → IsQuiet e → AllByRecursion (Bears name served) e.put
quiet_from name served e q = subst (AllByRecursion (Bears name served)) (sym q.put) tt

bears : (t : Replay) (w : Words) (pl : Plan) (e : Entry) → IsFair t w pl → IsMeant t.past pl e → AllByRecursion (Bears t.past.name (is_serving w)) e.put
bears t w (Says answer done) e f is = quiet_from t.past.name (is_serving w) e is.2
bears t w (Sends done ds sent) e f is = sending_from t.past.name (is_serving w) ds sent e _ (λ serials. subst (λ b. AllByRecursion (Bears t.past.name b) (messages_of (outgoings ds) serials)) (sym f.2) (messages_from t.past.name ds serials f.1)) is.1
bears t w Reads e f is = quiet_from t.past.name (is_serving w) e is.1
bears t w (Serves None done) e f is =
    let s = is.1 in
    subst (λ b. AllByRecursion (Bears t.past.name b) e.put) (sym f.uncalled) (sending_from t.past.name false (object_postings false t.past.name s.messages) (λ serials. s.answer) e _ (objects_from false t.past.name s.messages) s.delivers)
bears t w (Serves (Some said) done) e f is =
    let s = is.1 in
    quiet_from t.past.name (is_serving w) e (unwanted false (after_all (unless_refused s.answer done) t.past) t.past.name s.messages s.answer e s.may.1 s.delivers).0
bears t w (Dispatches k m) e f is =
    let d = is.1 in
    subst (λ b. AllByRecursion (Bears t.past.name b) e.put) (sym (ap is_serving f.asked)) (sending_from t.past.name true (object_postings true t.past.name d.0) (λ serials. call_answer m) e _ (objects_from true t.past.name d.0) d.2)
bears t w Closes e f is = quiet_from t.past.name (is_serving w) e is.2
bears t w (Writes fails) e f is = quiet_from t.past.name (is_serving w) e is.2
bears t w Never e f is = absurd is

pub bear_the_name : (setting : Setting) (older : List Entry) (e : Entry) → Legal setting (e ∷ older) → AllByRecursion (λ (m : MessageView). m.sender ≡ sender_of (replay setting older).past.name (is_serving e.words) m.kind) e.put
bear_the_name setting older e legal =
    let t = replay setting older in bears t e.words (plan t e.lane e.words) e (fair t e.lane e.words) legal.0
