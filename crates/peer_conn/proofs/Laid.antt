-- What a command did before anything of it is written, by the kind of its plan.
use Rattle.std.proofs.{Common.{◌≡◌, ℕ, ◌≤◌, ◌<◌, ◌⊎◌, inl, inr, refl, sym, ◌∙◌, ap, subst, arith, Bool, true, false, if◌then◌else◌, List, [], ◌∷◌, ◌++◌, length, Some, None, Result, Ok, Err, append_assoc}, lemmas.List.append-nil}
use Rattle.peer_conn.specs.{Names.{MessageView, Error, Words, Writer, Answer, Entry, Acted}, Invariant.{PeerStateView, Keeps, Did, DidSend, AreTaken, call_owners, stream_owners}}
use Rattle.peer_core.specs.{History.{Event, Past, after, after_all}, Issuing.puts}
use Rattle.peer_calls.specs.{History.Outbox, Issuing.{Posting, outgoings, messages_of}}
use Rattle.peer_core.specs.Issuing.{issued, put_of}
use Rattle.wire_message.specs.Outgoing.{message_of}
use Rattle.peer_route.specs.{Replay.{Replay, new_owners, asked_owners, made_owners}, Plan.{Plan, Says, Sends, Serves, plan}, Entries.{IsMeant, IsQuiet, IsSending, deeds, postings, writes, past_after, write_fault, IsInTurn}}
use Rattle.peer_route.proofs.{Plans.{AreDeeds, IsFair, fair, are_deeds}, Kept.{kept_by, deeds_are, deed_outbox, none_put_events}, Sent.put_none}
use Rattle.peer_core.proofs.Issues.{put_puts}
use Rattle.peer_route.proofs.Kept as kept

-- The messages were put, and wait; the past that the core keeps then; and what the entry will be.
pub record Laid (t : Replay) (mid : PeerStateView) (lane : ℕ) (pl : Plan) (a : Acted) (q : Past) (ms : List MessageView) : Type 0 where
  pub keeps : Keeps mid q
  pub leads : (e : Entry) → e.put ≡ ms → past_after pl e t.past ≡ after_all (writes e) q
  pub outbox : (last : ℕ) × (q.outbox ≡ record t.past.outbox { put = t.past.outbox.put ++ ms; last = last })
  pub taken : AreTaken t.setting.takes_fds ms
  pub calls : (failed : Bool) → call_owners lane failed a.makes ≡ new_owners lane failed (postings pl) ms
  pub streams : (failed : Bool) (e : Entry) → stream_owners lane failed a.makes ≡ made_owners (Some lane) (deeds pl e) ++ asked_owners lane failed (postings pl) ms
  pub meant : (e : Entry) → e.read ≡ None → e.put ≡ ms → e.answer ≡ (if e.failed then write_fault else a.answer) → e.written ≤ length ms → (e.failed ≡ true → e.written < length ms) → IsInTurn t.past e → IsMeant t.past pl e

-- ---- deeds

-- what a plan does by itself is deeds
abbrev pub Does : Plan → Type 0
Does (Says answer done) = AreDeeds done
Does (Serves said done) = AreDeeds done
Does (Sends done ds sent) = AreDeeds done
Does other = Unit {0}

fair_does : (t : Replay) (w : Words) (pl : Plan) → IsFair t w pl → Does pl
fair_does t w (Says answer done) f = are_deeds w done f.only
fair_does t w (Serves said done) f = are_deeds w done f.only
fair_does t w (Sends done ds sent) f = are_deeds w done f.0.only
fair_does t w pl f = tt

pub plan_does : (t : Replay) (lane : ℕ) (w : Words) → Does (plan t lane w)
plan_does t lane w = fair_does t w (plan t lane w) (fair t lane w)

-- ---- by the kind of plan

no_names : (lane : ℕ) (failed : Bool) (ds : List Posting) → (new_owners lane failed ds [] ≡ []) × (asked_owners lane failed ds [] ≡ [])
no_names lane failed [] = (refl, refl)
no_names lane failed (d ∷ ds) = (refl, refl)

unfailed : (b : Bool) (n : ℕ) → (b ≡ true → n < 0) → b ≡ false
unfailed true n cut = let less = cut refl in let no : ⊥ = omega (arith, less) in absurd no
unfailed false n cut = refl

quiet_of : (e : Entry) → e.put ≡ [] → e.written ≤ 0 → (e.failed ≡ true → e.written < 0) → IsQuiet e
quiet_of e put most cut = record { put = put; written = omega (arith, most); failed = unfailed e.failed e.written cut }

-- nothing was put
laid_none : (t : Replay) (mid : PeerStateView) (lane : ℕ) (pl : Plan) (a : Acted) (done : List Event) → AreDeeds done → ((e : Entry) → deeds pl e ≡ done) → Keeps mid (after_all done t.past)
    → ((failed : Bool) → (call_owners lane failed a.makes ≡ []) × (stream_owners lane failed a.makes ≡ made_owners (Some lane) done ++ []))
    → ((e : Entry) → e.read ≡ None → IsQuiet e → e.answer ≡ a.answer → IsMeant t.past pl e) → Laid t mid lane pl a (after_all done t.past) []
laid_none t mid lane pl a done are does keeps owns meant =
    let same = kept_by (λ h. h.outbox) done t.past (deeds_are (kept.Keeps (λ h. h.outbox)) deed_outbox done are) in
    record {
      keeps = keeps;
      leads = λ e put. ap (λ xs. after_all (writes e) (after_all xs (after_all (deeds pl e) t.past))) (none_put_events pl e put) ∙ ap (λ xs. after_all (writes e) (after_all xs t.past)) (does e);
      outbox = (t.past.outbox.last, same ∙ ap (λ ms. record t.past.outbox { put = ms }) (sym (append-nil t.past.outbox.put)));
      taken = tt;
      calls = λ failed. (owns failed).0 ∙ sym (no_names lane failed (postings pl)).0;
      streams = λ failed e. (owns failed).1 ∙ ap (λ es. made_owners (Some lane) es ++ []) (sym (does e)) ∙ ap (λ ns. made_owners (Some lane) (deeds pl e) ++ ns) (sym (no_names lane failed (postings pl)).1);
      meant = λ e read put answer most cut turn. let quiet = quiet_of e put most cut in meant e read quiet (answer ∙ ap (λ b. if b then write_fault else a.answer) quiet.failed);
    }

-- where messages are put, the writer is fine
pub writes_or : (h : Past) (ds : List Posting) (serials : List ℕ) (w : Writer) → h.outbox.writer ≡ w → issued h ds ≡ Ok serials → (messages_of (outgoings ds) serials ≡ []) ⊎ (h.outbox.writer ≡ Writer.Fine)
writes_or h ds serials Writer.Fine is e = inr is
writes_or h ds serials Writer.Failed is e = inl (put_none h ds serials (λ fine. cc) e)
writes_or h ds serials Writer.Closed is e = inl (put_none h ds serials (λ fine. cc) e)

-- messages are put behind those of the outbox
pub outbox_puts : (ds : List Posting) (serials : List ℕ) (h : Past) → let ms = messages_of (outgoings ds) serials in
    (last : ℕ) × ((after_all (puts ds ms) h).outbox ≡ record h.outbox { put = h.outbox.put ++ ms; last = last })
outbox_puts [] serials h = (h.outbox.last, ap (λ ms. record h.outbox { put = ms }) (sym (append-nil h.outbox.put)))
outbox_puts (d ∷ ds) [] h = (h.outbox.last, ap (λ ms. record h.outbox { put = ms }) (sym (append-nil h.outbox.put)))
outbox_puts (d ∷ ds) (serial ∷ serials) h =
    let more = outbox_puts ds serials (after (put_of d serial) h) in
    (more.0, more.1 ∙ ap (λ ms. record h.outbox { put = ms; last = more.0 }) (append_assoc h.outbox.put (message_of d.outgoing serial ∷ []) (messages_of (outgoings ds) serials)))

abbrev pub LaidSome : Replay → PeerStateView → ℕ → Plan → Acted → Type 0
LaidSome t mid lane pl a = (q : Past) × (ms : List MessageView) × Laid t mid lane pl a q ms

laid_sends : (t : Replay) (mid : PeerStateView) (lane : ℕ) (done : List Event) (ds : List Posting) (sent : List ℕ → Answer) (a : Acted) (r : Result (List ℕ) Error) → AreDeeds done → issued (after_all done t.past) ds ≡ r
    → DidSend mid t lane done ds sent a r → LaidSome t mid lane (Sends done ds sent) a
laid_sends t mid lane done ds sent a (Err error) are at did = (
  after_all done t.past,
  [],
  laid_none t mid lane (Sends done ds sent) a done are (λ e. refl) did.1 did.2
      (λ e read quiet answer. (read, subst (λ r. IsSending r ds sent e) (sym at) (answer ∙ did.0, quiet), inl (quiet.written, quiet.failed))),
)
laid_sends t mid lane done ds sent a (Ok serials) are at did =
    let h = after_all done t.past in
    let ms = messages_of (outgoings ds) serials in
    let q = after_all (puts ds ms) h in
    let behind = outbox_puts ds serials h in
    let same = kept_by (λ h. h.outbox) done t.past (deeds_are (kept.Keeps (λ h. h.outbox)) deed_outbox done are) in (
      q,
      ms,
      record {
        keeps = subst (Keeps mid) (put_puts ds serials h) did.1;
        leads = λ e put. ap (λ xs. after_all (writes e) (after_all (puts ds xs) h)) put;
        outbox = (behind.0, behind.1 ∙ ap (λ (o : Outbox). record o { put = o.put ++ ms; last = behind.0 }) same);
        taken = did.2;
        calls = λ failed. (did.3 failed).0;
        streams = λ failed e. (did.3 failed).1;
        meant = λ e read put answer most cut turn. (read, subst (λ r. IsSending r ds sent e) (sym at) (record { put = put; answer = answer ∙ ap (λ x. if e.failed then write_fault else x) did.0; written = most; cut = cut }), turn);
      },
    )

pub laid : (t : Replay) (mid : PeerStateView) (lane : ℕ) (pl : Plan) (a : Acted) → Does pl → Did mid t lane pl a → LaidSome t mid lane pl a
laid t mid lane (Says answer done) a are did =
    (after_all done t.past, [], laid_none t mid lane (Says answer done) a done are (λ e. refl) did.1 did.2 (λ e read quiet is. (read, is ∙ did.0, quiet)))
laid t mid lane (Sends done ds sent) a are did = laid_sends t mid lane done ds sent a (issued (after_all done t.past) ds) are refl did
laid t mid lane pl a are did = absurd did
