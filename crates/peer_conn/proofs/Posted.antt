-- What a command's messages leave once they are put.
use Rattle.peer_core.specs.{History.{calls_of, Event, after_all}, Issuing.{issued_each, issued, put_each, IssuesBy}, Asked.all_given, Refinement.{RouteView, Refines}, BusCall.first_of}
use Rattle.std.proofs.Common.{if◌then◌else◌, ◌≡◌, ◌≢◌, ◌⊎◌, ℕ, zero, suc, ◌+◌, ◌-◌, ◌≤◌, refl, sym, ◌∙◌, ap, subst, arith, inl, inr, ◌&&◌, not, Bool, true, false, List, [], ◌∷◌, ◌++◌, length, drop, take, Option, Some, None, Ok, Err}
use Rattle.std.specs.List.{slice_get}
use Rattle.peer_conn.specs.{Names.{MessageView, BuilderView, are_misplaced, Error, Answer, Datum, Acted, Makes}, Invariant.{named_send, PeerStateView, Keeps, Did, DidSend, plain, call_owners, stream_owners}}
use Rattle.peer_words.specs.{Made.{IsCarried, MakesOutgoing}, CallMessage.{PreparedSend, values_in, words_refusal, name_refusal, prepared_of, prepared_member, outgoing_builder, prepared_outgoing, prepared_reply, prepared_error, sent_from}, declared.words.Outgoing.Outgoing, declared.words.OutgoingKind.OutgoingKind}
use Rattle.wire_message.specs.{BuilderView.built, Signed.fds_field, Primary.head_of, NewBuilders.{reply_builder, error_builder}, declared.kind.MessageType.MessageType, Outgoing.{OutgoingMessageView, message_of, sent_by, expects}}
use Rattle.peer_calls.specs.{declared.posting.Issued.Issued, History.OfLane, Issuing.{Posting, posted, issued_of}}
use Rattle.peer_route.specs.{Replay.{Replay, Owners, count, call_owner, made_owners}, Plan.{Sends, sends, sent_answer}}
use Rattle.peer_conn.specs.Handles.{HasHandles}
use Rattle.peer_conn.proofs.Quietly.{nothing_made, nothing_did}
use Rattle.peer_route.specs.Entries as entries

-- ---- what was put behind so many

past : {A : Type 0} (n k : ℕ) (xs : List A) → slice_get xs (n + k) ≡ slice_get (drop n xs) k
past zero k xs = ap (slice_get xs) (let e : 0 + k ≡ k = omega arith in e)
past (suc n) k [] = refl
past (suc n) k (x ∷ xs) = ap (slice_get (x ∷ xs)) (let e : suc n + k ≡ suc (n + k) = omega arith in e) ∙ past n k xs

one_more : {A : Type 0} (n : ℕ) (xs : List A) (x : A) → slice_get xs n ≡ Some x → take (suc n) xs ≡ take n xs ++ x ∷ []
one_more n [] x e = cc
one_more zero (y ∷ xs) x e = let same : y ≡ x = cc in ap (λ z. z ∷ []) same
one_more (suc n) (y ∷ xs) x e = ap (λ ys. y ∷ ys) (one_more n xs x e)

pub put_next : {A : Type 0} (xs : List A) (count index : ℕ) (x : A) → count ≤ index → slice_get xs index ≡ Some x → take (index + 1 - count) (drop count xs) ≡ take (index - count) (drop count xs) ++ x ∷ []
put_next xs count index x le e =
    let more : index + 1 - count ≡ suc (index - count) = omega (arith, le) in
    let at : count + (index - count) ≡ index = omega (arith, le) in
    ap (λ n. take n (drop count xs)) more ∙ one_more (index - count) (drop count xs) x (sym (past count (index - count) xs) ∙ ap (slice_get xs) at ∙ e)

-- ---- what one message leaves

abbrev pub acted_by : Option ℕ → ℕ → ℕ → Acted
acted_by (Some k) number serial = record { answer = Answer.Called number serial; makes = Makes.Call }
acted_by None number serial = plain (Answer.Sent serial)

-- it has no descriptors, or the sink takes them
pub carried : (outgoing : OutgoingMessageView) (takes : Bool) (serial : ℕ) → IsCarried takes outgoing → ((message_of outgoing serial).unix_fds ≡ None) ⊎ (takes ≡ true)
unfolding message_of built
carried outgoing takes serial (inl none) = inl (ap fds_field none)
carried outgoing takes serial (inr can) = inr can

abbrev call_number : Bool → ℕ → Option ℕ
call_number waits number = if waits then Some number else None

acted_so : (waits : Bool) (calls number other serial : ℕ) → number ≡ other → (acted_by (call_number waits calls) number serial).answer ≡ sent_answer waits other serial
acted_so true calls number other serial e = ap (λ n. Answer.Called n serial) e
acted_so false calls number other serial e = refl

put_one : (t : Replay) (v : PeerStateView) (new : RouteView) (lane : ℕ) (owners : Owners) (outgoing : OutgoingMessageView) (i : Issued) → v.core ≡ new → HasHandles t.past v.handles → v.given ≡ all_given t.past → owners ≡ t.calls → IsCarried t.setting.takes_fds outgoing
    → IssuesBy (λ i serials. i ∷ [] ≡ issued_each t.past (posted false outgoing ∷ []) serials) (Unit {0}) (Refines new) (posted false outgoing ∷ []) t.past (Ok i)
    → Did v t lane (sends t lane (Ok outgoing)) (acted_by i.call (count lane owners) i.serial)
put_one t v new lane owners outgoing i core held given same can (serials, is, tells, left) =
    subst (DidSend v t lane [] (posted false outgoing ∷ []) (λ serials. sent_answer (expects outgoing) (count lane t.calls) (first_of serials)) (acted_by i.call (count lane owners) i.serial)) (sym is) (by serials tells (subst (λ c. Refines c (put_each (posted false outgoing ∷ []) serials t.past)) (sym core) left))
  where
    owns : (waits : Bool) (failed : Bool) (calls number serial : ℕ) → (call_owners lane failed (acted_by (call_number waits calls) number serial).makes ≡ call_owner lane failed (OfLane waits) ++ [])
        × (stream_owners lane failed (acted_by (call_number waits calls) number serial).makes ≡ [])
    owns true failed calls number serial = (refl, refl)
    owns false failed calls number serial = (refl, refl)

    by : (serials : List ℕ) → i ∷ [] ≡ issued_each t.past (posted false outgoing ∷ []) serials → Refines v.core (put_each (posted false outgoing ∷ []) serials t.past)
        → DidSend v t lane [] (posted false outgoing ∷ []) (λ serials. sent_answer (expects outgoing) (count lane t.calls) (first_of serials)) (acted_by i.call (count lane owners) i.serial) (Ok serials)
    by [] tells left = cc
    by (serial ∷ serials) tells left =
        let one : i ≡ issued_of (calls_of t.past) (posted false outgoing) serial = cc in
        let waits = expects outgoing in
        subst (λ (x : Issued). DidSend v t lane [] (posted false outgoing ∷ []) (λ serials. sent_answer (expects outgoing) (count lane t.calls) (first_of serials)) (acted_by x.call (count lane owners) x.serial) (Ok (serial ∷ serials))) (sym one) (
          acted_so waits (length t.past.calls) (count lane owners) (count lane t.calls) serial (ap (count lane) same),
          record { left = left; held = held; given = given },
          (carried outgoing t.setting.takes_fds serial can, tt),
          λ failed. owns waits failed (length t.past.calls) (count lane owners) serial,
        )

-- the message that was made, sent by the peer, is what is asked for
pub message_named : (old name : Option (List ℕ)) (asked : PreparedSend) (outgoing : OutgoingMessageView) → old ≡ name → asked ≡ Ok outgoing → Ok (sent_by old false outgoing) ≡ named_send name asked
message_named old name asked outgoing same e = ap (λ n. Ok (sent_by n false outgoing)) same ∙ ap (named_send name) (sym e)

pub put_did : (t : Replay) (v : PeerStateView) (new : RouteView) (lane : ℕ) (owners : Owners) (old : Option (List ℕ)) (asked : PreparedSend) (outgoing : OutgoingMessageView) (i : Issued) → old ≡ t.past.name → asked ≡ Ok outgoing
    → v.core ≡ new → HasHandles t.past v.handles → v.given ≡ all_given t.past → owners ≡ t.calls → IsCarried t.setting.takes_fds outgoing
    → IssuesBy (λ i serials. i ∷ [] ≡ issued_each t.past (posted false (sent_by old false outgoing) ∷ []) serials) (Unit {0}) (Refines new) (posted false (sent_by old false outgoing) ∷ []) t.past (Ok i)
    → Did v t lane (sends t lane (named_send t.past.name asked)) (acted_by i.call (count lane owners) i.serial)
put_did t v new lane owners old asked outgoing i named is core held given same can issues =
    subst (λ x. Did v t lane (sends t lane x) (acted_by i.call (count lane owners) i.serial)) (message_named old t.past.name asked outgoing named is) (put_one t v new lane owners (sent_by old false outgoing) i core held given same can issues)

-- ---- why messages aren't put

-- none is put: only what was done by itself is
pub unput_did : (v : PeerStateView) (t : Replay) (lane : ℕ) (done : List Event) (ds : List Posting) (sent : List ℕ → Answer) (error : Error) → made_owners (Some lane) done ≡ []
    → Keeps v (after_all done t.past) → issued (after_all done t.past) ds ≡ Err error → Did v t lane (Sends done ds sent) (plain (entries.unsent error))
unput_did v t lane done ds sent error none keeps refuses =
    subst (DidSend v t lane done ds sent (plain (entries.unsent error))) (sym refuses) (refl, keeps, nothing_made lane done none)

-- a lane's message isn't put
pub unsent_did : {A : Type 0} (tells : A → List ℕ → Type 0) (old new : RouteView) (v : PeerStateView) (t : Replay) (lane : ℕ) (outgoing : OutgoingMessageView) (error : Error) → v.core ≡ new → Refines old t.past → HasHandles t.past v.handles → v.given ≡ all_given t.past
    → IssuesBy tells (new ≡ old) (Refines new) (posted false outgoing ∷ []) t.past (Err error) → error ≢ Error.Memory → Did v t lane (sends t lane (Ok outgoing)) (plain (entries.unsent error))
unsent_did tells old new v t lane outgoing Error.Memory core left held given is never = absurd (never refl)
unsent_did tells old new v t lane outgoing error core left held given is never =
    unput_did v t lane [] (posted false outgoing ∷ []) _ error refl (record { left = subst (λ c. Refines c t.past) (sym (core ∙ is.1)) left; held = held; given = given }) is.0

-- ---- whose name a message bears

asked_named : (name : Option (List ℕ)) (refusal : Option Error) (values : Option (List Datum)) (misplaced unsupported : Bool) (builder : BuilderView) (fds : List ℕ)
    → ((vs : List Datum) → sent_by name false (record { builder = builder; values = vs; fds = fds }) ≡ record { builder = sent_from name builder; values = vs; fds = fds })
    → named_send name (prepared_of refusal values misplaced unsupported builder fds) ≡ prepared_of refusal values misplaced unsupported (sent_from name builder) fds
asked_named name (Some error) values misplaced unsupported builder fds same = refl
asked_named name None None misplaced unsupported builder fds same = refl
asked_named name None (Some values) true unsupported builder fds same = refl
asked_named name None (Some values) false true builder fds same = refl
asked_named name None (Some values) false false builder fds same = ap Ok (same values)

pub reply_named : (name : Option (List ℕ)) (m : Option MessageView) (word : Option (List ℕ)) → named_send name (prepared_reply None m word) ≡ prepared_reply name m word
reply_named name None word = refl
reply_named name (Some m) word =
    asked_named name None (values_in word) false false (sent_from None (reply_builder MessageType.MethodReturn (head_of m))) [] (λ vs. refl)

pub error_named : (name : Option (List ℕ)) (m : Option MessageView) (text : List ℕ) (word : Option (List ℕ)) → named_send name (prepared_error None m text word) ≡ prepared_error name m text word
error_named name None text word = refl
error_named name (Some m) text word =
    asked_named name (name_refusal text) (values_in word) false false (sent_from None (error_builder (head_of m) text)) [] (λ vs. refl)

pub outgoing_named : (name : Option (List ℕ)) (takes_fds : Bool) (out : Outgoing) → named_send name (prepared_outgoing None takes_fds out) ≡ prepared_outgoing name takes_fds out
unfolding words_refusal
outgoing_named name takes_fds out = by out.kind
  where
    by : (kind : OutgoingKind) → named_send name (prepared_member takes_fds out (outgoing_builder kind None out)) ≡ prepared_member takes_fds out (outgoing_builder kind name out)
    by OutgoingKind.Call =
        let builder = outgoing_builder OutgoingKind.Call None out in
        asked_named name (words_refusal builder) (values_in out.body) (are_misplaced builder.kind builder.flags) (out.flags.descriptor && not takes_fds) builder (if out.flags.descriptor then 0 ∷ [] else []) (λ vs. refl)
    by OutgoingKind.Signal =
        let builder = outgoing_builder OutgoingKind.Signal None out in
        asked_named name (words_refusal builder) (values_in out.body) (are_misplaced builder.kind builder.flags) (out.flags.descriptor && not takes_fds) builder (if out.flags.descriptor then 0 ∷ [] else []) (λ vs. refl)

-- and a refusal is the one that is due
pub refused_did : (v : PeerStateView) (t : Replay) (lane : ℕ) (asked : PreparedSend) (error : Error) → Keeps v t.past → MakesOutgoing (Err error) asked → error ≢ Error.Memory
    → Did v t lane (sends t lane (named_send t.past.name asked)) (plain (Answer.Refused error))
refused_did v t lane asked Error.Memory keeps makes never = absurd (never refl)
refused_did v t lane asked error keeps makes never = subst (λ x. Did v t lane (sends t lane (named_send t.past.name x)) (plain (Answer.Refused error))) (sym makes) (nothing_did v t lane (Answer.Refused error) keeps)
