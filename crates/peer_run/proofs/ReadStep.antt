-- A read is one entry more.
use Rattle.std.proofs.{Common.{◌≡◌, ◌≢◌, ℕ, ◌+◌, ◌-◌, ◌^◌, ◌≤◌, refl, sym, ◌∙◌, ap, subst, arith, Bool, false, List, [], ◌∷◌, ◌++◌, length, Option, Some, None, IfSome, IfOk, IfErr, inl, inr, Result, Ok, Err}, lemmas.List.length_push}
use Rattle.std.specs.Io.KnownBytes.{Consumes}
use Rattle.peer_run.specs.{Names.{SourceView, Received, received_bytes, outcome, Tells, ending_of, Error, Answer, Entry, IoKind, Words}, Runs.{IsRest, SourceMoves, RunInvariant}}
use Rattle.peer_conn.specs.{Invariant.{PeerStateView, StateInvariant}, Going.{IsFound, quiet, read_entry, read_answer}}
use Rattle.peer_route.specs.{Replay.{Setting, Replay}, Entries.{IsEntry, IsQuiet, replay, more, more_by}, Environment.{IsOutcome, IsOf, left_after}, Plan.{Reads, plan}}
use Rattle.peer_calls.specs.History.{Outbox}
use Rattle.peer_core.specs.History.{Received as Took, Passed, PeerClosed, Past, after}
use Rattle.peer_route.proofs.{Plans.is_live, Read.{left_after-took, left_after-passed}}
use Rattle.peer_run.proofs.Following.{reads_by as source_by}
use Rattle.peer_run.proofs.{Flushing.rises, Stepping.same_outbox, Following.{IsLeft, follows_by, all_done}}
use Rattle.wire_framing.specs.Receive as receive
use Rattle.peer_run.specs.Runs as sinks

-- ---- the peer

-- an entry that puts nothing leaves nothing that waits
quiet_done : (setting : Setting) (p q : PeerStateView) (es : List Entry) (e : Entry) → IsQuiet e → is_live e.words ≡ false → StateInvariant q (more (replay setting es) e) → RunInvariant setting p es → q.core.done ≡ length q.core.outbox
quiet_done setting p q es e quiet run stands f =
    let now = stands.keeps.left in
    let same = same_outbox (replay setting es) e quiet run in
    now.done ∙ ap (λ (o : Outbox). o.done) same ∙ all_done setting p es f ∙ ap length (ap (λ (o : Outbox). o.put) (sym same) ∙ sym now.outbox)

pub follows_quiet : (setting : Setting) (p q : PeerStateView) (es : List Entry) (e : Entry) → IsQuiet e → is_live e.words ≡ false → IsEntry (replay setting es) e → StateInvariant q (more (replay setting es) e) → q.core.read ≤ 2 ^ 64 - 2
    → RunInvariant setting p es → RunInvariant setting q (e ∷ es)
follows_quiet setting p q es e quiet run is stands within f =
    follows_by setting p q es e (plan (replay setting es) e.lane e.words) refl is (λ fine. quiet.written ∙ sym (ap length quiet.put)) stands within (quiet_done setting p q es e quiet run stands f) f

-- a read found something
found_within : (t : Replay) (old new : PeerStateView) (lane : ℕ) (found : Result Received Error) → plan t lane Words.Read ≡ Reads → IsFound old.core.read found → StateInvariant old t → StateInvariant new (more t (read_entry lane found))
    → old.core.read ≤ 2 ^ 64 - 2 → new.core.read ≤ 2 ^ 64 - 2
found_within t old new lane (Ok (Received.Message m)) means is s stands within =
    let read : new.core.read ≡ length (t.past.read ++ m ∷ []) = stands.keeps.left.read ∙ ap (λ pl. length (more_by pl (read_entry lane (Ok (Received.Message m))) t).past.read) means in
    let count : new.core.read ≡ old.core.read + 1 = read ∙ length_push t.past.read m ∙ ap (λ n. n + 1) (sym s.keeps.left.read) in
    omega (arith, count, is.2)
found_within t old new lane (Ok (Received.Passed bytes)) means is s stands within =
    let read : new.core.read ≡ old.core.read = stands.keeps.left.read ∙ ap (λ pl. length (more_by pl (read_entry lane (Ok (Received.Passed bytes))) t).past.read) means ∙ sym s.keeps.left.read in
    omega (arith, read, within)
found_within t old new lane (Err error) means is s stands within =
    let read : new.core.read ≡ old.core.read = stands.keeps.left.read ∙ ap (λ pl. length (more_by pl (read_entry lane (Err error)) t).past.read) means ∙ sym s.keeps.left.read in
    omega (arith, read, within)

pub follows_found : (setting : Setting) (old new : PeerStateView) (es : List Entry) (lane : ℕ) (found : Result Received Error) → plan (replay setting es) lane Words.Read ≡ Reads → IsFound old.core.read found
    → IsEntry (replay setting es) (read_entry lane found) × StateInvariant new (more (replay setting es) (read_entry lane found)) → RunInvariant setting old es → RunInvariant setting new (read_entry lane found ∷ es)
follows_found setting old new es lane found means is now f =
    let e = read_entry lane found in
    let quiet = found_quiet lane found in
    follows_quiet setting old new es e quiet.0 quiet.1 now.0 now.1 (found_within (replay setting es) old new lane found means is f.stands now.1 f.within) f
  where
    found_quiet : (lane : ℕ) (found : Result Received Error) → IsQuiet (read_entry lane found) × (is_live (read_entry lane found).words ≡ false)
    found_quiet lane (Ok (Received.Message m)) = (record { put = refl; written = refl; failed = refl }, refl)
    found_quiet lane (Ok (Received.Passed bytes)) = (record { put = refl; written = refl; failed = refl }, refl)
    found_quiet lane (Err error) = (record { put = refl; written = refl; failed = refl }, refl)

-- ---- the source

told_error : (error : Error) (found : Result Received Error) → error ≢ Error.Memory → Tells {A = Received} (λ r. r) (Err error) found → found ≡ Err error
told_error Error.Memory found n t = absurd (n refl)
told_error other found n t = t

-- what was received is the outcome of the bytes that were left
got_outcome : (stop : Option Bool) (count : ℕ) (bytes : List ℕ) (got : Received) (e : Entry) → IsOf (Ok got) e → receive.Receives stop count bytes (Ok got) → IsOutcome stop count bytes e
got_outcome (Some stop) count bytes got e is t = subst (λ r. IsOf r e) (sym t) is
got_outcome None count bytes got e is (inl t) = inl (subst (λ r. IsOf r e) (sym t) is)
got_outcome None count bytes got e is (inr t) = cc

shut_outcome : (stop : Option Bool) (count : ℕ) (bytes : List ℕ) (error : Error) (e : Entry) → IsOf (Err error) e → error ≢ Error.Memory → receive.Receives stop count bytes (Err error)
    → IsOutcome stop count bytes e
shut_outcome (Some stop) count bytes error e is n t = subst (λ r. IsOf r e) (sym (told_error error (outcome count bytes (ending_of stop)) n t)) is
shut_outcome None count bytes error e is n (inl t) = inl (subst (λ r. IsOf r e) (sym (told_error error (outcome count bytes IoKind.Ended) n t)) is)
shut_outcome None count bytes error e is n (inr t) = inr (let f : error ≡ Error.InputOutput IoKind.Fault = cc in subst (λ x. IsOf (Err x) e) f is)

consumed_left : (rest : List ℕ) (left : Option (List ℕ)) (taken : List ℕ) → Consumes (Some rest) left taken → (ys : List ℕ) × (left ≡ Some ys) × (rest ≡ taken ++ ys)
consumed_left rest None taken c = absurd c
consumed_left rest (Some ys) taken c = (ys, refl, c)

-- what is left of an open peer's bytes
still_left : (stop : Option Bool) (bytes : List ℕ) (h : Past) (now : SourceView) → h.closing ≡ None → IsLeft bytes stop h now → (now.left ≡ Some (left_after bytes h)) × (now.stop ≡ stop)
still_left stop bytes h now open_ rest = subst (λ o. IsRest o (length h.read) (left_after bytes h) stop now) open_ rest

-- what a front that was taken leaves
front_left : (stop : Option Bool) (bytes front : List ℕ) (h next : Past) (now then : SourceView) → h.closing ≡ None → next.closing ≡ h.closing → IsLeft bytes stop h now → Consumes now.left then.left front → then.stop ≡ now.stop
    → ((left : List ℕ) → left_after bytes h ≡ front ++ left → left_after bytes next ≡ left) → IsLeft bytes stop next then
front_left stop bytes front h next now then open_ same rest consumed stops goes =
    let here = still_left stop bytes h now open_ rest in
    let left = consumed_left (left_after bytes h) then.left front (rw here.0 at consumed) in
    subst (λ o. IsRest o (length next.read) (left_after bytes next) stop then) (sym (same ∙ open_)) (left.1 ∙ ap Some (sym (goes left.0 left.2)), stops ∙ here.1)

-- what was received is the outcome of what was left
told_left : (stop : Option Bool) (bytes : List ℕ) (count : ℕ) (h : Past) (now : SourceView) (found : Result Received Error) → h.closing ≡ None → count ≡ length h.read → IsLeft bytes stop h now
    → IfSome now.left (λ bytes. receive.Receives now.stop count bytes found) → receive.Receives stop (length h.read) (left_after bytes h) found
told_left stop bytes count h now found open_ read rest received = let here = still_left stop bytes h now open_ rest in rw (← read, ← here.1) (rw here.0 at received)

-- a message, or a front that is ignored, was taken from it
reads_got : (setting : Setting) (start now then : SourceView) (p : PeerStateView) (es : List Entry) (lane : ℕ) (got : Received) → RunInvariant setting p es → p.core.calls.closing ≡ None → plan (replay setting es) lane Words.Read ≡ Reads
    → IfSome now.left (λ bytes. receive.Receives now.stop p.core.read bytes (Ok got))
    → Consumes now.left then.left (received_bytes got) → then.stop ≡ now.stop
    → sinks.Reads setting start now es → sinks.Reads setting start then (read_entry lane (Ok got) ∷ es)
reads_got setting start now then p es lane (Received.Message m) f e means received consumed stops r =
    let h = (replay setting es).past in
    let was = f.stands.keeps.left in
    let open_ : h.closing ≡ None = sym was.calls.closing ∙ e in
    source_by setting start now then es (read_entry lane (Ok (Received.Message m))) Reads means
    (λ bytes rest. (
      got_outcome start.stop (length h.read) (left_after bytes h) (Received.Message m) (read_entry lane (Ok (Received.Message m))) (refl, refl) (told_left start.stop bytes p.core.read h now (Ok (Received.Message m)) open_ was.read rest received),
      front_left start.stop bytes m.bytes h (after (Took m) h) now then open_ refl rest consumed stops (λ left is. left_after-took bytes left h m is),
    )) r
reads_got setting start now then p es lane (Received.Passed front) f e means received consumed stops r =
    let h = (replay setting es).past in
    let was = f.stands.keeps.left in
    let open_ : h.closing ≡ None = sym was.calls.closing ∙ e in
    source_by setting start now then es (read_entry lane (Ok (Received.Passed front))) Reads means
    (λ bytes rest. (
      got_outcome start.stop (length h.read) (left_after bytes h) (Received.Passed front) (read_entry lane (Ok (Received.Passed front))) (refl, refl) (told_left start.stop bytes p.core.read h now (Ok (Received.Passed front)) open_ was.read rest received),
      front_left start.stop bytes front h (after (Passed front) h) now then open_ refl rest consumed stops (λ left is. left_after-passed bytes left h front is),
    )) r

-- nothing more comes
reads_shut : (setting : Setting) (start now then : SourceView) (p : PeerStateView) (es : List Entry) (lane : ℕ) (error : Error) → RunInvariant setting p es → p.core.calls.closing ≡ None → plan (replay setting es) lane Words.Read ≡ Reads
    → error ≢ Error.Memory → IfSome now.left (λ bytes. receive.Receives now.stop p.core.read bytes (Err error))
    → IfSome now.left (λ bytes. IsRest (Some error) p.core.read bytes now.stop then)
    → sinks.Reads setting start now es → sinks.Reads setting start then (quiet lane Words.Read (Answer.Closed error) None ∷ es)
reads_shut setting start now then p es lane error f e means n received behind r =
    let h = (replay setting es).past in
    let was = f.stands.keeps.left in
    let open_ : h.closing ≡ None = sym was.calls.closing ∙ e in
    source_by setting start now then es (quiet lane Words.Read (Answer.Closed error) None) Reads means
    (λ bytes rest.
    let here = still_left start.stop bytes h now open_ rest in
    let told = told_left start.stop bytes p.core.read h now (Err error) open_ was.read rest received in
    let left : IsRest (Some error) (length h.read) (left_after bytes h) start.stop then = rw (← was.read, ← here.1) (rw here.0 at behind) in (
      shut_outcome start.stop (length h.read) (left_after bytes h) error (quiet lane Words.Read (Answer.Closed error) None) (refl, refl) n told,
      subst (λ o. IsRest o (length h.read) (left_after bytes h) start.stop then) (sym (shut_first h.closing open_)) left,
    )) r
  where
    shut_first : (o : Option Error) → o ≡ None → (after (PeerClosed error) (record (replay setting es).past { closing = o })).closing ≡ Some error
    shut_first None same = refl
    shut_first (Some earlier) same = cc

-- the entry of what was found, whatever it is
pub reads_found : (setting : Setting) (start now then : SourceView) (p : PeerStateView) (es : List Entry) (lane : ℕ) (found : Result Received Error) → RunInvariant setting p es → p.core.calls.closing ≡ None → plan (replay setting es) lane Words.Read ≡ Reads
    → (found ≡ Err Error.Memory → ⊥) → IfSome now.left (λ bytes. receive.Receives now.stop p.core.read bytes found)
    → sinks.Takes (p.core.read + 1) found now then
    → IfErr found (λ e. e ≢ Error.Memory → IfSome now.left (λ bytes. IsRest (Some e) p.core.read bytes now.stop then))
    → sinks.Reads setting start now es → sinks.Reads setting start then (read_entry lane found ∷ es)
reads_found setting start now then p es lane (Ok got) f open_ means never told takes rest r = reads_got setting start now then p es lane got f open_ means told takes.1.0 takes.1.1 r
reads_found setting start now then p es lane (Err error) f open_ means never told takes rest r =
    let n : error ≢ Error.Memory = λ e. never (ap Err e) in
    reads_shut setting start now then p es lane error f open_ means n told (rest n) r

-- a count of faults never falls
faults_rise : (error : Error) (old new : SourceView) → receive.HasCause error old new → old.faults ≤ new.faults
faults_rise (Error.InputOutput IoKind.Fault) old new h = rises old.faults new.faults h
faults_rise other old new h = h

-- a read's error moves the count
error_moves : (error : Error) (old new : SourceView) → receive.HasCause error old new → SourceMoves Words.Read None (Answer.Closed error) old.faults new.faults
error_moves (Error.InputOutput IoKind.Fault) old new h = h
error_moves other old new h = h

-- what a read did to it, by what the peer keeps
pub moves_by : (p q : PeerStateView) (closed : Option Error) (a : Answer) (faults faults' : ℕ) → p ≡ q → p.core.calls.closing ≡ closed → SourceMoves Words.Read closed a faults faults'
    → SourceMoves Words.Read q.core.calls.closing a faults faults'
moves_by p q closed a faults faults' same e x =
    subst (λ (v : PeerStateView). SourceMoves Words.Read v.core.calls.closing a faults faults') same (subst (λ o. SourceMoves Words.Read o a faults faults') (sym e) x)

-- what was found moves it
pub found_moves : (lane seq : ℕ) (found : Result Received Error) (old new : SourceView) → sinks.Takes seq found old new → SourceMoves Words.Read None (read_entry lane found).answer old.faults new.faults
found_moves lane seq (Ok (Received.Message m)) old new takes = takes.1.2
found_moves lane seq (Ok (Received.Passed bytes)) old new takes = takes.1.2
found_moves lane seq (Err error) old new takes = error_moves error old new takes.1

pub found_rise : (seq : ℕ) (found : Result Received Error) (old new : SourceView) → sinks.Takes seq found old new → old.faults ≤ new.faults
found_rise seq (Ok got) old new takes = takes.1.2
found_rise seq (Err error) old new takes = faults_rise error old new takes.1

-- one that took nothing leaves it
pub refused_moves : (closing : Option Error) (faults : ℕ) → SourceMoves Words.Read closing (read_answer closing) faults faults
refused_moves None faults = refl
refused_moves (Some error) faults = refl

-- it is what a read may find
pub is_found : (count : ℕ) (found : Result Received Error) (old new : SourceView) → sinks.Takes (count + 1) found old new → (count + 1 ≡ 2 ^ 64 - 1 → found ≡ Err (Error.InputOutput IoKind.Ended)) → count ≤ 2 ^ 64 - 2
    → IsFound count found
is_found count (Ok (Received.Message m)) old new takes last within =
    let below : count + 1 ≢ 2 ^ 64 - 1 = λ e. let z = last e in cc in
    (takes.0.0, takes.0.1, omega (arith, below, within))
is_found count (Ok (Received.Passed bytes)) old new takes last within =
    let below : count + 1 ≢ 2 ^ 64 - 1 = λ e. let z = last e in cc in
    (takes.0, omega (arith, below, within))
is_found count (Err error) old new takes last within = takes.0

-- ---- the entry of a read

pub read_is_quiet : (lane : ℕ) (found : Result Received Error) → let e = read_entry lane found in e ≡ quiet lane Words.Read e.answer e.read
read_is_quiet lane (Ok (Received.Message m)) = refl
read_is_quiet lane (Ok (Received.Passed bytes)) = refl
read_is_quiet lane (Err error) = refl

-- what holds of the entry that was found holds of what is answered
pub found_so : {R : Type 0} (P Q : Entry → Type 0) (N : Type 0) (x : Entry) (r : Result Entry R) → IfOk r (λ e. e ≡ x) → IfOk r (λ e. N) → IfOk r Q → (N → Q x → P x) → IfOk r P
found_so P Q N x (Err e) is n q so = tt
found_so P Q N x (Ok e) is n q so = subst P (sym is) (so n (subst Q is q))
