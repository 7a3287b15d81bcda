-- What entries are answered goes with what they do: a serial that is told is that of the last message, that there is none before is said by
-- position alone, and a refusal or a wait leaves all as it was. And the peer's name stays.
use Rattle.peer_core.specs.{History.{calls_of, Event, Named, Did, Past, after, after_all}, BusCall.last_of, Issuing.issued}
use Rattle.std.proofs.Common.{is_none, inl, inr, ◌⊎◌, ◌≡◌, ℕ, refl, sym, ◌∙◌, ap, subst, Bool, true, false, if◌then◌else◌, List, [], ◌∷◌, Option, Some, None, Result, Ok, Err, ◌++◌, length, map}
use Rattle.std.specs.List.{AllByRecursion}
use Rattle.peer_route.specs.{Names.{MessageView, Error, Words, Answer, Entry, Live}, Replay.{Setting, Replay}, Plan.{Plan, Says, Sends, Reads, Serves, Dispatches, Closes, Writes, Never, no_call, call_answer, plan}, Entries.{IsMeant, IsQuiet, IsServed, unless_refused, IsDispatched, object_postings, gave_next, IsSending, IsRead, IsClose, IsAtOnce, Legal, replay, write_fault, unsent, deeds, past_after, first_past, is_refused, is_of_objects, server_after}, Laws.{IsNothingYet, told_serial, is_by_position}, StreamLaws.{does_beside, stays_open}}
use Rattle.wire_message.specs.{Plain.first_of, Outgoing.expects_reply}
use Rattle.peer_streams.specs.History.{Gave}
use Rattle.peer_calls.specs.Issuing.{Posting}
use Rattle.peer_words.specs.OfRun.{IsOfRun}
use Rattle.peer_route.proofs.{Plans.{IsDeed, Gives, takes, is_live, is_idle, place_of, fits, IsBland, FairSends, FairServes, FairDispatches, IsFair, fair}, Kept.{since, Keeps, entry_keeps, deeds_by, of_run, Idles, quiet_past, idle_more}, Objects.unwanted, Sent.{put_drew, drew}}
use Rattle.peer_calls.proofs.Refusing.{refusal_known}

-- ---- answers

-- where it tells a serial, no write failed, and it is that of the last message
abbrev Tells : Entry → Type 0
Tells e = (serial : ℕ) → told_serial e.answer ≡ Some serial → (e.failed ≡ false) × (last_of (map (λ (m : MessageView). m.serial) e.put) ≡ Some serial)

-- how an entry's answer goes with what it does
record Speaks (t : Replay) (w : Words) (pl : Plan) (e : Entry) : Type 0 where
  fit : fits (is_by_position w) (place_of e.answer) ≡ true
  tells : Tells e
  idle : is_idle e.answer ≡ true → (does_beside w ≡ true → stays_open e.answer ≡ true) → Idles t pl e

untold : (e : Entry) → told_serial e.answer ≡ None → Tells e
untold e none serial told = cc

bland : (t : Replay) (w : Words) (pl : Plan) (e : Entry) (a : Answer) → IsBland a → e.answer ≡ a → Speaks t w pl e
bland t w pl e a is at = record {
  fit = ap (λ x. fits (is_by_position w) (place_of x)) at ∙ ap (fits (is_by_position w)) is.2;
  tells = untold e (ap told_serial at ∙ is.1);
  idle = λ idle. let loud : is_idle e.answer ≡ false = ap is_idle at ∙ is.0 in cc;
}

-- what is answered where messages can't be put
unsent_said : (error : Error) → (told_serial (unsent error) ≡ None) × (place_of (unsent error) ≡ None)
unsent_said (Error.InputOutput kind) = (refl, refl)
unsent_said error = (refl, refl)

-- streams that are closed neither stay open nor wait
not_open : (error : Error) → (error ≡ Error.UnknownHandle → ⊥) → stays_open (unsent error) ≡ true → ⊥
not_open Error.UnknownHandle known e = known refl
not_open (Error.InputOutput kind) known e = cc
not_open error known e = cc

sending : (t : Replay) (w : Words) (pl : Plan) (done : List Event) (ds : List Posting) (sent : List ℕ → Answer) (e : Entry) (r : Result (List ℕ) Error) → deeds pl e ≡ done → server_after pl e.answer (length t.streams) t.server ≡ t.server
    → FairSends t w done ds sent → issued (after_all done t.past) ds ≡ r → IsSending r ds sent e → Speaks t w pl e
sending t w pl done ds sent e (Err error) does server f at is = record {
  fit = ap (λ x. fits (is_by_position w) (place_of x)) is.0 ∙ ap (fits (is_by_position w)) (unsent_said error).1;
  tells = untold e (ap told_serial is.0 ∙ (unsent_said error).0);
  idle = λ idle open_. (is.1, does ∙ by (does_beside w) refl open_, server);
}
  where
    by : (b : Bool) → does_beside w ≡ b → (does_beside w ≡ true → stays_open e.answer ≡ true) → done ≡ []
    by false q open_ = f.idle q
    by true q open_ = absurd (not_open error (λ unknown. refusal_known (calls_of (after_all done t.past)) ds Error.UnknownHandle (at ∙ ap Err unknown)) (sym (ap stays_open is.0) ∙ open_ q))
sending t w pl done ds sent e (Ok serials) does server f at is = by_fault e.failed refl is.answer
  where
    -- a serial that is told is the last
    last_told : (n : ℕ) → told_serial (sent serials) ≡ Some n → ((told_serial (sent serials) ≡ None) ⊎ (told_serial (sent serials) ≡ last_of serials)) → last_of serials ≡ Some n
    last_told n told (inl none) = let q : None ≡ Some n = sym none ∙ told in cc
    last_told n told (inr last) = sym last ∙ told

    by_fault : (b : Bool) → e.failed ≡ b → e.answer ≡ (if b then write_fault else sent serials) → Speaks t w pl e
    by_fault true failed a = bland t w pl e write_fault (refl, refl, refl) a
    by_fault false fine a =
        let loud : is_idle e.answer ≡ false = ap is_idle a ∙ (f.loud serials).0 in
        let drawn_so = put_drew (after_all done t.past) ds serials at in
        record {
          fit = ap (λ x. fits (is_by_position w) (place_of x)) a ∙ ap (fits (is_by_position w)) (f.loud serials).1;
          tells = λ n told. (
            fine,
            ap (λ ms. last_of (map (λ (m : MessageView). m.serial) ms)) is.put ∙ ap last_of (drew ds (after_all done t.past) serials drawn_so)
                ∙ last_told n (sym (ap told_serial a) ∙ told) (f.told serials drawn_so),
          );
          idle = λ idle. cc;
        }

-- what may be said of objects tells no serial, fits every command, and says that nothing is done only where it refuses the command
of_objects : (a : Answer) → is_of_objects a ≡ true → (told_serial a ≡ None) × (place_of a ≡ None) × (is_idle a ≡ true → is_refused a ≡ true)
of_objects Answer.Added is = (refl, refl, λ idle. idle)
of_objects Answer.Exists is = (refl, refl, λ idle. idle)
of_objects (Answer.Removed destroyed) is = (refl, refl, λ idle. idle)
of_objects (Answer.Slot slot) is = (refl, refl, λ idle. idle)
of_objects (Answer.Refused error) is = (refl, refl, λ idle. idle)
of_objects a is = cc

-- and so does what is said where there is no call, but that the command asks for no position
no_call_said : (closing : Option Error) → (told_serial (no_call closing) ≡ None) × (fits false (place_of (no_call closing)) ≡ true) × (is_idle (no_call closing) ≡ false)
no_call_said None = (refl, refl, refl)
no_call_said (Some error) = (refl, refl, refl)

-- a refused command makes no stream for the object server
unserved : (said : Option Answer) (done : List Event) (a : Answer) (streams : ℕ) (server : Option ℕ) → is_refused a ≡ true → server_after (Serves said done) a streams server ≡ server
unserved said done a streams None refused = ap (λ b. if b then None else Some streams) refused
unserved said done a streams (Some k) refused = refl

-- what a call's answer says tells no serial, and fits every command
call_said : (b : Bool) (position : ℕ) → let a = if b then Answer.Served position else Answer.Silent position in (told_serial a ≡ None) × (is_idle a ≡ false) × (place_of a ≡ None)
call_said true position = (refl, refl, refl)
call_said false position = (refl, refl, refl)

-- what is answered where messages can't be put says that nothing is done only where it refuses the command
unsent_idle : (error : Error) → is_idle (unsent error) ≡ true → is_refused (unsent error) ≡ true
unsent_idle (Error.InputOutput kind) idle = cc
unsent_idle error idle = refl

-- an entry whose command asks whoever keeps the objects
asking : (t : Replay) (w : Words) (done : List Event) (e : Entry) → IsServed t.past None done e → Speaks t w (Serves None done) e
asking t w done e is = by (issued (after_all (unless_refused is.answer done) t.past) (object_postings false t.past.name is.messages)) is.delivers
  where
    idles : IsQuiet e → is_refused e.answer ≡ true → Idles t (Serves None done) e
    idles quiet refused = (quiet, ap (λ b. if b then [] else done) refused, unserved None done e.answer (length t.streams) t.server refused)

    as_said : e.answer ≡ is.answer → Speaks t w (Serves None done) e
    as_said at =
        let said = of_objects is.answer is.may.0 in
        let none = λ (refused : is_refused is.answer ≡ true). unwanted false (after_all (unless_refused is.answer done) t.past) t.past.name is.messages is.answer e (is.may.1 refused) is.delivers in
        record {
          fit = ap (λ x. fits (is_by_position w) (place_of x)) at ∙ ap (fits (is_by_position w)) said.1;
          tells = untold e (ap told_serial at ∙ said.0);
          idle = λ idle open_. let refused = said.2 (ap is_idle (sym at) ∙ idle) in idles (none refused).0 (ap is_refused at ∙ refused);
        }

    by_fault : (failed : Bool) → e.answer ≡ (if failed then write_fault else is.answer) → Speaks t w (Serves None done) e
    by_fault true a = bland t w (Serves None done) e write_fault (refl, refl, refl) a
    by_fault false a = as_said a

    by : (r : Result (List ℕ) Error) → IsSending r (object_postings false t.past.name is.messages) (λ serials. is.answer) e → Speaks t w (Serves None done) e
    by (Ok serials) put = by_fault e.failed put.answer
    by (Err error) none = record {
      fit = ap (λ x. fits (is_by_position w) (place_of x)) none.0 ∙ ap (fits (is_by_position w)) (unsent_said error).1;
      tells = untold e (ap told_serial none.0 ∙ (unsent_said error).0);
      idle = λ idle open_. idles none.1 (ap is_refused none.0 ∙ unsent_idle error (ap is_idle (sym none.0) ∙ idle));
    }

-- or says that there is no call
serving : (t : Replay) (w : Words) (said : Option Answer) (done : List Event) (e : Entry) → FairServes t w said done → IsServed t.past said done e → Speaks t w (Serves said done) e
serving t w None done e f is = asking t w done e is
serving t w (Some a) done e f is =
    let at = (unwanted false (after_all (unless_refused is.answer done) t.past) t.past.name is.messages is.answer e is.may.1 is.delivers).1 ∙ is.may.0 ∙ f.uncalled in
    let said = no_call_said t.past.closing in
    record {
      fit = ap (λ x. fits (is_by_position x) (place_of e.answer)) f.asked.1 ∙ ap (λ x. fits false (place_of x)) at ∙ said.1;
      tells = untold e (ap told_serial at ∙ said.0);
      idle = λ idle open_. let loud : is_idle e.answer ≡ false = ap is_idle at ∙ said.2 in cc;
    }

-- an entry whose command takes a call
dispatching : (t : Replay) (w : Words) (k : ℕ) (m : MessageView) (e : Entry) → FairDispatches t w k m → IsDispatched (gave_next k t.past) m e → Speaks t w (Dispatches k m) e
dispatching t w k m e f is =
    let ds = object_postings true t.past.name is.0 in
    let said = call_said (expects_reply m.kind m.flags) m.position in
    sending t w (Dispatches k m) (Did k Gave ∷ []) ds (λ serials. call_answer m) e _ refl refl (record {
      only = ((tt, ap takes f.asked), tt);
      idle = λ beside. let q : true ≡ false = sym (ap does_beside f.asked) ∙ beside in cc;
      loud = λ serials. (said.1, said.2);
      told = λ serials drew. inl said.0;
    }) refl is.2

speaks : (t : Replay) (w : Words) (pl : Plan) (e : Entry) → IsFair t w pl → IsMeant t.past pl e → Speaks t w pl e
speaks t w (Says answer done) e f is = record {
  fit = ap (λ x. fits (is_by_position w) (place_of x)) is.1 ∙ f.fit;
  tells = untold e (ap told_serial is.1 ∙ f.untold);
  idle = λ idle open_. (is.2, f.idle (ap is_idle (sym is.1) ∙ idle), refl);
}
speaks t w (Sends done ds sent) e f is = sending t w (Sends done ds sent) done ds sent e _ refl refl f.0 refl is.1
speaks t w Reads e f is = by_read e.read is.0
  where
    by_read : (m : Option MessageView) → IsRead (length t.past.read) m e.answer → Speaks t w Reads e
    by_read (Some m) is = bland t w Reads e _ (refl, refl, refl) is.0
    by_read None (inl is) = bland t w Reads e _ (refl, refl, refl) is.1
    by_read None (inr is) = bland t w Reads e _ (refl, refl, refl) is.1
speaks t w (Serves said done) e f is = serving t w said done e f is.1
speaks t w (Dispatches k m) e f is = dispatching t w k m e f is.1
speaks t w Closes e f is = by_close is.1
  where
    by_close : IsClose e.answer → Speaks t w Closes e
    by_close (inl shut) = bland t w Closes e _ (refl, refl, refl) shut
    by_close (inr fault) = bland t w Closes e _ (refl, refl, refl) fault
speaks t w (Writes fails) e f is = bland t w _ e _ (refl, refl, refl) is.1
speaks t w Never e f is = absurd is

-- so it is of each entry
says : (setting : Setting) (older : List Entry) (e : Entry) → Legal setting (e ∷ older) → Speaks (replay setting older) e.words (plan (replay setting older) e.lane e.words) e
says setting older e legal = let t = replay setting older in speaks t e.words (plan t e.lane e.words) e (fair t e.lane e.words) legal.0

pub serial : (setting : Setting) (older : List Entry) (e : Entry) (serial : ℕ) → Legal setting (e ∷ older) → told_serial e.answer ≡ Some serial → IsAtOnce e
    → (last_of (map (λ (m : MessageView). m.serial) e.put) ≡ Some serial) × (e.written ≡ length e.put)
serial setting older e n legal told at_once = let tells = (says setting older e legal).tells n told in (tells.1, at_once tells.0)

-- ---- a refusal, and a wait

pub refused_changes_nothing : (setting : Setting) (older : List Entry) (e : Entry) (error : Error) → Legal setting (e ∷ older) → e.answer ≡ Answer.Refused error → (does_beside e.words ≡ true → error ≡ Error.UnknownHandle)
    → replay setting (e ∷ older) ≡ replay setting older
refused_changes_nothing setting older e error legal a known =
    let t = replay setting older in idle_more (plan t e.lane e.words) e t ((says setting older e legal).idle (ap is_idle a) (λ u. ap stays_open (a ∙ ap Answer.Refused (known u))))

pub busy_changes_nothing : (setting : Setting) (older : List Entry) (e : Entry) → Legal setting (e ∷ older) → e.answer ≡ Answer.Busy → replay setting (e ∷ older) ≡ replay setting older
busy_changes_nothing setting older e legal a = let t = replay setting older in idle_more (plan t e.lane e.words) e t ((says setting older e legal).idle (ap is_idle a) (λ u. ap stays_open a))

-- ---- by position

only_by : (by : Bool) → fits by (Some true) ≡ true → by ≡ true
only_by true e = refl
only_by false e = cc

pub only : (setting : Setting) (older : List Entry) (e : Entry) → Legal setting (e ∷ older) → e.answer ≡ Answer.NoneBefore → is_by_position e.words ≡ true
only setting older e legal a = only_by (is_by_position e.words) (ap (fits (is_by_position e.words)) (sym (ap place_of a)) ∙ (says setting older e legal).fit)

nothing_yet : (a : Answer) → IsNothingYet a → place_of a ≡ Some false
nothing_yet Answer.NotYet n = refl
nothing_yet Answer.Empty n = refl
nothing_yet a n = absurd n

pub never : (setting : Setting) (older : List Entry) (e : Entry) → Legal setting (e ∷ older) → is_by_position e.words ≡ true → IsNothingYet e.answer → ⊥
never setting older e legal by n =
    let fit : fits true (Some false) ≡ true = ap (λ b. fits b (Some false)) (sym by) ∙ ap (fits (is_by_position e.words)) (sym (nothing_yet e.answer n)) ∙ (says setting older e legal).fit in cc

-- ---- the name stays

-- it leaves the name as it was
abbrev Unnames : Event → Type 0
Unnames e = Keeps (λ h. h.name) e

-- as all do but lines of lanes that run at once
unnames : (w : Words) → is_live w ≡ false → (e : Event) → IsDeed e → Gives w e → Unnames e
unnames w run (Named name) is gives = cc
unnames w run e is gives = λ h. refl

pub start : (setting : Setting) (es : List Entry) → AllByRecursion (λ (e : Entry). IsOfRun e.words) es → (replay setting es).past.name ≡ setting.name
start setting [] all = first setting.bus setting.name setting.queue
  where
    first : (bus : Bool) (name : Option (List ℕ)) (queue : Option ℕ) → (first_past (record { bus = bus; name = name; takes_fds = false; queue = queue })).name ≡ name
    first true None None = refl
    first true None (Some limit) = refl
    first true (Some name) None = refl
    first true (Some name) (Some limit) = refl
    first false None None = refl
    first false None (Some limit) = refl
    first false (Some name) None = refl
    first false (Some name) (Some limit) = refl
start setting (e ∷ es) all =
    let t = replay setting es in
    let done = deeds_by Unnames t e.lane e e.words (unnames e.words (of_run e.words all.0)) (λ error h. refl) (λ reads. (λ m h. refl, λ bytes h. refl)) (λ line. (λ h. refl, λ h. refl)) in
    entry_keeps (λ h. h.name) (plan t e.lane e.words) e t.past done (λ m purpose h. refl) (λ h. refl) (λ h. refl) ∙ start setting es all.1

name_keeps : (name : List ℕ) (e : Event) (h : Past) → h.name ≡ Some name → (after e h).name ≡ Some name
name_keeps name (Named later) h is = ap (λ o. first_of o later) is
name_keeps name e h is = is

pub kept : (setting : Setting) (newer older : List Entry) (name : List ℕ) → (replay setting older).past.name ≡ Some name → (replay setting (newer ++ older)).past.name ≡ Some name
kept setting newer older name is = since (λ q. q.name ≡ Some name) (name_keeps name) setting newer older is

-- the line that gives a name
names : (t : Replay) (e : Entry) (name : List ℕ) (given : Option (List ℕ)) → e.words ≡ Words.Live (Live.Unique name) → t.past.name ≡ given → plan t e.lane e.words ≡ Says (Answer.Named (is_none given)) (if is_none given then Named name ∷ [] else [])
names t e name given w is = ap (plan t e.lane) w ∙ ap (λ o. Says (Answer.Named (is_none o)) (if is_none o then Named name ∷ [] else [])) is

pub given : (setting : Setting) (older : List Entry) (e : Entry) (name : List ℕ) → Legal setting (e ∷ older) → e.words ≡ Words.Live (Live.Unique name) → (replay setting older).past.name ≡ None
    → (e.answer ≡ Answer.Named true) × ((replay setting (e ∷ older)).past.name ≡ Some name)
given setting older e name legal w is =
    let t = replay setting older in
    let means = names t e name None w is in
    let meant = subst (λ pl. IsMeant t.past pl e) means legal.0 in
    (meant.1, ap (λ pl. (past_after pl e t.past).name) means ∙ ap (λ (q : Past). q.name) (quiet_past (Says (Answer.Named true) (Named name ∷ [])) e t.past meant.2) ∙ ap (λ o. first_of o name) is)

pub later : (setting : Setting) (older : List Entry) (e : Entry) (name earlier : List ℕ) → Legal setting (e ∷ older) → e.words ≡ Words.Live (Live.Unique name) → (replay setting older).past.name ≡ Some earlier
    → (e.answer ≡ Answer.Named false) × (replay setting (e ∷ older) ≡ replay setting older)
later setting older e name earlier legal w is =
    let t = replay setting older in
    let means = names t e name (Some earlier) w is in
    let meant = subst (λ pl. IsMeant t.past pl e) means legal.0 in
    (meant.1, idle_more (plan t e.lane e.words) e t (meant.2, ap (λ pl. deeds pl e) means, ap (λ pl. server_after pl e.answer (length t.streams) t.server) means))
