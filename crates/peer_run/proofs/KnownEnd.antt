-- No peer of a history is closed by a handle that isn't known.
use Rattle.std.proofs.Common.{◌≡◌, inl, inr, sym, ◌∙◌, Bool, true, false, if◌then◌else◌, List, [], ◌∷◌, ℕ, Option, Some, None}
use Rattle.std.specs.List.{AllByRecursion}
use Rattle.peer_run.specs.Names.{MessageView, IsReadError, Error, Answer, Entry, Words}
use Rattle.peer_route.specs.{Replay.{Setting, Replay}, Plan.{plan, Says, Sends, Reads, Serves, Dispatches, Closes, Writes, Never, Plan}, Entries.{IsMeant, is_refused, IsRead, Legal, replay, deeds, read_events, first_past}}
use Rattle.peer_core.specs.History.{Event, PeerClosed, Past, after}
use Rattle.wire_message.specs.Plain.{first_of}
use Rattle.peer_route.proofs.{Plans.{AreDeeds, along_entry, IsFair, fair, are_deeds}, Kept.put_events_are}

abbrev Ends : Event → Type 0
Ends (PeerClosed error) = error ≡ Error.UnknownHandle → ⊥
Ends e = Unit {0}

abbrev IsKnown : Past → Type 0
IsKnown h = h.closing ≡ Some Error.UnknownHandle → ⊥

keeps_known : (e : Event) (h : Past) → Ends e → IsKnown h → IsKnown (after e h)
keeps_known (PeerClosed error) h ends known = by h.closing known
  where
    by : (shut : Option Error) → (shut ≡ Some Error.UnknownHandle → ⊥) → first_of shut error ≡ Some Error.UnknownHandle → ⊥
    by None known e = ends (cc)
    by (Some earlier) known e = known e
keeps_known e h ends known = known

deeds_end : (es : List Event) → AreDeeds es → AllByRecursion Ends es
deeds_end [] a = tt
deeds_end (PeerClosed error ∷ es) a = absurd a.0
deeds_end (e ∷ es) a = (tt, deeds_end es a.1)

unless_ends : (b : Bool) (es : List Event) → AllByRecursion Ends es → AllByRecursion Ends (if b then [] else es)
unless_ends true es all = tt
unless_ends false es all = all

not_read : (error : Error) → IsReadError error → error ≡ Error.UnknownHandle → ⊥
not_read Error.UnknownHandle is e = is
not_read error is e = cc

read_ends : (n : ℕ) (m : Option MessageView) (a : Answer) → IsRead n m a → AllByRecursion Ends (read_events m a)
read_ends n (Some m) a is = (tt, tt)
read_ends n None (Answer.Closed error) (inl (e, is, read)) = (let same : error ≡ e = cc in λ unknown. not_read e read (sym same ∙ unknown), tt)
read_ends n None (Answer.Closed error) (inr (bytes, is, front, few)) = cc
read_ends n None (Answer.Passed bytes) is = (tt, tt)
read_ends n None a is = tt

plan_ends : (t : Replay) (w : Words) (pl : Plan) (e : Entry) → IsFair t w pl → IsMeant t.past pl e → AllByRecursion Ends (deeds pl e)
plan_ends t w (Says answer done) e f is = deeds_end done (are_deeds w done f.only)
plan_ends t w (Sends done ds sent) e f is = deeds_end done (are_deeds w done f.0.only)
plan_ends t w Reads e f is = read_ends _ e.read e.answer is.0
plan_ends t w (Dispatches k m) e f is = (tt, tt)
plan_ends t w (Serves said done) e f is = unless_ends (is_refused e.answer) done (deeds_end done (are_deeds w done f.only))
plan_ends t w Closes e f is = ((λ e. cc), tt)
plan_ends t w (Writes true) e f is = (tt, tt)
plan_ends t w (Writes false) e f is = (tt, tt)
plan_ends t w Never e f is = tt

first_known : (setting : Setting) → IsKnown (first_past setting)
first_known setting = by setting.name setting.bus setting.queue
  where
    by : (name : Option (List ℕ)) (bus : Bool) (queue : Option ℕ) → (first_past (record { bus = bus; name = name; takes_fds = false; queue = queue })).closing ≡ Some Error.UnknownHandle → ⊥
    by None false None e = cc
    by None false (Some n) e = cc
    by None true None e = cc
    by None true (Some n) e = cc
    by (Some name) false None e = cc
    by (Some name) false (Some n) e = cc
    by (Some name) true None e = cc
    by (Some name) true (Some n) e = cc

pub closed_known : (setting : Setting) (es : List Entry) → Legal setting es → (replay setting es).past.closing ≡ Some Error.UnknownHandle → ⊥
closed_known setting [] legal = first_known setting
closed_known setting (e ∷ es) legal =
    let t = replay setting es in
    let pl = plan t e.lane e.words in
    along_entry IsKnown Ends keeps_known pl e t.past (plan_ends t e.words pl e (fair t e.lane e.words) legal.0) (put_events_are Ends (λ m purpose. tt) pl e) tt tt (closed_known setting es legal.1)
