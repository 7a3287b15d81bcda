-- What commands do that send nothing.
use Rattle.peer_core.specs.{History.{streams_of, Event, Made, Past, after, after_all}, Asked.{all_given, is_open, ask_answer, ask_events, take_answer, take_events}, Refinement.Refines}
use Rattle.peer_streams.specs.Streams.{runs, held, take_by, ask_answer as streams_ask_answer, take_answer as streams_take_answer, is_open as streams_is_open}
use Rattle.peer_streams.proofs.Looks.{take_at}
use Rattle.peer_conn.specs.Handles.{HasHandles}
use Rattle.peer_conn.proofs.Held.{MayMake, held_still, held_stills, held_made, take_held}
use Rattle.std.proofs.{Common.{if◌then◌else◌, ◌≡◌, ◌≢◌, ℕ, refl, sym, ◌∙◌, ap, subst, Bool, true, false, List, [], ◌∷◌, ◌++◌, length, Option, Some, None, Result, Ok, Err, IfOk, OnOk, slice_get}, lemmas.List.append-nil}
use Rattle.std.specs.{List.AllByRecursion, Option.{option_map, unwrap_or}}
use Rattle.peer_conn.specs.{Names.{MessageView, Error, Polled, Answer, Acted, StreamOp, Makes, StreamHandle}, Invariant.{PeerStateView, Keeps, StateInvariant, Owns, Did, Answers, plain, given_after}}
use Rattle.peer_streams.specs.{History.{StreamOrigin, Cloned, Stream}, Refinement.ClonesBy}
use Rattle.wire_message.specs.Polls.{by_position}
use Rattle.peer_route.specs.{Replay.{Replay, count, made_owners}, Answers.answer_of_take, Plan.{Plan, Says, where_open, on_stream}}
use Rattle.peer_route.proofs.Given.{GivesNone, all_left_given, given_all, given_taken}
use Rattle.peer_core.specs.History as events
use Rattle.peer_streams.specs.History as streams_events
use Rattle.peer_route.specs.Plan as plans
use Rattle.peer_route.proofs.Given as gives

-- nothing is made
pub nothing_made : (lane : ℕ) (es : List Event) → made_owners (Some lane) es ≡ [] → Owns lane Makes.Nothing [] [] es
nothing_made lane es e failed = (refl, sym (append-nil (made_owners (Some lane) es) ∙ e))

-- deeds by which no stream gives anything
pub keeps_along : (w : PeerStateView) (gs : List (Option MessageView)) (h : Past) (es : List Event) → gs ≡ all_given h → AllByRecursion GivesNone es → HasHandles (after_all es h) w.handles → Refines w.core (after_all es h) → w.given ≡ all_left_given es gs
    → Keeps w (after_all es h)
keeps_along w gs h es is none held left e = record { left = left; held = held; given = e ∙ ap (all_left_given es) is ∙ sym (given_all es h none) }

-- lanes hold the same of the streams
held_same : (w : PeerStateView) (hs : List StreamHandle) (h : Past) → w.handles ≡ hs → HasHandles h hs → HasHandles h w.handles
held_same w hs h e held = subst (HasHandles h) (sym e) held

-- ---- a capacity

abbrev pub set_shown : Result (Unit {0}) Error → Answer
set_shown (Ok done) = Answer.Set
set_shown (Err error) = Answer.Refused error

pub queue_did : (v w : PeerStateView) (t : Replay) (lane k limit : ℕ) (r : Result (Unit {0}) Error) → StateInvariant v t → w.handles ≡ v.handles → w.given ≡ v.given → r ≡ ask_answer t.past k → Refines w.core (after_all (ask_events k limit r) t.past)
    → Did w t lane (on_stream t lane (StreamOp.Queue limit) k) (plain (set_shown r))
unfolding streams_ask_answer
queue_did v w t lane k limit r s same e is left = by (is_open t.past k) r is left
  where
    by : (b : Bool) (r : Result (Unit {0}) Error) → r ≡ (if b then Ok tt else Err Error.UnknownHandle) → Refines w.core (after_all (ask_events k limit r) t.past)
        → Did w t lane (where_open b (Says Answer.Set (events.Did k (streams_events.Asked limit) ∷ []))) (plain (set_shown r))
    by true (Ok done) is left = (refl, keeps_along w v.given t.past (events.Did k (streams_events.Asked limit) ∷ []) s.keeps.given (tt, tt) (held_same w v.handles (after (events.Did k (streams_events.Asked limit)) t.past) same (held_still (events.Did k (streams_events.Asked limit)) t.past v.handles tt s.keeps.held)) left e, nothing_made lane (events.Did k (streams_events.Asked limit) ∷ []) refl)
    by true (Err error) is left = cc
    by false (Ok done) is left = cc
    by false (Err error) is left = let unknown : error ≡ Error.UnknownHandle = cc in (ap Answer.Refused unknown, keeps_along w v.given t.past [] s.keeps.given tt (held_same w v.handles t.past same s.keeps.held) left e, nothing_made lane [] refl)

-- ---- a stream that is open at once

pub makes_did : {E : Type 0} (v w : PeerStateView) (t : Replay) (lane : ℕ) (making : StreamOrigin) (stream : ℕ) (r : Result Acted E) → StateInvariant v t → MayMake t.past making → stream ≡ length t.past.streams → Refines w.core (after (Made making) t.past)
    → OnOk r (w.handles ≡ v.handles ++ StreamHandle.Open stream ∷ []) → OnOk r (w.given ≡ v.given ++ None ∷ [])
    → IfOk r (λ a. a ≡ record { answer = Answer.Streaming (count lane v.streams); makes = Makes.Stream }) → IfOk r (Did w t lane (plans.makes t lane making))
makes_did v w t lane making stream (Err error) s may number left held given is = tt
makes_did v w t lane making stream (Ok a) s may number left held given is =
    subst (λ a. Did w t lane (plans.makes t lane making) a) (sym is)
    (ap (λ ns. Answer.Streaming (count lane ns)) s.streams, keeps_along w v.given t.past (Made making ∷ []) s.keeps.given (tt, tt) (held_same w (v.handles ++ StreamHandle.Open stream ∷ []) (after (Made making) t.past) held (held_made t.past v.handles making stream may number s.keeps.held)) left given, λ failed. (refl, refl))

-- ---- a take

take_makes : (lane k : ℕ) (r : Result (Polled MessageView) Error) → made_owners (Some lane) (take_events k r) ≡ []
take_makes lane k (Ok Polled.Ended) = refl
take_makes lane k r = refl

same_given : (k : ℕ) (r : Result (Polled MessageView) Error) (gs : List (Option MessageView)) → given_after k r gs ≡ gives.given_after k r gs
same_given k (Ok Polled.Ended) gs = refl
same_given k r gs = refl

-- it takes and gives the same by position
by_position_same : (k : ℕ) (r : Result (Polled MessageView) Error) (gs : List (Option MessageView)) → (take_events k (by_position r) ≡ take_events k r) × (given_after k (by_position r) gs ≡ given_after k r gs)
by_position_same k (Ok Polled.Ended) gs = (refl, refl)
by_position_same k r gs = (refl, refl)

took : (v w : PeerStateView) (t : Replay) (lane k : ℕ) (r : Result (Polled MessageView) Error) (a : Answer) → StateInvariant v t → w.handles ≡ v.handles → take_events k r ≡ take_events k (take_answer t.past k)
    → given_after k r v.given ≡ given_after k (take_answer t.past k) v.given → Refines w.core (after_all (take_events k r) t.past) → w.given ≡ given_after k r v.given
    → Did w t lane (Says a (take_events k (take_answer t.past k))) (plain a)
took v w t lane k r a s same e g left given =
    let x = take_answer t.past k in (
      refl,
      record {
        left = subst (λ es. Refines w.core (after_all es t.past)) e left;
        held = held_same w v.handles (after_all (take_events k x) t.past) same (held_stills (take_events k x) t.past v.handles (take_held k x) s.keeps.held);
        given = given ∙ g ∙ same_given k x v.given ∙ ap (gives.given_after k x) s.keeps.given ∙ sym (given_taken t.past k);
      },
      nothing_made lane (take_events k x) (take_makes lane k x),
    )

pub take_did : (v w : PeerStateView) (t : Replay) (lane k : ℕ) (r : Result (Polled MessageView) Error) → StateInvariant v t → w.handles ≡ v.handles → r ≡ take_answer t.past k → Refines w.core (after_all (take_events k r) t.past) → w.given ≡ given_after k r v.given
    → Did w t lane (on_stream t lane StreamOp.Take k) (plain (answer_of_take r))
take_did v w t lane k r s same is left given =
    subst (λ x. Did w t lane (on_stream t lane StreamOp.Take k) (plain (answer_of_take x))) (sym is)
    (took v w t lane k r (answer_of_take (take_answer t.past k)) s same (ap (take_events k) is) (ap (λ x. given_after k x v.given) is) left given)

pub take_before_did : (v w : PeerStateView) (t : Replay) (lane k before : ℕ) (r : Result (Polled MessageView) Error) → StateInvariant v t → w.handles ≡ v.handles → r ≡ by_position (take_answer t.past k) → Refines w.core (after_all (take_events k r) t.past)
    → w.given ≡ given_after k r v.given → Did w t lane (on_stream t lane (StreamOp.TakeBefore before) k) (plain (answer_of_take r))
take_before_did v w t lane k before r s handles is left given =
    let same = by_position_same k (take_answer t.past k) v.given in
    subst (λ x. Did w t lane (on_stream t lane (StreamOp.TakeBefore before) k) (plain (answer_of_take x))) (sym is)
    (took v w t lane k r (answer_of_take (by_position (take_answer t.past k))) s handles (ap (take_events k) is ∙ same.0) (ap (λ x. given_after k x v.given) is ∙ same.1) left given)

-- ---- a refusal

-- nothing was done
pub kept_still : (v w : PeerStateView) (t : Replay) → StateInvariant v t → w.core ≡ v.core → w.handles ≡ v.handles → w.given ≡ v.given → Keeps w t.past
kept_still v w t s core same given = record { left = subst (λ c. Refines c t.past) (sym core) s.keeps.left; held = held_same w v.handles t.past same s.keeps.held; given = given ∙ s.keeps.given }

pub nothing_did : (w : PeerStateView) (t : Replay) (lane : ℕ) (answer : Answer) → Keeps w t.past → Did w t lane (Says answer []) (plain answer)
nothing_did w t lane answer keeps = (refl, keeps, nothing_made lane [] refl)

-- it is answered by an error
pub answers_did : {E : Type 0} (f : Error → Answer) (w : PeerStateView) (t : Replay) (lane : ℕ) (pl : Plan) (error : Error) (r : Result Acted E) → Answers f error r
    → (error ≢ Error.Memory → Did w t lane pl (plain (f error))) → IfOk r (Did w t lane pl)
answers_did f w t lane pl error (Err e) is did = tt
answers_did f w t lane pl Error.Memory (Ok a) is did = absurd is
answers_did f w t lane pl error (Ok a) is did = subst (Did w t lane pl) (sym is) (did (λ e. cc))

pub uncloned_did : (v w : PeerStateView) (t : Replay) (lane k : ℕ) (error : Error) → StateInvariant v t → w.handles ≡ v.handles → w.given ≡ v.given → ClonesBy (Refines w.core (after (Made (Cloned k)) t.past)) v.core w.core k (streams_of t.past) (Err error) → error ≢ Error.Memory
    → Did w t lane (on_stream t lane StreamOp.Clone k) (plain (Answer.Refused error))
uncloned_did v w t lane k Error.UnknownHandle s same given c never =
    subst (λ b. Did w t lane (where_open b (plans.makes t lane (Cloned k))) (plain (Answer.Refused Error.UnknownHandle))) (sym c.0)
    (nothing_did w t lane (Answer.Refused Error.UnknownHandle) (kept_still v w t s c.1 same given))
uncloned_did v w t lane k Error.Memory s same given c never = absurd (never refl)
uncloned_did v w t lane k error s same given c never = absurd c

-- ---- of a stream that isn't open nothing is asked

pub closed_did : (w : PeerStateView) (t : Replay) (lane k : ℕ) (pl : Plan) → is_open t.past k ≡ false → Keeps w t.past → Did w t lane (where_open (is_open t.past k) pl) (plain (Answer.Refused Error.UnknownHandle))
closed_did w t lane k pl closed keeps =
    subst (λ b. Did w t lane (where_open b pl) (plain (Answer.Refused Error.UnknownHandle))) (sym closed) (nothing_did w t lane (Answer.Refused Error.UnknownHandle) keeps)

closed_by : (h : Past) (o : Option Stream) → unwrap_or (option_map (runs h.read) o) false ≡ false → take_at h.read h.closing o ≡ Err Error.UnknownHandle
closed_by h None e = refl
closed_by h (Some s) e = ap (λ b. if b then Ok (take_by (held h.read s) h.closing s.closing_delivered) else Err Error.UnknownHandle) e

closed_take : (h : Past) (k : ℕ) → is_open h k ≡ false → take_answer h k ≡ Err Error.UnknownHandle
unfolding streams_take_answer streams_is_open
closed_take h k e = closed_by h (slice_get h.streams k) e

pub untaken_did : (w : PeerStateView) (t : Replay) (lane k : ℕ) → is_open t.past k ≡ false → Keeps w t.past → Did w t lane (on_stream t lane StreamOp.Take k) (plain (Answer.Refused Error.UnknownHandle))
untaken_did w t lane k closed keeps =
    subst (λ r. Did w t lane (Says (answer_of_take r) (take_events k r)) (plain (Answer.Refused Error.UnknownHandle))) (sym (closed_take t.past k closed)) (nothing_did w t lane (Answer.Refused Error.UnknownHandle) keeps)

pub untaken_before_did : (w : PeerStateView) (t : Replay) (lane k before : ℕ) → is_open t.past k ≡ false → Keeps w t.past → Did w t lane (on_stream t lane (StreamOp.TakeBefore before) k) (plain (Answer.Refused Error.UnknownHandle))
untaken_before_did w t lane k before closed keeps =
    subst (λ r. Did w t lane (Says (answer_of_take (by_position r)) (take_events k r)) (plain (Answer.Refused Error.UnknownHandle))) (sym (closed_take t.past k closed)) (nothing_did w t lane (Answer.Refused Error.UnknownHandle) keeps)
