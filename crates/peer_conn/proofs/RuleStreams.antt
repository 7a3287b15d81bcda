-- What commands do with streams of rules: they open them, and close them.
use Rattle.peer_streams.specs.Streams.{opening_answer as streams_opening_answer}
use Rattle.std.proofs.{Common.{◌≡◌, ◌≢◌, ℕ, zero, suc, ◌+◌, ◌==◌, ◌||◌, ◌&&◌, not, is_some, if◌then◌else◌, drop, ◌-◌, refl, sym, ◌∙◌, ap, subst, arith, ◌⊎◌, inl, inr, Bool, true, false, List, [], ◌∷◌, ◌++◌, length, map, replicate, Option, Some, None, IsSome, Result, Ok, Err, IfOk}, lemmas.Option.slice_get-map, Math.Seq.drop-nil, lemmas.List.length-append, lemmas.Bool.true≢false}
use Rattle.std.specs.{List.{slice_get, slice_set}, Option.option_map}
use Rattle.peer_conn.specs.{Names.{MessageView, Error, Rule, Answer, Acted, IoKind, Spent, StreamOp, Makes, StreamHandle}, Handles.{HasHandles, open_at, without_open}, Invariant.{PeerStateView, StateInvariant, HandedIn, Did, DidSend, AreTaken, Answers, unopened_answer, plain, forgotten}}
use Rattle.peer_core.specs.{Handles.OpeningView, History.{Made, Put, Past, after, after_all, request_of}, Asked.{match_call_pending, all_given, asks_bus, is_open, are_open, close_waits, leaving, gone_events, opening_answer, opening_events}, Refinement.{RouteView, Refines}, Issuing.put_each, Bus.{OpensRule, OpensBy}, BusCall.{asking_of, tellings_of, first_of, last_of}, Unsubscribe.{ClosesStreams, MayClose}, declared.subscribe.Opens.Opens}
use Rattle.peer_streams.specs.{History.{Ruled, asking_stream, Gone, Stream, Phase, Asking, Denied, Since, phase}, Streams.{since_in, accepted, matched, offered, item_at, gave_last, opening_by, opening_at}, declared.progress.OpenState.OpenState}
use Rattle.peer_calls.specs.{History.{AddMatch, RemoveMatch, Outbox}, Issuing.{outgoings, messages_of}}
use Rattle.peer_core.specs.Issuing.{put_of, issued}
use Rattle.wire_message.specs.Outgoing.{message_of}
use Rattle.peer_route.specs.{Replay.{Replay, count, new_owners, asked_owners, made_owners}, Plan.{Says, Sends, unless_waits, on_stream, opens_new, where_open, leaves, ends}, Answers.answer_of_opening}
use Rattle.peer_core.proofs.{BusMessages.remove_match, Leavings.gone_both, Issues.put_outbox}
use Rattle.peer_streams.proofs.Matched.{accepted_nothing}
use Rattle.wire_message.proofs.Edits.{set_edit, edit-same}
use Rattle.peer_route.proofs.Given.{given_along}
use Rattle.wire_message.specs.Plain.{edit}
use Rattle.peer_conn.proofs.Held.{held_push, held_gone, held_open, held_closed, open_named, other_open, back_edit, closed_edit, if_open}
use Rattle.peer_conn.proofs.{Quietly.{nothing_made, nothing_did, kept_still, answers_did}, Posted.{carried, unput_did}}
use Rattle.peer_core.specs.History as events
use Rattle.peer_streams.specs.History as streams_events
use Rattle.peer_route.specs.Entries as entries
use Rattle.peer_route.specs.Plan as plans

-- ---- a stream is opened

-- its lane holds the opening
held_asking : (h : Past) (hs : List StreamHandle) (m : MessageView) (rule : Rule) (asked : Option ℕ) (o : OpeningView) → o.stream ≡ length h.streams → HasHandles h hs → HasHandles (after (Put m (AddMatch rule asked)) h) (hs ++ StreamHandle.Opening o ∷ [])
held_asking h hs m rule asked o e held = let here : 0 + length h.streams ≡ length h.streams = omega arith in held_push h.read 0 h.streams hs (asking_stream (request_of h m) rule) (StreamHandle.Opening o) (e ∙ sym here, refl) held

-- the bus is asked, and the stream waits
pub asking_did : (v w : PeerStateView) (t : Replay) (lane : ℕ) (rule : Rule) (asked : Option ℕ) (o : OpeningView) → StateInvariant v t → w.handles ≡ v.handles ++ StreamHandle.Opening o ∷ [] → w.given ≡ v.given ++ None ∷ [] → OpensRule v.core w.core rule asked t.past (Ok (Opens.Opening o))
    → Did w t lane (plans.opens t lane (Ok rule) asked t.past.closing) (record { answer = Answer.Opening (count lane v.streams) o.serial; makes = Makes.Opening })
asking_did v w t lane rule asked o s held given (still, idle, is) =
    let a : Acted = record { answer = Answer.Opening (count lane v.streams) o.serial; makes = Makes.Opening } in
    subst (λ shut. Did w t lane (plans.opens t lane (Ok rule) asked shut) a) (sym still)
    (subst (λ b. Did w t lane (unless_waits b (opens_new t lane rule asked (asks_bus t.past rule))) a) (sym idle) (by (asks_bus t.past rule) is))
  where
    by : (b : Bool) → OpensBy b v.core w.core rule asked t.past (Ok (Opens.Opening o)) → Did w t lane (opens_new t lane rule asked b) (record { answer = Answer.Opening (count lane v.streams) o.serial; makes = Makes.Opening })
    by false is = absurd is
    by true (serials, is, (one, number, index), left) =
        let d = asking_of t.past rule asked in
        let a : Acted = record { answer = Answer.Opening (count lane v.streams) o.serial; makes = Makes.Opening } in
        subst (DidSend w t lane [] (d ∷ []) (λ serials. Answer.Opening (count lane t.streams) (first_of serials)) a) (sym is)
        (subst (λ ns. DidSend w t lane [] (d ∷ []) (λ serials. Answer.Opening (count lane t.streams) (first_of serials)) a (Ok ns)) (sym one) (
          ap (λ ns. Answer.Opening (count lane ns) o.serial) s.streams,
          record { left = subst (λ ns. Refines w.core (put_each (d ∷ []) ns t.past)) one left; held = subst (HasHandles (after (Put (message_of d.outgoing o.serial) (AddMatch rule asked)) t.past)) (sym held) (held_asking t.past v.handles (message_of d.outgoing o.serial) rule asked o number s.keeps.held); given = given ∙ ap (λ gs. gs ++ None ∷ []) s.keeps.given ∙ sym (given_along (Put (message_of d.outgoing o.serial) (AddMatch rule asked)) t.past tt) },
          (carried d.outgoing t.setting.takes_fds o.serial (inl refl), tt),
          λ failed. (refl, refl),
        ))

-- it is open at once
pub opened_left : (v new : RouteView) (t : Replay) (rule : Rule) (asked : Option ℕ) (stream : ℕ) → OpensRule v new rule asked t.past (Ok (Opens.Open stream)) → Refines new (after (Made (Ruled rule asked)) t.past)
    × (stream ≡ length t.past.streams) × (t.past.closing ≡ None) × (match_call_pending t.past ≡ false) × (asks_bus t.past rule ≡ false)
opened_left v new t rule asked stream (still, idle, is) = by (asks_bus t.past rule) refl is
  where
    by : (b : Bool) → asks_bus t.past rule ≡ b → OpensBy b v new rule asked t.past (Ok (Opens.Open stream)) → Refines new (after (Made (Ruled rule asked)) t.past) × (stream ≡ length t.past.streams) × (t.past.closing ≡ None) × (match_call_pending t.past ≡ false) × (asks_bus t.past rule ≡ false)
    by true e (serials, is, none, left) = absurd none
    by false e is = (is.1, is.0, still, idle, e)

opens_plan : (t : Replay) (lane : ℕ) (rule : Rule) (asked : Option ℕ) → t.past.closing ≡ None → match_call_pending t.past ≡ false → plans.opens t lane (Ok rule) asked t.past.closing ≡ opens_new t lane rule asked (asks_bus t.past rule)
opens_plan t lane rule asked still idle = ap (plans.opens t lane (Ok rule) asked) still ∙ ap (λ b. unless_waits b (opens_new t lane rule asked (asks_bus t.past rule))) idle

pub opened_plan : (t : Replay) (lane : ℕ) (rule : Rule) (asked : Option ℕ) → t.past.closing ≡ None → match_call_pending t.past ≡ false → asks_bus t.past rule ≡ false → plans.opens t lane (Ok rule) asked t.past.closing ≡ plans.makes t lane (Ruled rule asked)
opened_plan t lane rule asked still idle now = opens_plan t lane rule asked still idle ∙ ap (opens_new t lane rule asked) now

-- none is opened
pub unopened_did : (v w : PeerStateView) (t : Replay) (lane : ℕ) (rule : Rule) (asked : Option ℕ) (error : Error) → StateInvariant v t → w.handles ≡ v.handles → w.given ≡ v.given → OpensRule v.core w.core rule asked t.past (Err error) → error ≢ Error.Memory
    → Did w t lane (plans.opens t lane (Ok rule) asked t.past.closing) (plain (unopened_answer error))
unopened_did v w t lane rule asked (Error.InputOutput IoKind.Closed) s held given is never = closed t.past.closing is.0
  where
    closed : (shut : Option Error) → IsSome shut → Did w t lane (plans.opens t lane (Ok rule) asked shut) (plain (Answer.Refused (Error.InputOutput IoKind.Closed)))
    closed None some = cc
    closed (Some error) some = nothing_did w t lane (Answer.Refused (Error.InputOutput IoKind.Closed)) (kept_still v w t s is.1 held given)
unopened_did v w t lane rule asked Error.Busy s held given (still, flying, same) never =
    subst (λ shut. Did w t lane (plans.opens t lane (Ok rule) asked shut) (plain Answer.Busy)) (sym still)
    (subst (λ b. Did w t lane (unless_waits b (opens_new t lane rule asked (asks_bus t.past rule))) (plain Answer.Busy)) (sym flying) (nothing_did w t lane Answer.Busy (kept_still v w t s same held given)))
unopened_did v w t lane rule asked Error.Memory s held given is never = absurd (never refl)
unopened_did v w t lane rule asked error s held given (still, idle, is) never =
    subst (λ p. Did w t lane p (plain (unopened_answer error))) (sym (opens_plan t lane rule asked still idle)) (by (asks_bus t.past rule) is)
  where
    by : (b : Bool) → OpensBy b v.core w.core rule asked t.past (Err error) → Did w t lane (opens_new t lane rule asked b) (plain (unopened_answer error))
    by false is = absurd is
    by true (refuses, same) =
        unput_did w t lane [] (asking_of t.past rule asked ∷ []) (λ serials. Answer.Opening (count lane t.streams) (first_of serials)) error refl (kept_still v w t s same held given) refuses

-- the text is no rule
pub misread_did : {E : Type 0} (v : PeerStateView) (t : Replay) (lane : ℕ) (read : Result Rule Error) (asked : Option ℕ) (error : Error) (r : Result Acted E) → StateInvariant v t → (◌≡◌ {A = Result Rule Error} (Err error) (Err Error.Memory)) ⊎ (Err error ≡ read)
    → Answers Answer.Refused error r → IfOk r (Did v t lane (plans.opens t lane read asked t.past.closing))
misread_did v t lane read asked error r s gives is = answers_did Answer.Refused v t lane (plans.opens t lane read asked t.past.closing) error r is (by gives)
  where
    by : (◌≡◌ {A = Result Rule Error} (Err error) (Err Error.Memory)) ⊎ (Err error ≡ read) → error ≢ Error.Memory → Did v t lane (plans.opens t lane read asked t.past.closing) (plain (Answer.Refused error))
    by (inl none) never = absurd (never (let same : error ≡ Error.Memory = cc in same))
    by (inr gives) never = subst (λ x. Did v t lane (plans.opens t lane x asked t.past.closing) (plain (Answer.Refused error))) gives (nothing_did v t lane (Answer.Refused error) s.keeps)

pub rule_read : (rule : Rule) (read : Result Rule Error) → (◌≡◌ {A = Result Rule Error} (Ok rule) (Err Error.Memory)) ⊎ (Ok rule ≡ read) → Ok rule ≡ read
rule_read rule read (inl none) = cc
rule_read rule read (inr e) = e

-- ---- streams are closed

-- the messages that tell the bus are the peer's own, and have no descriptors
told_taken : (h : Past) (takes : Bool) (rules : List Rule) (serials : List ℕ) → AreTaken takes (messages_of (outgoings (tellings_of h rules)) serials)
told_taken h takes [] serials = tt
told_taken h takes (rule ∷ rules) [] = tt
told_taken h takes (rule ∷ rules) (serial ∷ serials) = (carried (remove_match h.name rule) takes serial (inl refl), told_taken h takes rules serials)

told_names : (h : Past) (lane : ℕ) (failed : Bool) (rules : List Rule) (serials : List ℕ) → let ms = messages_of (outgoings (tellings_of h rules)) serials in
    (replicate (length ms) None ≡ new_owners lane failed (tellings_of h rules) ms) × (asked_owners lane failed (tellings_of h rules) ms ≡ [])
told_names h lane failed [] serials = (refl, refl)
told_names h lane failed (rule ∷ rules) [] = (refl, refl)
told_names h lane failed (rule ∷ rules) (serial ∷ serials) = let more = told_names h lane failed rules serials in (ap (λ ns. None ∷ ns) more.0, more.1)

told_given : (p : Past) (rules : List Rule) (serials : List ℕ) (h : Past) → all_given (put_each (tellings_of p rules) serials h) ≡ all_given h
told_given p [] serials h = refl
told_given p (rule ∷ rules) [] h = refl
told_given p (rule ∷ rules) (serial ∷ serials) h = told_given p rules serials (after (put_of (record { outgoing = remove_match p.name rule; purpose = RemoveMatch }) serial) h)

-- nor does a lane hold anything else
told_held : (p : Past) (rules : List Rule) (serials : List ℕ) (h : Past) (hs : List StreamHandle) → HasHandles h hs → HasHandles (put_each (tellings_of p rules) serials h) hs
told_held p [] serials h hs held = held
told_held p (rule ∷ rules) [] h hs held = held
told_held p (rule ∷ rules) (serial ∷ serials) h hs held = told_held p rules serials (after (put_of (record { outgoing = remove_match p.name rule; purpose = RemoveMatch }) serial) h) hs held

gone_given : (k : ℕ) (j : Option ℕ) (h : Past) (gs : List (Option MessageView)) → gs ≡ all_given h → forgotten k j gs ≡ all_given (gone_both k j h)
gone_given k None h gs e = ap (λ gs. slice_set gs k None) e ∙ sym (given_along (events.Did k Gone) h tt)
gone_given k (Some j) h gs e =
    ap (λ gs. slice_set (slice_set gs k None) j None) e ∙ ap (λ gs. slice_set gs j None) (sym (given_along (events.Did k Gone) h tt)) ∙ sym (given_along (events.Did j Gone) (after (events.Did k Gone) h) tt)

-- closing them makes no stream, puts nothing, and leaves the peer its name
gone_makes : (lane k : ℕ) (j : Option ℕ) → made_owners (Some lane) (gone_events k j) ≡ []
gone_makes lane k None = refl
gone_makes lane k (Some j) = refl

gone_put : (k : ℕ) (j : Option ℕ) (h : Past) → ((gone_both k j h).outbox ≡ h.outbox) × ((gone_both k j h).name ≡ h.name)
gone_put k None h = (refl, refl)
gone_put k (Some j) h = (refl, refl)

named_tellings : (g h : Past) (rules : List Rule) → g.name ≡ h.name → tellings_of g rules ≡ tellings_of h rules
named_tellings g h rules e = ap (λ name. map (λ rule. record { outgoing = remove_match name rule; purpose = RemoveMatch }) rules) e

may_end : (t : Replay) (k : ℕ) (j : Option ℕ) → MayClose t.past k j → ends t.past k (Some j) ≡ leaves t.past k j
may_end t k j (open_, ready) = ap (λ b. where_open b (unless_waits (close_waits t.past k j) (leaves t.past k j))) open_ ∙ ap (λ b. unless_waits b (leaves t.past k j)) ready

pub gone_did : (v w : PeerStateView) (t : Replay) (lane k : ℕ) (j last : Option ℕ) (own : ℕ) → StateInvariant v t → HasHandles (after_all (gone_events k j) t.past) w.handles → w.given ≡ forgotten k j v.given → own ≡ length w.core.outbox - length v.core.outbox
    → ClosesStreams v.core w.core k j t.past (Spent.Gone last) → Did w t lane (ends t.past k (Some j)) (record { answer = Answer.Gone last; makes = Makes.Own own })
gone_did v w t lane k j last own s held given count (may, (serials, is, tells, left)) =
    let h = gone_both k j t.past in
    let rules = leaving t.past k j in
    let ds = tellings_of t.past rules in
    let same : tellings_of h rules ≡ ds = named_tellings h t.past rules (gone_put k j t.past).1 in
    let a : Acted = record { answer = Answer.Gone last; makes = Makes.Own own } in
    let ms = messages_of (outgoings ds) serials in
    let after_is : Refines w.core (put_each ds serials h) = subst (λ ds. Refines w.core (put_each ds serials h)) same left in
    let put : w.core.outbox ≡ v.core.outbox ++ ms =
    after_is.outbox ∙ put_outbox ds serials h ∙ ap (λ (o : Outbox). o.put ++ ms) (gone_put k j t.past).0 ∙ ap (λ ms'. ms' ++ ms) (sym s.keeps.left.outbox) in
    let many : own ≡ length ms = omega (arith, count, ap length put, length-append v.core.outbox ms) in
    subst (λ p. Did w t lane p a) (sym (may_end t k j may))
    (subst (DidSend w t lane (gone_events k j) ds (λ serials. Answer.Gone (last_of serials)) a) (sym (ap (issued h) (sym same) ∙ is)) (
      ap Answer.Gone tells,
      record { left = after_is; held = told_held t.past rules serials h w.handles held; given = given ∙ gone_given k j t.past v.given s.keeps.given ∙ sym (told_given t.past rules serials h) },
      told_taken t.past t.setting.takes_fds rules serials,
      λ failed. let names = told_names t.past lane failed rules serials in (ap (λ n. replicate n None) many ∙ names.0, sym (ap (λ ns. ns ++ asked_owners lane failed ds ms) (gone_makes lane k j) ∙ names.1)),
    ))

-- the bus can't be told
pub over_did : (v w : PeerStateView) (t : Replay) (lane k : ℕ) (j : Option ℕ) (error : Error) → StateInvariant v t → are_open t.past k j ≡ true → HasHandles (after_all (gone_events k j) t.past) w.handles → w.given ≡ forgotten k j v.given → ClosesStreams v.core w.core k j t.past (Spent.Over error)
    → Did w t lane (ends t.past k (Some j)) (plain (entries.unsent error))
over_did v w t lane k j Error.UnknownHandle s open_ held given (closed, same) = absurd (true≢false (sym open_ ∙ closed))
over_did v w t lane k j Error.Memory s open_ held given is = absurd is
over_did v w t lane k j error s open_ held given (may, is) =
    let h = gone_both k j t.past in
    let rules = leaving t.past k j in
    subst (λ p. Did w t lane p (plain (entries.unsent error))) (sym (may_end t k j may))
    (unput_did w t lane (gone_events k j) (tellings_of t.past rules) (λ serials. Answer.Gone (last_of serials)) error (gone_makes lane k j)
    (record { left = is.1; held = held; given = given ∙ gone_given k j t.past v.given s.keeps.given })
    (ap (issued h) (sym (named_tellings h t.past rules (gone_put k j t.past).1)) ∙ is.0))

-- ---- asking whether a stream is open

item_nothing : (n : ℕ) → item_at [] n ≡ None
item_nothing zero = refl
item_nothing (suc n) = refl

ended_none : (gone : Bool) (o : Option MessageView) → o ≡ None → (if gone then None else o) ≡ None
ended_none true o e = refl
ended_none false o e = e

-- a stream that didn't begin gave nothing
gave_nothing : (h : Past) (s : Stream) → since_in (phase h.read s) ≡ [] → gave_last h.read s ≡ None
unfolding gave_last offered matched
gave_nothing h s none =
    ended_none s.gone (item_at (drop s.skip (accepted s.rule (since_in (phase h.read s)))) s.taken)
    (ap (λ ms. item_at (drop s.skip (accepted s.rule ms)) s.taken) none ∙ ap (λ ms. item_at (drop s.skip ms) s.taken) (accepted_nothing s.rule)
    ∙ ap (λ ms. item_at ms s.taken) (drop-nil s.skip) ∙ item_nothing s.taken)

-- closing it changes nothing of that
nothing_gone : (h : Past) (k : ℕ) (s : Stream) → slice_get h.streams k ≡ Some s → since_in (phase h.read s) ≡ [] → all_given (after (events.Did k Gone) h) ≡ all_given h
nothing_gone h k s at none =
    let there : slice_get (all_given h) k ≡ Some None = slice_get-map (gave_last h.read) h.streams k ∙ ap (option_map (gave_last h.read)) at ∙ ap Some (gave_nothing h s none) in
    given_along (events.Did k Gone) h tt ∙ set_edit (all_given h) k None ∙ edit-same (λ _. None) (all_given h) k None there refl

abbrev IsTold : Past → ℕ → OpenState → Type 0
IsTold h k state = (all_given (after_all (opening_events k state) h) ≡ all_given h) × (h.closing ≢ Some Error.UnknownHandle → state ≢ OpenState.Over Error.UnknownHandle)

told_by_phase : (h : Past) (k : ℕ) (s : Stream) (p : Phase) (shut : Option Error) → slice_get h.streams k ≡ Some s → phase h.read s ≡ p → h.closing ≡ shut → IsTold h k (opening_by p shut)
told_by_phase h k s (Asking add) None at e shut = (refl, λ known same. cc)
told_by_phase h k s (Asking add) (Some error) at e shut =
    (nothing_gone h k s at (ap since_in e), λ known same. known (let is : error ≡ Error.UnknownHandle = cc in shut ∙ ap Some is))
told_by_phase h k s (Denied m) shut at e closed = (nothing_gone h k s at (ap since_in e), λ known same. cc)
told_by_phase h k s (Since ms) shut at e closed = (given_along (events.Did k streams_events.Opened) h tt, λ known same. cc)

told_at : (h : Past) (k : ℕ) (o : Option Stream) → slice_get h.streams k ≡ o → IsTold h k (opening_at h.read h.closing o)
told_at h k None at = (refl, λ known same. cc)
told_at h k (Some s) at = by (s.gone || s.open_reported)
  where
    by : (unknown : Bool) → IsTold h k (if unknown then OpenState.Unknown else opening_by (phase h.read s) h.closing)
    by true = (refl, λ known same. cc)
    by false = told_by_phase h k s (phase h.read s) h.closing at refl refl

pub opening_told : (h : Past) (k : ℕ) → IsTold h k (opening_answer h k)
unfolding streams_opening_answer
opening_told h k = told_at h k (slice_get h.streams k) refl

opening_makes : (lane k : ℕ) (state : OpenState) → made_owners (Some lane) (opening_events k state) ≡ []
opening_makes lane k OpenState.Unknown = refl
opening_makes lane k state = refl

pub opened_did : (v w : PeerStateView) (t : Replay) (lane k : ℕ) (a : Answer) → StateInvariant v t → HasHandles (after_all (opening_events k (opening_answer t.past k)) t.past) w.handles → w.given ≡ v.given
    → Refines w.core (after_all (opening_events k (opening_answer t.past k)) t.past) → a ≡ answer_of_opening (opening_answer t.past k) → Did w t lane (on_stream t lane StreamOp.Opened k) (plain a)
opened_did v w t lane k a s held given left shown =
    (shown, record { left = left; held = held; given = given ∙ s.keeps.given ∙ sym (opening_told t.past k).0 }, nothing_made lane (opening_events k (opening_answer t.past k)) (opening_makes lane k (opening_answer t.past k)))

-- it isn't one for which the bus was asked
pub unasked_did : (v : PeerStateView) (t : Replay) (lane k : ℕ) → StateInvariant v t → opening_answer t.past k ≡ OpenState.Unknown → Did v t lane (on_stream t lane StreamOp.Opened k) (plain (Answer.Refused Error.UnknownHandle))
unasked_did v t lane k s unknown =
    subst (λ state. Did v t lane (Says (answer_of_opening state) (opening_events k state)) (plain (Answer.Refused Error.UnknownHandle))) (sym unknown) (nothing_did v t lane (Answer.Refused Error.UnknownHandle) s.keeps)

-- ---- streams that may be closed are handed in

-- they are open where both are held open, and the second still is once the first is handed in
pub both_open : (h : Past) (hs : List StreamHandle) (k j : ℕ) (n o : Option ℕ) → HasHandles h hs → n ≡ open_at hs k → o ≡ open_at (edit k without_open hs) j → are_open h k (Some j) ≡ (is_some n && is_some o)
both_open h hs k j n o held first second =
    let one = first ∙ open_named h hs k held in
    let two = second ∙ other_open hs k j ∙ ap (λ o. if k == j then None else o) (open_named h hs j held) in
    by (is_open h k) (is_open h j) (k == j) ∙ sym (ap (λ n. is_some n && is_some (if k == j then None else if_open (is_open h j) j)) one ∙ refl) ∙ sym (ap (λ o. is_some n && is_some o) two)
  where
    by : (a b c : Bool) → (a && b && not c) ≡ (is_some (if_open a k) && is_some (if c then None else if_open b j))
    by true true true = refl
    by true true false = refl
    by true false true = refl
    by true false false = refl
    by false b c = refl

are_closed : (h : Past) (k : ℕ) (o : Option ℕ) → is_open h k ≡ false → are_open h k o ≡ false
are_closed h k None e = e
are_closed h k (Some j) e = ap (λ b. b && is_open h j && not (k == j)) e

-- the state is as it was once what wasn't held open was to be handed in
unheld : (v w : PeerStateView) (k : ℕ) → w ≡ record v { handles = edit k without_open v.handles } → None ≡ open_at v.handles k → w ≡ v
unheld v w k is none = is ∙ ap (λ hs. record v { handles = hs }) (closed_edit v.handles k none)

unended : (v w : PeerStateView) (t : Replay) (lane k : ℕ) (j : Option ℕ) → StateInvariant v t → w ≡ v → are_open t.past k j ≡ false → Did w t lane (ends t.past k (Some j)) (plain (Answer.Refused Error.UnknownHandle))
unended v w t lane k j s same closed =
    subst (λ w. Did w t lane (ends t.past k (Some j)) (plain (Answer.Refused Error.UnknownHandle))) (sym same)
    (subst (λ b. Did v t lane (where_open b (unless_waits (close_waits t.past k j) (leaves t.past k j))) (plain (Answer.Refused Error.UnknownHandle))) (sym closed) (nothing_did v t lane (Answer.Refused Error.UnknownHandle) s.keeps))

-- the first isn't held open
pub first_closed : (v w : PeerStateView) (t : Replay) (lane k : ℕ) (j : Option ℕ) → StateInvariant v t → w ≡ record v { handles = edit k without_open v.handles } → None ≡ open_at v.handles k
    → Did w t lane (ends t.past k (Some j)) (plain (Answer.Refused Error.UnknownHandle))
first_closed v w t lane k j s is none = unended v w t lane k j s (unheld v w k is none) (are_closed t.past k j (held_closed t.past v.handles k v.handles s.keeps.held refl none))

-- the second isn't, once the first is handed in, which is handed back
pub second_closed : (v w x y : PeerStateView) (t : Replay) (lane k j n : ℕ) → StateInvariant v t → w ≡ record v { handles = edit k without_open v.handles } → Some n ≡ open_at v.handles k
    → x ≡ record w { handles = edit j without_open w.handles } → None ≡ open_at w.handles j → y ≡ record x { handles = slice_set x.handles n (StreamHandle.Open n) } → Did y t lane (ends t.past k (Some (Some j))) (plain (Answer.Refused Error.UnknownHandle))
second_closed v w x y t lane k j n s first at second none back =
    let handles : w.handles ≡ edit k without_open v.handles = ap (λ (u : PeerStateView). u.handles) first in
    let same : x ≡ w = unheld w x j second none in
    let named : n ≡ k = (held_open t.past v.handles k v.handles n s.keeps.held refl at).1 in
    let restored : slice_set w.handles n (StreamHandle.Open n) ≡ v.handles = rw (handles, named) (back_edit v.handles k k (rw named at at)) in
    unended v y t lane k (Some j) s
    (back ∙ ap (λ (u : PeerStateView). record u { handles = slice_set u.handles n (StreamHandle.Open n) }) same ∙ ap (λ (u : PeerStateView). record u { handles = slice_set w.handles n (StreamHandle.Open n) }) first ∙ ap (λ hs. record v { handles = hs }) restored)
    (both_open t.past v.handles k j (Some n) None s.keeps.held at (none ∙ ap (λ hs. open_at hs j) handles))

pub handed_one : (v w : PeerStateView) (t : Replay) (k n : ℕ) → StateInvariant v t → w ≡ record v { handles = edit k without_open v.handles } → Some n ≡ open_at v.handles k → (n ≡ k) × HandedIn w t k None
handed_one v w t k n s is at =
    let handles : w.handles ≡ edit k without_open v.handles = ap (λ (u : PeerStateView). u.handles) is in
    let open_ = held_open t.past v.handles k v.handles n s.keeps.held refl at in
    let restored : slice_set w.handles k (StreamHandle.Open k) ≡ v.handles = rw handles (back_edit v.handles k k (rw open_.1 at at)) in (
      open_.1,
      record {
        stands = subst (λ v. StateInvariant v t) (sym (ap (λ (u : PeerStateView). record u { handles = slice_set w.handles k (StreamHandle.Open k) }) is ∙ ap (λ hs. record v { handles = hs }) restored)) s;
        there = open_.0;
        spent = subst (HasHandles (after (events.Did k Gone) t.past)) (sym handles) (held_gone t.past v.handles k s.keeps.held);
      },
    )

pub handed_two : (v w x : PeerStateView) (t : Replay) (k j n m : ℕ) → StateInvariant v t → w ≡ record v { handles = edit k without_open v.handles } → Some n ≡ open_at v.handles k → x ≡ record w { handles = edit j without_open w.handles } → Some m ≡ open_at w.handles j
    → (n ≡ k) × (m ≡ j) × HandedIn x t k (Some j)
handed_two v w x t k j n m s first at second also =
    let handles : w.handles ≡ edit k without_open v.handles = ap (λ (u : PeerStateView). u.handles) first in
    let rest : x.handles ≡ edit j without_open w.handles = ap (λ (u : PeerStateView). u.handles) second in
    let named : n ≡ k = (held_open t.past v.handles k v.handles n s.keeps.held refl at).1 in
    let gone : HasHandles (after (events.Did k Gone) t.past) w.handles = subst (HasHandles (after (events.Did k Gone) t.past)) (sym handles) (held_gone t.past v.handles k s.keeps.held) in
    let other : m ≡ j = (held_open (after (events.Did k Gone) t.past) w.handles j w.handles m gone refl also).1 in
    let one : slice_set x.handles j (StreamHandle.Open j) ≡ w.handles = rw rest (back_edit w.handles j j (rw other at also)) in
    let two : slice_set w.handles k (StreamHandle.Open k) ≡ v.handles = rw handles (back_edit v.handles k k (rw named at at)) in
    let restored : slice_set (slice_set x.handles j (StreamHandle.Open j)) k (StreamHandle.Open k) ≡ v.handles = ap (λ hs. slice_set hs k (StreamHandle.Open k)) one ∙ two in (
      named,
      other,
      record {
        stands = subst (λ v. StateInvariant v t)
            (sym (ap (λ (u : PeerStateView). record u { handles = slice_set (slice_set x.handles j (StreamHandle.Open j)) k (StreamHandle.Open k) }) (second ∙ ap (λ (u : PeerStateView). record u { handles = edit j without_open w.handles }) first) ∙ ap (λ hs. record v { handles = hs }) restored)) s;
        there = both_open t.past v.handles k j (Some n) (Some m) s.keeps.held at (also ∙ ap (λ hs. open_at hs j) handles);
        spent = subst (HasHandles (after (events.Did j Gone) (after (events.Did k Gone) t.past))) (sym rest) (held_gone (after (events.Did k Gone) t.past) w.handles j gone);
      },
    )
