-- The core after each event.
use Rattle.peer_calls.proofs.{CallsMade.{IsSound, places-edit, places-fail, sound_after}}
use Rattle.peer_calls.specs.{History.{CallsEvent, CallsPast, worse, shuts}, Calls.{reply}, Refinement.{slot_of, CallsView, RefinesCalls}}
use Rattle.peer_core.specs.{History.{Event, calls_of, streams_of, to_calls, calls_after, Received, Passed, PeerClosed, Wrote, WriteFailed, CallFinished, Made, Did, Main, Past, after, after_all}, Names.{MessageView, Error, Rule, Polled, OpenState, Writer}, Asked.{poll_events, busy, is_open, take_events, has_rule, ask_answer, opening_events}, Refinement.{is_busy, RouteView, Refines}}
use Rattle.std.proofs.{Common.{rules, max, ◌≡◌, ℕ, ◌+◌, is_some, ◌&&◌, is_none, if◌then◌else◌, refl, sym, ◌∙◌, ap, Bool, true, false, List, [], ◌∷◌, length, Option, Some, None, Result, Ok, Err, length-append}, lemmas.List.{length-map}}
use Rattle.std.specs.{List.{list_any, slice_get}}
use Rattle.peer_streams.proofs.{Looks.runs_at, StreamsMade.over_any}
use Rattle.wire_message.specs.{Polls.by_position}
use Rattle.peer_streams.specs.{History.{StreamOrigin, Cloned, StreamEvent, Gave, Told, Gone, Asked, Opened, Stream, rule_of}, Refinement.{StreamView, is_over, RefinesStreams, kept, ClonesBy}}
use Rattle.peer_calls.specs.History.{after_all as calls_after_all}
use Rattle.peer_calls.specs.Calls.{poll_events as calls_poll_events}
use Rattle.peer_streams.specs.History.{after_all as streams_after_all}
use Rattle.peer_streams.specs.Streams.{take_events as streams_take_events}
use Rattle.peer_streams.specs.Streams.{opening_events as streams_opening_events}
use Rattle.peer_streams.specs.Streams.{ask_answer as streams_ask_answer}
use Rattle.peer_streams.specs.Streams.{is_open as streams_is_open}
use Rattle.peer_streams.specs.Streams.{busy as streams_busy}

pub takes_so : (k : ℕ) (r : Result (Polled MessageView) Error) → take_events k (by_position r) ≡ take_events k r
takes_so k (Ok (Polled.Now m)) = refl
takes_so k other = refl

-- what holds of each past of calls is kept by each event
pub sound_past : (e : Event) (h : Past) → IsSound (calls_of h) → IsSound (calls_of (after e h))
sound_past e h s = by (to_calls e) (calls_of h) s
  where
    by : (o : Option CallsEvent) (p : CallsPast) → IsSound p → IsSound (calls_after o p)
    by None p s = s
    by (Some e) p s = sound_after e p s

-- ---- the whole core

pub left_wrote : (v : RouteView) (h : Past) → Refines v h → Refines (record v { done = v.done + 1 }) (after Wrote h)
unfolding slot_of reply
left_wrote v h left = search rules

pub left_fault : (v : RouteView) (cv : CallsView) (sv : List StreamView) (h : Past) → Refines v h → RefinesCalls cv (calls_of (after WriteFailed h)) → RefinesStreams sv (streams_of (after WriteFailed h))
    → Refines (record v { calls = cv; streams = sv; done = v.done + 1; writer = worse v.writer Writer.Failed }) (after WriteFailed h)
left_fault v cv sv h left after kept =
    let placed = left.places ∙ sym (places-fail h.outbox.done h.calls) in
    let sound = sound_past WriteFailed h left.sound in search rules

pub left_spent : (v : RouteView) (cv : CallsView) (k : ℕ) (h : Past) → Refines v h → RefinesCalls cv (calls_of (after (CallFinished k) h)) → Refines (record v { calls = cv }) (after (CallFinished k) h)
left_spent v cv k h left after =
    let placed = left.places ∙ sym (places-edit k h.calls) in
    let sound = sound_past (CallFinished k) h left.sound in search rules

pub left_same : (v : RouteView) (cv : CallsView) (h : Past) → Refines v h → RefinesCalls cv (calls_of h) → Refines (record v { calls = cv }) h
left_same v cv h left after = search rules

pub left_polled : (v : RouteView) (cv : CallsView) (k : ℕ) (r : Result (Polled MessageView) Error) (h : Past) → Refines v h
    → RefinesCalls cv (calls_after_all (calls_poll_events k r) (calls_of h)) → Refines (record v { calls = cv }) (after_all (poll_events k r) h)
left_polled v cv k (Ok (Polled.Now m)) h left after = left_spent v cv k h left after
left_polled v cv k (Ok (Polled.Closed error)) h left after = left_spent v cv k h left after
left_polled v cv k other h left after = left_same v cv h left after

-- ---- streams

pub left_took : (v : RouteView) (cv : CallsView) (sv : List StreamView) (m : MessageView) (h : Past) → Refines v h → RefinesCalls cv (calls_of (after (Received m) h)) → RefinesStreams sv (streams_of (after (Received m) h))
    → Refines (record v { calls = cv; streams = sv; read = v.read + 1 }) (after (Received m) h)
left_took v cv sv m h left after streams_after =
    let one_more = ap (λ n. n + 1) left.read ∙ sym (length-append h.read (m ∷ [])) in search rules

-- a front that was ignored leaves the core as it is
pub left_passed : (v : RouteView) (bytes : List ℕ) (h : Past) → Refines v h → Refines v (after (Passed bytes) h)
left_passed v bytes h left = search rules

pub left_shut : (v : RouteView) (cv : CallsView) (error : Error) (h : Past) → Refines v h → RefinesCalls cv (calls_of (after (PeerClosed error) h)) → Refines (record v { calls = cv; writer = worse v.writer (shuts error) }) (after (PeerClosed error) h)
left_shut v cv error h left after =
    let sound = sound_past (PeerClosed error) h left.sound in search rules

pub left_made : (v : RouteView) (sv : List StreamView) (making : StreamOrigin) (h : Past) → Refines v h → RefinesStreams sv (streams_of (after (Made making) h)) → Refines (record v { streams = sv }) (after (Made making) h)
left_made v sv making h left after = search rules

-- the main capacity is set
pub left_main : (v : RouteView) (limit : ℕ) (h : Past) → Refines v h → Refines (record v { main = limit }) (after (Main limit) h)
left_main v limit h left = search rules

-- a stream did something
pub left_did : (v : RouteView) (sv : List StreamView) (limit k : ℕ) (deed : StreamEvent) (h : Past) → Refines v h → RefinesStreams sv (streams_of (after (Did k deed) h)) → limit ≡ (after (Did k deed) h).capacities.main
    → Refines (record v { streams = sv; main = limit }) (after (Did k deed) h)
left_did v sv limit k deed h left after capacity = search rules

pub left_idle : (v : RouteView) (sv : List StreamView) (h : Past) → Refines v h → RefinesStreams sv (streams_of h) → Refines (record v { streams = sv }) h
left_idle v sv h left after = search rules

pub left_taken : (v : RouteView) (sv : List StreamView) (k : ℕ) (r : Result (Polled MessageView) Error) (h : Past) → Refines v h
    → RefinesStreams sv (streams_after_all (streams_take_events k r) (streams_of h)) → Refines (record v { streams = sv }) (after_all (take_events k r) h)
left_taken v sv k (Ok (Polled.Now m)) h left after = left_did v sv v.main k Gave h left after left.main
left_taken v sv k (Ok (Polled.Closed error)) h left after = left_did v sv v.main k Told h left after left.main
left_taken v sv k other h left after = left_idle v sv h left after

pub left_opened : (v : RouteView) (sv : List StreamView) (k : ℕ) (state : OpenState) (h : Past) → Refines v h
    → RefinesStreams sv (streams_after_all (streams_opening_events k state) (streams_of h)) → Refines (record v { streams = sv }) (after_all (opening_events k state) h)
left_opened v sv k OpenState.Open h left after = left_did v sv v.main k Opened h left after left.main
left_opened v sv k (OpenState.Refused m) h left after = left_did v sv v.main k Gone h left after left.main
left_opened v sv k (OpenState.Over error) h left after = left_did v sv v.main k Gone h left after left.main
left_opened v sv k other h left after = left_idle v sv h left after

pub left_cloned : (v : RouteView) (sv : List StreamView) (k : ℕ) (r : Result ℕ Error) (h : Past) → Refines v h → ClonesBy (RefinesStreams sv (streams_of (after (Made (Cloned k)) h))) v.streams sv k (streams_of h) r → ClonesBy (Refines (record v { streams = sv }) (after (Made (Cloned k)) h)) v (record v { streams = sv }) k (streams_of h) r
left_cloned v sv k (Ok stream) h left c = (c.0, c.1, left_made v sv (Cloned k) h left c.2)
left_cloned v sv k (Err Error.UnknownHandle) h left c = (c.0, ap (λ qs. record v { streams = qs }) c.1)
left_cloned v sv k (Err Error.Memory) h left c = ap (λ qs. record v { streams = qs }) c
left_cloned v sv k (Err other) h left c = absurd c

pub ask_so : (h : Past) (k : ℕ) (b : Bool) → is_open h k ≡ b → ask_answer h k ≡ (if b then Ok tt else Err Error.UnknownHandle)
unfolding streams_ask_answer
ask_so h k b e = ap (λ x. if x then Ok tt else Err Error.UnknownHandle) e

-- a stream without a rule asks for more, and the main capacity is raised; or one with a rule, and it stays
asked_main : (h : Past) (o : Option Stream) (limit n : ℕ) (b : Bool) → is_some (rule_of o) ≡ b → runs_at h.read o ≡ true → (if b then n else max n limit) ≡ (if is_some o && is_none (rule_of o) then max n limit else n)
asked_main h None limit n b e there = cc
asked_main h (Some s) limit n b e there = by s.rule b e
  where
    by : (o : Option Rule) (c : Bool) → is_some o ≡ c → (if c then n else max n limit) ≡ (if is_none o then max n limit else n)
    by None true x = cc
    by None false x = refl
    by (Some rule) true x = refl
    by (Some rule) false x = cc

pub left_asked : (v : RouteView) (sv : List StreamView) (k limit : ℕ) (b : Bool) (h : Past) → is_open h k ≡ true → b ≡ has_rule h k → Refines v h → RefinesStreams sv (streams_of (after (Did k (Asked limit)) h))
    → Refines (record v { streams = sv; main = if b then v.main else max v.main limit }) (after (Did k (Asked limit)) h)
unfolding streams_is_open
left_asked v sv k limit b h there e left after =
    left_did v sv (if b then v.main else max v.main limit) k (Asked limit) h left after
    (ap (λ n. if b then n else max n limit) left.main ∙ asked_main h (slice_get h.streams k) limit h.capacities.main b (sym e) there)

pub busy_left : (v : RouteView) (h : Past) → Refines v h → is_busy v ≡ busy h
unfolding is_busy streams_busy
busy_left v h left =
    ap (λ o. is_none o && list_any (is_over v.main) v.streams) left.calls.closing
    ∙ ap (λ n. is_none h.closing && list_any (is_over n) v.streams) left.main
    ∙ ap (λ b. is_none h.closing && b) (over_any v.streams (streams_of h) left.streams)

pub streams_len : (v : RouteView) (h : Past) → Refines v h → length v.streams ≡ length h.streams
streams_len v h left = ap length left.streams.shown ∙ length-map h.streams (kept h.capacities.rules h.read)
