-- The message that each stream gave last, after each event.
use Rattle.peer_core.specs.History.{streams_of}
use Rattle.peer_streams.specs.Streams.{take_answer as streams_take_answer}
use Rattle.peer_streams.specs.{History.{Gave, Gone, Opened, Told, done_by, StreamOrigin, Plain, Ruled, Cloned, Asked, Stream, Phase, Asking, Denied, Since, asks_by, phase, new_stream, clone_of, fail_stream}, Streams.{since_in, accepted, matched, offered, held, item_at, gave_last, runs, take_by}, Refinement.IsWithin}
use Rattle.peer_core.specs.{History.{Event, Received, Passed, PeerClosed, Wrote, WriteFailed, CallFinished, Made, Did, Main, OnBus, Named, Put, Past, after, after_all}, Asked.{all_given, take_answer, take_events}, Refinement.{RouteView, Refines}}
use Rattle.peer_calls.specs.History.{OfLane, AddMatch, RemoveMatch}
use Rattle.wire_message.specs.Plain.{edit}
use Rattle.peer_route.specs.{Names.{Polled, MessageView, Error, Rule}, Plan.given_last}
use Rattle.std.proofs.{Common.{◌≡◌, ℕ, ◌+◌, ◌≤◌, zero, suc, refl, sym, ◌∙◌, ap, arith, ◌||◌, Bool, true, false, if◌then◌else◌, List, [], ◌∷◌, ◌++◌, length, drop, map, Option, Some, None, Result, Ok, Err, option_and_then}, lemmas.List.{map-append, drop-append-le, length-drop}, Math.Seq.drop-nil, lemmas.Option.slice_get-map}
use Rattle.std.specs.{List.{slice_get, slice_set, AllByRecursion}, Option.{option_map, option_flatten, option_and_then}}
use Rattle.wire_message.proofs.{Plain.{map_along, map_each}, Edits.{edit-none, map_edit, map_edit_all, set_edit, get_before, get_first}}
use Rattle.peer_streams.proofs.{Matched.{arriving, matched_took, accepted_nothing}, StreamsMade.runs_so, Looks.take_at}
use mathlib.Core.List.{map-map}

-- ---- a message comes

item_push : (taken : ℕ) (ms xs : List MessageView) → taken ≤ length ms → item_at (ms ++ xs) taken ≡ item_at ms taken
item_push zero ms xs le = refl
item_push (suc n) ms xs le = get_before n ms xs (omega arith)

gave_took : (m : MessageView) (h : Past) (s : Stream) → IsWithin h.read s → gave_last (h.read ++ m ∷ []) s ≡ gave_last h.read s
unfolding gave_last offered
gave_took m h s w =
    let passed = w.passed in
    let some = arriving (phase h.read s) s.rule m in
    let more : drop s.skip (matched (h.read ++ m ∷ []) s) ≡ offered h.read s ++ some = ap (drop s.skip) (matched_took m (streams_of h) s w.start) ∙ drop-append-le s.skip (matched h.read s) some (omega arith) in
    ap (λ ms. if s.gone then None else item_at ms s.taken) more
    ∙ ap (λ o. if s.gone then None else o) (item_push s.taken (offered h.read s) some (omega (arith, length-drop s.skip (matched h.read s))))

-- what streams gave stays when a message comes
pub given_took : (m : MessageView) (v : RouteView) (h : Past) → Refines v h → all_given (after (Received m) h) ≡ all_given h
given_took m v h left = map_along (IsWithin h.read) (gave_last (h.read ++ m ∷ [])) (gave_last h.read) (gave_took m h) h.streams left.streams.within

-- ---- a write fails

item_nothing : (n : ℕ) → item_at [] n ≡ None
item_nothing zero = refl
item_nothing (suc n) = refl

-- a stream that waits gave nothing, and is gone where its AddMatch fails
failed_by : (n skip taken : ℕ) (rule : Option Rule) (gone : Bool) (p : Phase)
    → (if gone || asks_by n p then None else item_at (drop skip (accepted rule (since_in p))) taken) ≡ (if gone then None else item_at (drop skip (accepted rule (since_in p))) taken)
failed_by n skip taken rule true p = refl
failed_by n skip taken rule false (Since ms) = refl
failed_by n skip taken rule false (Denied m) = refl
failed_by n skip taken rule false (Asking add) =
    let none : item_at (drop skip (accepted rule [])) taken ≡ None = ap (λ ms. item_at (drop skip ms) taken) (accepted_nothing rule) ∙ ap (λ ms. item_at ms taken) (drop-nil skip) ∙ item_nothing taken in
    either (asks_by n (Asking add)) (item_at (drop skip (accepted rule [])) taken) none
  where
    either : (b : Bool) (o : Option MessageView) → o ≡ None → (if b then None else o) ≡ o
    either true o e = sym e
    either false o e = refl

gave_failed : (ms : List MessageView) (n : ℕ) (s : Stream) → gave_last ms (fail_stream ms n s) ≡ gave_last ms s
unfolding gave_last offered matched phase
gave_failed ms n s = failed_by n s.skip s.taken s.rule s.gone (phase ms s)

-- ---- each event that gives nothing

-- What it leaves of what streams gave: one that is made gave nothing yet, a clone neither, and of one that was closed nothing can be
-- answered.
abbrev pub left_given : Event → List (Option MessageView) → List (Option MessageView)
left_given (Made making) gs = gs ++ None ∷ []
left_given (Put m (AddMatch rule asked)) gs = gs ++ None ∷ []
left_given (Did k Gone) gs = slice_set gs k None
left_given e gs = gs

abbrev pub all_left_given : List Event → List (Option MessageView) → List (Option MessageView)
all_left_given [] gs = gs
all_left_given (e ∷ es) gs = all_left_given es (left_given e gs)

abbrev pub GivesNone : Event → Type 0
GivesNone (Received m) = ⊥
GivesNone (Did k Gave) = ⊥
GivesNone e = Unit {0}

clone_gave : (h : Past) (o : Option Stream) → gave_last h.read (clone_of (streams_of h) o) ≡ None
unfolding gave_last
clone_gave h None = refl
clone_gave h (Some s) = refl

new_gave : (h : Past) (making : StreamOrigin) → gave_last h.read (new_stream (streams_of h) h.streams making) ≡ None
unfolding gave_last
new_gave h Plain = refl
new_gave h (Ruled rule asked) = refl
new_gave h (Cloned t) = clone_gave h (slice_get h.streams t)

-- a stream more that gave nothing
one_more : (h : Past) (s : Stream) → gave_last h.read s ≡ None → map (gave_last h.read) (h.streams ++ s ∷ []) ≡ all_given h ++ None ∷ []
one_more h s e = map-append (gave_last h.read) h.streams (s ∷ []) ∙ ap (λ o. all_given h ++ o ∷ []) e

-- a change of a stream after which it gave the same
same_gave : (h : Past) (k : ℕ) (f : Stream → Stream) → ((s : Stream) → gave_last h.read (f s) ≡ gave_last h.read s) → map (gave_last h.read) (edit k f h.streams) ≡ all_given h
same_gave h k f e = map_edit_all (gave_last h.read) f (λ o. o) h.streams k e ∙ edit-none (λ o. o) (λ o. refl) (all_given h) k

pub given_along : (e : Event) (h : Past) → GivesNone e → all_given (after e h) ≡ left_given e (all_given h)
unfolding gave_last offered matched phase
given_along (Received m) h x = absurd x
given_along (Passed bytes) h x = refl
given_along (PeerClosed error) h x = refl
given_along (Put m (OfLane waits)) h x = refl
given_along (Put m (AddMatch rule asked)) h x = one_more h _ refl
given_along (Put m RemoveMatch) h x = refl
given_along Wrote h x = refl
given_along WriteFailed h x =
    map-map (gave_last h.read) (fail_stream h.read h.outbox.done) h.streams ∙ map_each (λ s. gave_last h.read (fail_stream h.read h.outbox.done s)) (gave_last h.read) (gave_failed h.read h.outbox.done) h.streams
given_along (CallFinished k) h x = refl
given_along (Made making) h x = one_more h (new_stream (streams_of h) h.streams making) (new_gave h making)
given_along (Did k Gave) h x = absurd x
given_along (Did k Told) h x = same_gave h k (done_by Told) (λ s. refl)
given_along (Did k Gone) h x = map_edit_all (gave_last h.read) (done_by Gone) (λ o. None) h.streams k (λ s. refl) ∙ sym (set_edit (all_given h) k None)
given_along (Did k (Asked limit)) h x = same_gave h k (λ s. s) (λ s. refl)
given_along (Did k Opened) h x = same_gave h k (done_by Opened) (λ s. refl)
given_along (Main limit) h x = refl
given_along OnBus h x = refl
given_along (Named name) h x = refl

-- and several, one after another
pub given_all : (es : List Event) (h : Past) → AllByRecursion GivesNone es → all_given (after_all es h) ≡ all_left_given es (all_given h)
given_all [] h a = refl
given_all (e ∷ es) h a = given_all es (after e h) a.1 ∙ ap (all_left_given es) (given_along e h a.0)

-- ---- a stream gives

-- for each stream the message that it gave last, after a take
abbrev pub given_after : ℕ → Result (Polled MessageView) Error → List (Option MessageView) → List (Option MessageView)
given_after k (Ok (Polled.Now m)) gs = slice_set gs k (Some m)
given_after k other gs = gs

gave_now : (ms : List MessageView) (s : Stream) (m : MessageView) (rest : List MessageView) → s.gone ≡ false → held ms s ≡ m ∷ rest → gave_last ms (done_by Gave s) ≡ Some m
unfolding gave_last held offered matched phase
gave_now ms s m rest still e =
    ap (λ b. if b then None else item_at (offered ms s) (s.taken + 1)) still
    ∙ ap (item_at (offered ms s)) (let n : s.taken + 1 ≡ suc s.taken = omega arith in n) ∙ get_first s.taken (offered ms s) m rest e

given_by_take : (h : Past) (k : ℕ) (s : Stream) (items : List MessageView) (error : Option Error) (closing_delivered : Bool) → slice_get h.streams k ≡ Some s → s.gone ≡ false → held h.read s ≡ items
    → all_given (after_all (take_events k (Ok (take_by items error closing_delivered))) h) ≡ given_after k (Ok (take_by items error closing_delivered)) (all_given h)
given_by_take h k s (m ∷ ms) error closing_delivered at still e =
    map_edit (gave_last h.read) (done_by Gave) (λ _. Some m) h.streams k s at (gave_now h.read s m ms still e) ∙ sym (set_edit (all_given h) k (Some m))
given_by_take h k s [] None closing_delivered at still e = refl
given_by_take h k s [] (Some error) false at still e = given_along (Did k Told) h tt
given_by_take h k s [] (Some error) true at still e = refl

given_if : (h : Past) (k : ℕ) (s : Stream) (open_ : Bool) → slice_get h.streams k ≡ Some s → runs h.read s ≡ open_
    → all_given (after_all (take_events k (if open_ then Ok (take_by (held h.read s) h.closing s.closing_delivered) else Err Error.UnknownHandle)) h)
    ≡ given_after k (if open_ then Ok (take_by (held h.read s) h.closing s.closing_delivered) else Err Error.UnknownHandle) (all_given h)
given_if h k s false at e = refl
given_if h k s true at e = let is = runs_so (streams_of h) s e in given_by_take h k s (held h.read s) h.closing s.closing_delivered at is.still refl

given_take_at : (h : Past) (k : ℕ) (o : Option Stream) → slice_get h.streams k ≡ o
    → all_given (after_all (take_events k (take_at h.read h.closing o)) h) ≡ given_after k (take_at h.read h.closing o) (all_given h)
given_take_at h k None at = refl
given_take_at h k (Some s) at = given_if h k s (runs h.read s) at refl

pub given_taken : (h : Past) (k : ℕ) → all_given (after_all (take_events k (take_answer h k)) h) ≡ given_after k (take_answer h k) (all_given h)
unfolding streams_take_answer
given_taken h k = given_take_at h k (slice_get h.streams k) refl

-- ---- what a number names

by_stream : (h : Past) (o : Option Stream) → option_flatten (option_map (gave_last h.read) o) ≡ option_and_then (gave_last h.read) o
by_stream h None = refl
by_stream h (Some s) = refl

pub last_given : (h : Past) (k : ℕ) → option_flatten (slice_get (all_given h) k) ≡ given_last h k
last_given h k = ap option_flatten (slice_get-map (gave_last h.read) h.streams k) ∙ by_stream h (slice_get h.streams k)
